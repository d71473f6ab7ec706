-- As many as the set leaves.
-- Assumes nothing.
use mathlib.Core.Path.{◌≡◌, refl, sym, ap, ◌∙◌}
use mathlib.Core.Bool.{Bool, true, false, cond}
use mathlib.Core.List.{List, [], ◌∷◌}
use Prim.Native.Nat.{ℕ, suc, ◌*◌, ◌≤◌}
use native.Mathlib.Nat.{mul-one, mul-le-mul}
use native.Mathlib.Omega.{arith}
use lib.ListN.{length, get_or}
use Rattle.model.specs.Lists.{up_from}
use Rattle.model.specs.Model.{action_count}
use Rattle.model.specs.Recursion.{feasible}
use Rattle.laws.specs.Joined.{up_from_long}
use Rattle.accepted.specs.Facts.{accepted}
use Rattle.sets.specs.Sets.{has, free}
use Rattle.enumerate.specs.Ways.{ways_at}
use Rattle.enumerate.proofs.times.Goals as goal
use Rattle.enumerate.proofs.times.Goals.{After-count_free-c}

-- how many bytes a state can have, by the number of its actions
none_at : (xs : List ℕ) → length xs ≡ 0 → ways_at xs ≡ 1
none_at [] e = refl
none_at (x ∷ xs) e = absurd (omega arith)

some_at : (xs : List ℕ) → (length xs ≡ 0 → ⊥) → ways_at xs ≡ length xs
some_at [] n = absurd (n refl)
some_at (x ∷ xs) n = refl

-- a set leaves no more than there are
free-most : (mask : ℕ) (xs : List ℕ) → length (free mask xs) ≤ length xs
free-most mask [] = omega arith
free-most mask (x ∷ xs) = go (has mask x) (free-most mask xs)
  where
    go : (t : Bool) → length (free mask xs) ≤ length xs → length (cond t (free mask xs) (x ∷ free mask xs)) ≤ suc (length xs)
    go true h = omega arith
    go false h = omega arith

pub bounds-off-p : goal.bounds-off-p
bounds-off-p c =
    let s = c in
    omega (arith, s.requires.2, (accepted s.args.b.now s.requires.0.ok).sizes.s_high)

pub count_free-c-requires : goal.count_free-c-requires
count_free-c-requires c =
    let n = c in
    let s = n in
    omega (arith, n.count-n.ensures, (accepted s.args.b.now s.requires.0.ok).counts_high s.args.p s.requires.2)

-- the actions were counted
module _ (f : goal.After-count_free-c) where
  abbrev n : goal.After-count_free-c
  n = f

  abbrev s : goal.After-count_free-c
  s = f

  abbrev actions : List ℕ
  actions = feasible s.args.b.now s.args.p

  counted : f.count_free-c.result ≡ length actions
  counted =
      f.count_free-c.ensures
      ∙ ap (λ (m : ℕ). length (free (get_or s.args.off.now s.args.p 0) (up_from 0 m))) n.count-n.ensures
      ∙ ap length (s.requires.1.leaves s.args.p s.requires.2)

  few : length actions ≤ 8
  few = omega (
    arith,
    ap length (sym (s.requires.1.leaves s.args.p s.requires.2)),
    free-most (get_or s.args.off.now s.args.p 0) (up_from 0 (action_count s.args.b.now s.args.p)),
    up_from_long 0 (action_count s.args.b.now s.args.p),
    (accepted s.args.b.now s.requires.0.ok).counts_high s.args.p s.requires.2,
  )

pub returns-then-c-eq0 : goal.returns-then-c-eq0
returns-then-c-eq0 c =
    let f = (goal.at.returns-then-c-eq0 c).After-count_free-c in
    rw (none_at (actions f) (sym (counted f) ∙ c.if-c-eq0.true)) (sym (mul-one (s f).args.product))

pub overflow_mul-result : goal.overflow_mul-result
overflow_mul-result c =
    let f = (goal.at.overflow_mul-result c).After-count_free-c in
    omega (arith, mul-le-mul {n₁ = (s f).args.product} {m₁ = f.count_free-c.result} {n₂ = 65535} {m₂ = 8} (s f).requires.3 (omega (arith, counted f, few f)))

pub returns : goal.returns
returns c =
    let f = (goal.at.returns c).After-count_free-c in
    ap (λ (m : ℕ). (s f).args.product * m) (counted f ∙ sym (some_at (actions f) (λ z. c.if-c-eq0.false (counted f ∙ z))))
