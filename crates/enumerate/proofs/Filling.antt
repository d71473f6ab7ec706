-- The lowest bytes, filled in state by state.
-- Assumes nothing.
use mathlib.Core.Path.{◌≡◌, refl, sym, ap, ap₂, ◌∙◌, subst}
use mathlib.Core.Bool.{Bool, true, false}
use mathlib.Core.Logic.{◌⊎◌, inl, inr}
use mathlib.Core.List.{List, [], ◌∷◌, ◌++◌, append-nil}
use Prim.Native.Nat.{ℕ, suc, ◌+◌, ◌-◌, ◌≤◌, ◌<◌}
use native.Mathlib.Nat.{add-zero, add-suc, suc-add}
use native.Mathlib.Numerals.{add-one}
use native.Mathlib.Omega.{arith}
use borrow.Author.Tests.{ltb-true, ltb-false}
use lib.Dec.{ltb}
use lib.ListN.{length, get_or, set, take}
use lib.Seq.{take_all, take-suc-set, take-set-le, length-take-le, append_snoc, get_or-set_same, get_or-set_other}
use Rattle.model.specs.Lists.{is_in}
use Rattle.model.specs.Model.{Words, Action, state_count, action}
use Rattle.model.specs.Questions.{book_number}
use Rattle.model.specs.Policy.{Policy, allowed, onward}
use Rattle.model.specs.Recursion.{feasible}
use Rattle.laws.specs.Members.{In}
use Rattle.laws.specs.Policies.{reached_from}
use Rattle.accepted.specs.Options.{Feasible, feasible_small}
use Rattle.sets.specs.Sets.{has, SetOf}
use Rattle.next_policy.specs.Next.{first_of, bytes_at, lowest_from}
use Rattle.enumerate.specs.Steps.{lowest_at, Lowest, Onward, reached_before, ReachedBefore, ReachTo, filled_from}

-- the states reached after one byte more
reached-more : (act : ℕ → ℕ → Action) (p : ℕ) (reach : List ℕ) (bs : Policy) (c : ℕ)
    → reached_from act p reach (bs ++ (c ∷ [])) ≡ onward act (p + length bs) c (reached_from act p reach bs)
reached-more act p reach [] c = rw (add-zero p)
reached-more act p reach (b ∷ bs) c = rw (add-suc, ← suc-add) (reached-more act (suc p) (onward act p b reach) bs c)

-- the first of a list is one of it, or there is none
first_in : (xs : List ℕ) → (first_of xs ≡ 255) ⊎ In (first_of xs) xs
first_in [] = inl refl
first_in (x ∷ xs) = inr (inl refl)

module _ (ws : Words) (p : ℕ) where
  -- the lowest byte is no action or a feasible one
  pub lowest-action : (t : Bool) → (lowest_at ws p t ≡ 255) ⊎ Feasible ws p (lowest_at ws p t)
  lowest-action true = first_in (feasible ws p)
  lowest-action false = inl refl

  pub lowest_small : book_number ws ≡ 0 → p < state_count ws → (c : ℕ) → (c ≡ 255) ⊎ Feasible ws p c → c ≤ 255
  lowest_small ok l c (inl e) = omega arith
  lowest_small ok l c (inr f) = omega (arith, feasible_small ws ok p l {c = c} f)

  -- it is the first of the bytes allowed
  lowest-first : (known : ℕ) (qs : List ℕ) → SetOf known qs → lowest_at ws p (has known p) ≡ first_of (bytes_at (action ws) (feasible ws) p qs)
  lowest-first known qs s = rw (s.at p) (go (is_in p qs))
    where
      go : (t : Bool) → lowest_at ws p t ≡ first_of (allowed (feasible ws p) t)
      go true = refl
      go false = refl

-- ---- one state more

module _ (ws : Words) (bs : Policy) (long : length bs ≡ state_count ws) (p : ℕ) (l : p < state_count ws) (known c : ℕ) (reached : ReachedBefore ws bs p known) where
  abbrev cs : Policy
  cs = set bs p c

  -- the bytes before p + 1, and what they reach
  pub front : take (p + 1) cs ≡ take p bs ++ (c ∷ [])
  front = rw add-one (take-suc-set bs p c (omega arith))

  pub reached_is : reached_before ws cs (p + 1) ≡ onward (action ws) p c (reached_before ws bs p)
  reached_is =
      let e : 0 + length (take p bs) ≡ p = omega (arith, length-take-le p bs (omega arith)) in
      ap (reached_from (action ws) 0 (0 ∷ [])) front ∙ reached-more (action ws) 0 (0 ∷ []) (take p bs) c
      ∙ ap (λ (n : ℕ). onward (action ws) n c (reached_before ws bs p)) e

  pub reached-next : (after : ℕ) → Onward ws p c known after → ReachedBefore ws cs (p + 1) after
  reached-next after h = subst (SetOf after) (sym reached_is) (h (reached_before ws bs p) reached)

  -- what is filled in from p on begins with the lowest byte
  pub filled_next : Lowest ws p known c → filled_from ws bs p ≡ filled_from ws cs (p + 1)
  filled_next e =
      let m : state_count ws - p ≡ suc (state_count ws - (p + 1)) = omega arith in
      let f : c ≡ first_of (bytes_at (action ws) (feasible ws) p (reached_before ws bs p)) = e ∙ lowest-first ws p known (reached_before ws bs p) reached in
      ap (λ (n : ℕ). take p bs ++ lowest_from (action ws) (feasible ws) n p (reached_before ws bs p)) m
      ∙ rw (← f) (sym (append_snoc (take p bs) c (rest (suc p))))
      ∙ ap₂ ◌++◌ (sym front) (ap rest (sym (add-one p)) ∙ ap (lowest_from (action ws) (feasible ws) (state_count ws - (p + 1)) (p + 1)) (sym reached_is))
    where
      rest : ℕ → Policy
      rest n = lowest_from (action ws) (feasible ws) (state_count ws - (p + 1)) n (onward (action ws) p c (reached_before ws bs p))

  -- the sets of the states up to p
  pub sets_next : (reach : List ℕ) → length reach ≡ 64 → p < 64 → ReachTo ws bs p reach → ReachTo ws cs (p + 1) (set reach p known)
  sets_next reach n s h q k = go (ltb q p) refl
    where
      same : (q : ℕ) → q ≤ p → reached_before ws bs q ≡ reached_before ws cs q
      same q k = ap (reached_from (action ws) 0 (0 ∷ [])) (sym (take-set-le q bs p c k))

      go : (t : Bool) → ltb q p ≡ t → ReachedBefore ws cs q (get_or (set reach p known) q 0)
      go true e =
          let b = ltb-true q p e in
          subst (λ (m : ℕ). ReachedBefore ws cs q m) (sym (get_or-set_other reach p q known 0 (λ z. omega arith))) (subst (SetOf (get_or reach q 0)) (same q (omega arith)) (h q b))
      go false e =
          let z : q ≡ p = omega (arith, ltb-false q p e) in
          rw z (subst (λ (m : ℕ). ReachedBefore ws cs p m) (sym (get_or-set_same reach p known 0 (omega arith))) (subst (SetOf known) (same p (omega arith)) reached))

-- nothing is left to be filled in
pub filled_all : (ws : Words) (bs : Policy) (p : ℕ) → length bs ≡ state_count ws → state_count ws ≤ p → filled_from ws bs p ≡ bs
filled_all ws bs p long h = let e : state_count ws - p ≡ 0 = omega arith in rw (e, append-nil (take p bs)) (take_all p bs (omega arith))
