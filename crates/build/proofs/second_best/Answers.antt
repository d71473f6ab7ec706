-- Where the set leaves no action there is no other; else the set with c leaves what is left without c.
-- Assumes nothing.
use mathlib.Core.Path.{◌≡◌, sym, ap, ◌∙◌}
use mathlib.Core.Logic.{◌⊎◌, inl, inr}
use mathlib.Core.List.{List}
use Prim.Native.Nat.{ℕ, ◌<◌}
use native.Mathlib.Omega.{arith}
use lib.IntN.{ℤ}
use Rattle.model.specs.Lists.{up_from}
use Rattle.model.specs.Recursion.{best_of}
use Rattle.laws.specs.Members.{In, Every, in_every, every_in, up_from_in}
use Rattle.laws.specs.Best.{best_cases}
use Rattle.sets.specs.Sets.{with, free, free_in, free-with}
use Rattle.table.specs.Table.{row_of}
use Rattle.build.proofs.Best.{none-best}
use Rattle.build.proofs.second_best.Goals as goal
use Rattle.build.proofs.second_best.Goals.{Start}

module _ (s : goal.Start) where
  abbrev f : ℕ → ℤ
  f = row_of s.args.q.now s.args.p

  -- what the set leaves
  abbrev xs : List ℕ
  xs = free s.args.off (up_from 0 s.args.n)

  below : Every (λ c. c < 8) xs
  below =
      in_every (λ c. c < 8) xs
      (λ c i. omega (arith, s.requires.1, up_from_in 0 s.args.n (free_in s.args.off c (up_from 0 s.args.n) i)))

  -- an action that is found is one of them
  small : (s.args.c ≡ 255 → ⊥) → s.args.c < 8
  small n = go (best_cases f xs)
    where
      go : (best_of f xs ≡ 255) ⊎ In (best_of f xs) xs → s.args.c < 8
      go (inl e) = absurd (n (s.requires.2 ∙ e))
      go (inr i) = omega (arith, s.requires.2, every_in (λ c. c < 8) xs below (best_of f xs) i)

pub returns-then-c-eq255 : goal.returns-then-c-eq255
returns-then-c-eq255 c =
    let s = (goal.at.returns-then-c-eq255 c).Start in
    sym (ap (λ (ys : List ℕ). best_of (f s) (free (with 0 s.args.c) ys)) (none-best (f s) (xs s) (below s) (sym s.requires.2 ∙ c.if-c-eq255.true)))

pub with-own-requires : goal.with-own-requires
with-own-requires c = small (goal.at.with-own-requires c).Start c.if-c-eq255.false

pub returns : goal.returns
returns c =
    let s = (goal.at.returns c).Start in
    c.best_action.ensures
    ∙ ap (λ (m : ℕ). best_of (f s) (free m (up_from 0 s.args.n))) c.with-own.ensures
    ∙ ap (best_of (f s)) (free-with s.args.off s.args.c (up_from 0 s.args.n))
