-- The counts and the two columns, by the sizes that were read.
-- Assumes nothing.
use mathlib.Core.Path.{◌≡◌, refl, ap, ◌∙◌}
use Prim.Native.Nat.{ℕ, ◌+◌}
use native.Mathlib.Omega.{arith}
use lib.IntN.{nat_abs}
use Rattle.model.specs.Model.{Words, word, horizon, action_count, left, right, branches, stage_size}
use Rattle.book.specs.Read.{SizesAre}
use Rattle.book.specs.declared.Sizes.{Sizes}

module _ (ws : Words) (z : Sizes) (are : SizesAre ws z) (i : ℕ) where
  pub left_is : (k : ℕ) → k ≡ z.columns + i → word ws k ≡ left ws i
  unfolding left
  left_is k e = ap (word ws) (omega (arith, e, are.columns_is))

  pub right_is : (k : ℕ) → k ≡ z.columns + z.l + i → word ws k ≡ right ws i
  unfolding right
  right_is k e = ap (word ws) (omega (arith, e, are.columns_is, are.l_is))

  pub branches_are : (r : ℕ) → r ≡ nat_abs (word ws (z.columns + i)) → r ≡ branches ws i
  unfolding branches
  branches_are r e = e ∙ ap nat_abs (left_is (z.columns + i) refl)

  pub size_is : (n r : ℕ) → r ≡ nat_abs (word ws (4 + n)) → r ≡ stage_size ws (n + 1)
  unfolding stage_size
  size_is n r e = let q : 4 + n ≡ 3 + (n + 1) = omega arith in rw q at e

-- the number of actions of state p, as it was read
pub count_is : (ws : Words) (h p r : ℕ) → h ≡ horizon ws → r ≡ nat_abs (word ws (4 + h + p)) → r ≡ action_count ws p
unfolding action_count
count_is ws h p r e f = rw e at f
