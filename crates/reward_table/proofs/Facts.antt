-- The questions 25 and 26 by the words that are read.
-- Assumes nothing.
use mathlib.Core.Path.{◌≡◌, refl, sym, ap, ap₂, ◌∙◌}
use Prim.Native.Nat.{ℕ, zero, suc, ◌+◌, ◌-◌, ◌≤◌, ◌<◌}
use native.Mathlib.Numerals.{add-one}
use native.Mathlib.Omega.{arith}
use borrow.Author.Tests.{le-leb, lt-leb, ne_eqb}
use Rattle.std.proofs.lemmas.Bool.Decides.{nat_tests}
use lib.Dec.{eqb}
use mir.Syntax.{w64}
use mir.Val.{SFits, of_z}
use lib.IntN.{ℤ, pos, negsuc, nat_abs, ◌+ℤ◌}
use lib.ListN.{length, take, drop, get_or, length-drop}
use lib.Seq.{length-take-le, get_or-take, get_or-drop}
use lib.Signed.{le_z, lt_z}
use Rattle.model.specs.Lists.{all}
use Rattle.model.specs.Model.{Words, word}
use Rattle.model.specs.Questions.{inside}
use Rattle.questions.specs.Ranges.{all_same}
use Rattle.reward_table.specs.Table.{table_states, table_count, table_left, table_right, table_branches, table_state_line}
use Rattle.reward_table.specs.Table.{closing_line}
use Rattle.reward_table.specs.Table.{sum_z, weights_add, closing_bare, amount_inside, reward_inside}
use Rattle.reward_table.specs.Read.{TableRead}
use Rattle.reward_table.specs.Says.{closing_rewards}
use Rattle.reward_table.specs.declared.Table.{Table}

-- ---- signed tests

pub above_zero : (z : ℤ) → lt_z (negsuc 0) z ≡ le_z (pos 0) z
above_zero (pos n) = sym (le-leb 0 n (omega arith))
above_zero (negsuc n) = lt-leb (suc n) 0 (omega arith)

pub above_one : (z : ℤ) → lt_z (pos 0) z ≡ le_z (pos 1) z
above_one (pos n) = refl
above_one (negsuc n) = refl

-- ---- the columns, by the sizes that were read

module _ (t : Words) (z : Table) (are : TableRead t z) (i : ℕ) where
  pub left_at : (k : ℕ) → k ≡ z.columns + i → word t k ≡ table_left t i
  unfolding table_left
  left_at k e = ap (word t) (omega (arith, e, are.columns_is))

  pub right_at : (k : ℕ) → k ≡ z.columns + z.l + i → word t k ≡ table_right t i
  unfolding table_right
  right_at k e = ap (word t) (omega (arith, e, are.columns_is, are.l_is))

  pub branches_at : (r : ℕ) → r ≡ nat_abs (word t (z.columns + i)) → r ≡ table_branches t i
  unfolding table_branches
  branches_at r e = e ∙ ap nat_abs (left_at (z.columns + i) refl)

pub count_at : (t : Words) (s r : ℕ) → r ≡ nat_abs (word t (5 + s)) → r ≡ table_count t s
unfolding table_count
count_at t s r e = e

-- ---- sums of words

pub sum_more : (n : ℕ) (f : ℕ → ℤ) → sum_z (n + 1) f ≡ sum_z n f +ℤ f n
sum_more n f = rw add-one

sum_z-same : (n : ℕ) (f g : ℕ → ℤ) → ((i : ℕ) → i < n → f i ≡ g i) → sum_z n f ≡ sum_z n g
sum_z-same zero f g h = refl
sum_z-same (suc n) f g h = ap₂ ◌+ℤ◌ (sum_z-same n f g (λ i l. h i (omega arith))) (h n (omega arith))

-- a sum that is a number, as the code compares them
exact : (d : ℕ) (y : ℤ) → SFits w64 y → d ≤ 100 → eqb (of_z w64 y) d ≡ inside (pos d) (pos d) y
exact d (pos n) f h = grind (arith, nat_tests)
exact d (negsuc n) f h = let k = f.sfits in ne_eqb (of_z w64 (negsuc n)) d (λ e. omega (arith, e, k))

-- the weights of an action, as they were read and added
pub weights_as : (t : Words) (z : Table) → TableRead t z → z.d ≤ 100 → (j at r : ℕ) → at ≡ z.columns + j + z.l + 1 → r ≡ table_branches t j
    → at + r ≤ length t → (y : ℤ) → SFits w64 y → (let ws = take (at + r - at) (drop at t) in y ≡ sum_z (length ws) (word ws))
    → eqb (of_z w64 y) z.d ≡ weights_add t j
unfolding weights_add word
weights_as t z are h j at r a b room y f e =
    let k : at + r - at ≡ r = omega arith in
    let n = length-take-le r (drop at t) (omega (arith, length-drop at t, room)) in
    exact z.d y f h
    ∙ ap₂ (λ (x y : ℤ). inside x x y) (ap pos are.d_is)
    ((rw (k, n) at e)
    ∙ sum_z-same r (λ (i : ℕ). get_or (take r (drop at t)) i (pos 0)) (λ (i : ℕ). table_right t (j + 1 + i))
    (λ i l. get_or-take r (drop at t) i (pos 0) l ∙ get_or-drop at t i (pos 0) ∙ right_at t z are (j + 1 + i) (at + i) (omega (arith, a)))
    ∙ ap (λ (n : ℕ). sum_z n (λ (i : ℕ). table_right t (j + 1 + i))) b)

-- ---- 26, of the closing lines

module _ (t : Words) (z : Table) (are : TableRead t z) (at : ℕ) (e : at ≡ table_state_line t (table_states t)) where
  pub bare_are : all z.n (λ (i : ℕ). inside (pos 0) (pos 0) (word t (z.columns + at + i))) ≡ all (table_states t) (closing_bare t)
  unfolding closing_bare closing_line
  bare_are =
      all_same z.n _ _
      (λ s l. ap (inside (pos 0) (pos 0)) (left_at t z are (table_state_line t (table_states t) + s) (z.columns + at + s) (omega (arith, e))))
      ∙ ap (λ (n : ℕ). all n (λ (s : ℕ). inside (pos 0) (pos 0) (table_left t (table_state_line t (table_states t) + s)))) are.n_is

  pub rewards_are : all z.n (λ (i : ℕ). amount_inside (word t (z.columns + at + z.l + i))) ≡ all (table_states t) (closing_rewards t)
  unfolding reward_inside closing_line
  rewards_are =
      all_same z.n _ _
      (λ s l. ap amount_inside (right_at t z are (table_state_line t (table_states t) + s) (z.columns + at + z.l + s) (omega (arith, e))))
      ∙ ap (λ (n : ℕ). all n (λ (s : ℕ). amount_inside (table_right t (table_state_line t (table_states t) + s)))) are.n_is
