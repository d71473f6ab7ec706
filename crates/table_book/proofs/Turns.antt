-- The right column, line by line.
-- Assumes nothing.
use mathlib.Core.List.{List, ◌∷◌}
use mathlib.Core.Path.{◌≡◌, refl, sym, subst}
use Prim.Native.Nat.{ℕ, zero, suc, ◌+◌, ◌-◌, ◌^◌, ◌≤◌, ◌<◌}
use native.Mathlib.Omega.{arith}
use lib.IntN.{ℤ, pos, negsuc, neg_ℤ, nat_abs, ◌-ℤ◌, +ℤ_idl}
use lib.ListN.{length, set}
use lib.Signed.{mag}
use mir.Syntax.{w32}
use mir.Val.{SFits, to_z, of_z}
use mir.Facts.{to_z-of_z}
use Rattle.bytes_io.proofs.Parts.{Filling, fill_one}
use Rattle.model.specs.Model.{Words}
use Rattle.book.proofs.Words.{mag_abs}
use Rattle.reward_table.specs.Table.{table_left, table_right}
use Rattle.table_book.specs.Columns.{turned, rest_after, turned_from, Turnable}

-- a reward, and it negated, fit a word
module _ (x : ℤ) (h : nat_abs x ≤ 100000) where
  pub reward-fits : SFits w32 x
  reward-fits = record { sfits = omega (arith, mag_abs x) }

  pub neg-fits : SFits w32 (pos 0 -ℤ x)
  neg-fits = record { sfits = subst (λ (z : ℤ). mag z < 2 ^ 31) (sym (+ℤ_idl (neg_ℤ x))) (omega (arith, mag_abs (neg_ℤ x), size x)) }
    where
      size : (x : ℤ) → nat_abs (neg_ℤ x) ≡ nat_abs x
      size (pos zero) = refl
      size (pos (suc n)) = refl
      size (negsuc n) = refl

-- what is written, and what is left, by whether a line of the action before was left
pub turn_first : (r : ℕ) (x : ℤ) → r ≡ 0 → nat_abs x ≤ 100000 → to_z w32 (of_z w32 (pos 0 -ℤ to_z w32 (of_z w32 x))) ≡ turned r x
turn_first zero x e h = rw (to_z-of_z (reward-fits x h), to_z-of_z (neg-fits x h)) (+ℤ_idl (neg_ℤ x))
turn_first (suc r) x e h = absurd (omega arith)

pub turn_later : (r : ℕ) (x : ℤ) → (r ≡ 0 → ⊥) → mag x < 2147483648 → to_z w32 (of_z w32 x) ≡ turned r x
turn_later zero x h k = absurd (h refl)
turn_later (suc r) x h k = to_z-of_z {w = w32} (record { sfits = k })

pub rest-none : (r : ℕ) (left : ℤ) → r ≡ 0 → nat_abs left ≡ rest_after r left
rest-none zero left e = refl
rest-none (suc r) left e = absurd (omega arith)

pub rest_some : (r : ℕ) (left : ℤ) → (r ≡ 0 → ⊥) → r - 1 ≡ rest_after r left
rest_some zero left h = absurd (h refl)
rest_some (suc r) left h = omega arith

-- ---- line i of those from line j on

module _ (t : Words) (rest j i count : ℕ) (l : i < count) where
  abbrev k : ℕ
  k = count - (i + 1)

  abbrev after : ℕ
  after = rest_after rest (table_left t (j + i))

  left_over : count - i ≡ suc k
  left_over = omega arith

  next : suc (j + i) ≡ j + (i + 1)
  next = omega arith

  pub turned_step : turned_from t rest (j + i) (count - i) ≡ turned rest (table_right t (j + i)) ∷ turned_from t after (j + (i + 1)) k
  turned_step = rw (left_over, next)

  pub turnable_step : Turnable t rest (j + i) (count - i) → (rest ≡ 0 → nat_abs (table_right t (j + i)) ≤ 100000) × Turnable t after (j + (i + 1)) k
  turnable_step h =
      let g = subst (Turnable t rest (j + i)) left_over h in
      (g.0, subst (λ (m : ℕ). Turnable t after m k) next g.1)

-- one line more of those from line j on, written from index `at` on
module _ (t : Words) (o₀ : List ℤ) (at j count : ℕ) (all : List ℤ) (fits : at + count ≤ length o₀) {o : List ℤ} (rest i : ℕ) (l : i < count) where
  pub turn_put : Filling o₀ at count all o i (turned_from t rest (j + i) (count - i)) → Turnable t rest (j + i) (count - i)
      → {o' : List ℤ} {x : ℤ} {rest' : ℕ} → o' ≡ set o (at + i) x → x ≡ turned rest (table_right t (j + i))
      → rest' ≡ rest_after rest (table_left t (j + i))
      → Filling o₀ at count all o' (i + 1) (turned_from t rest' (j + (i + 1)) (count - (i + 1))) × Turnable t rest' (j + (i + 1)) (count - (i + 1))
  turn_put f h q e a =
      let x = turned rest (table_right t (j + i)) in
      rw (q, e, a) (
        fill_one o₀ at count all fits f x _ refl l (turned_step t rest j i count l),
        (turnable_step t rest j i count l h).1,
      )
