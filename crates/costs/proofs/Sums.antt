-- Sums of weighted costs: how large they are, and how a loop takes them from the front.
-- Assumes nothing.
use mathlib.Core.Path.{◌≡◌, sym, ◌∙◌}
use mathlib.Core.List.{List, ◌∷◌}
use Prim.Native.Nat.{ℕ, ◌+◌, ◌*◌, ◌^◌, ◌≤◌, ◌<◌}
use native.Mathlib.Omega.{arith}
use lib.IntN.{ℤ, pos, nat_abs, ◌+ℤ◌, ◌*ℤ◌, +ℤ_assoc, +ℤ_idl}
use mir.Syntax.{w64}
use mir.Val.{to_z, of_z}
use mir.Facts.{to_z-of_z}
use lib.Signed.{mag}
use Rattle.model.specs.Model.{Transition}
use Rattle.model.specs.Recursion.{expected}
use Rattle.laws.specs.Int.{abs_add, abs_mul}
use Rattle.costs.specs.Terms.{abs_expected}

pub read64 : (z : ℤ) → mag z < 2 ^ 63 → to_z w64 (of_z w64 z) ≡ z
read64 z h = to_z-of_z {w = w64} (record { sfits = h })

module _ (acc : ℤ) (w : ℕ) (v : ℤ) (h : nat_abs acc + w * nat_abs v ≤ 4000000000000000000) where
  pub sum_small : nat_abs (acc +ℤ pos w *ℤ v) ≤ nat_abs acc + w * nat_abs v
  sum_small = omega (arith, abs_add acc (pos w *ℤ v), abs_mul (pos w) v)

-- ---- one transition after another

-- acc is `total` but for what is expected of the transitions that are left
pub record Summed (v : ℕ → ℤ) (total acc : ℤ) (left : List Transition) : Type 0 where
  pub room : nat_abs acc + abs_expected v left ≤ 4000000000000000000
  pub rest : total ≡ acc +ℤ expected v left

module _ {v : ℕ → ℤ} {total acc : ℤ} {left : List Transition} (h : Summed v total acc left) where
  module _ {q w : ℕ} {after : List Transition} (e : left ≡ record { next = q; weight = w } ∷ after) where
    here : nat_abs acc + (w * nat_abs (v q) + abs_expected v after) ≤ 4000000000000000000
    here = rw e at h.room

    pub one_small : nat_abs acc + w * nat_abs (v q) ≤ 4000000000000000000
    one_small = omega (arith, here)

    pub one_summed : (y : ℤ) → y ≡ acc +ℤ pos w *ℤ v q → Summed v total y after
    one_summed y f =
        rw f
        (record {
          room = omega (arith, here, sum_small acc w (v q) one_small);
          rest = (rw e at h.rest) ∙ sym (+ℤ_assoc acc (pos w *ℤ v q) (expected v after));
        })

-- ---- the first term: a cost against its unit

module _ (u P : ℕ) (x k : ℤ) (A : ℕ) (e : u ≡ P) (f : x ≡ k) (h : P * nat_abs k + A ≤ 4000000000000000000) where
  pub start_small : 0 + u * nat_abs x ≤ 4000000000000000000
  start_small = rw (e, f) (omega arith)

  pub start_value : pos 0 +ℤ pos u *ℤ x ≡ pos P *ℤ k
  start_value = rw (e, f) (+ℤ_idl (pos P *ℤ k))

  pub start_rest : (z : ℤ) → z ≡ pos 0 +ℤ pos u *ℤ x → nat_abs z + A ≤ 4000000000000000000
  start_rest z g = rw (g ∙ start_value, abs_mul (pos P) k) h
