-- The place of a cost among costs that ascend.
-- Assumes nothing.
use mathlib.Core.Path.{◌≡◌, refl, ap, subst}
use mathlib.Core.Bool.{Bool, true, false}
use mathlib.Core.List.{List, [], ◌∷◌}
use Prim.Native.Nat.{ℕ, zero, suc, ◌-◌, ◌≤◌, ◌<◌}
use native.Mathlib.Omega.{arith}
use lib.IntN.{ℤ}
use lib.Dec.{T}
use lib.Signed.{◌≤ℤ◌, le_z, lt_z, lt_z_yes, lt_z_no, clash_ℤ}
use lib.ListN.{length, get_or}
use Rattle.std.specs.List.Sorted.{IsPartitionedBy, IsPartitionPoint}
use Rattle.std.proofs.lemmas.Grind.{common_steps}
use Rattle.std.proofs.lemmas.List.{get_or_default}
use Rattle.model.specs.Lists.{first_where}
use Rattle.laws.specs.Int.{≤ℤ-trans}
use Rattle.laws.specs.Members.{T_true, true-T, false-T}
use Rattle.best_kept.specs.Placed.{Ascends}

module _ (x : ℤ) where
  -- what is at most x is not above it
  not-above : (y : ℤ) → le_z y x ≡ true → lt_z x y ≡ false
  not-above y h = go (lt_z x y) refl
    where
      most : y ≤ℤ x
      most = record { le = true-T h }

      go : (t : Bool) → lt_z x y ≡ t → lt_z x y ≡ false
      go true e = clash_ℤ (lt_z_yes (true-T e)) most
      go false e = e

  above : (y : ℤ) → le_z y x ≡ false → lt_z x y ≡ true
  above y h = go (lt_z x y) refl
    where
      go : (t : Bool) → lt_z x y ≡ t → lt_z x y ≡ true
      go true e = e
      go false e = absurd (subst T h (lt_z_no {a = x} {b = y} (false-T e)).le)

  -- in costs that ascend, those before one that is at most x are at most x too
  pub parted : (zs : List ℤ) → Ascends zs → IsPartitionedBy (λ z. le_z z x) zs
  parted zs a i j d h l t =
      let most : get_or zs j d ≤ℤ x = record { le = true-T t } in
      let rise : get_or zs i d ≤ℤ get_or zs j d = grind (arith, common_steps, a i j h l) in
      T_true _ (≤ℤ-trans rise most).le

  pub first_above : (zs : List ℤ) (i : ℕ) → i ≤ length zs → IsPartitionPoint (λ z. le_z z x ≡ true) (λ z. le_z z x ≡ false) zs i → i ≡ first_where (lt_z x) zs
  first_above [] i l h = omega arith
  first_above (z ∷ zs) zero l h = rw (above z (h.1 0 z (omega arith) (omega arith)))
  first_above (z ∷ zs) (suc i) l h =
      rw (not-above z (h.0 0 z (omega arith) (omega arith)))
      (ap suc (first_above zs i (omega arith) (λ j e p k. h.0 (suc j) e (omega arith) (omega arith), λ j e p k. h.1 (suc j) e (omega arith) (omega arith))))

  -- where the last is at most x, none is above it
  pub none_above : (zs : List ℤ) → Ascends zs → (d : ℤ) → (0 < length zs → le_z (get_or zs (length zs - 1) d) x ≡ true) → length zs ≡ first_where (lt_z x) zs
  none_above zs a d last =
      let at-last : (e : ℤ) → 0 < length zs → le_z (get_or zs (length zs - 1) e) x ≡ true =
      λ e h. subst (λ y. le_z y x ≡ true) (get_or_default zs (length zs - 1) d e (omega (arith, h))) (last h) in
      first_above zs (length zs) (omega arith)
      ((λ j e p k. parted zs a j (length zs - 1) e (omega (arith, p, k)) (omega (arith, p, k)) (at-last e (omega (arith, p, k)))), λ j e p k. absurd (omega (arith, p, k)))
