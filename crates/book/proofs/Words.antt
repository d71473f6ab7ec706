-- Signed words at 32 and 64 bits, as the code's reads and casts leave them.
-- Assumes nothing.
use mathlib.Core.Path.{◌≡◌, sym, ◌∙◌}
use mathlib.Core.Bool.{Bool, true, false, not}
use Prim.Native.Nat.{ℕ, ◌+◌, ◌^◌, ◌≤◌, ◌<◌}
use native.Mathlib.Nat.{lt_of_lt_of_le, le_refl}
use native.Mathlib.Omega.{arith}
use borrow.Author.Tests.{not-true, not-false}
use lib.Dec.{T, lit≤}
use lib.IntN.{ℤ, pos, negsuc, nat_abs}
use lib.Signed.{mag, lt_z, non_neg}
use mir.Syntax.{w32, w64}
use mir.Val.{SFits, to_z, of_z}
use mir.Facts.{to_z-of_z}

-- what a word reads back as
pub read32 : (z : ℤ) → mag z < 2 ^ 31 → to_z w32 (of_z w32 z) ≡ z
read32 z h = to_z-of_z {w = w32} (record { sfits = h })

-- what 32 bits hold, 64 bits hold
pub wider : {z : ℤ} → mag z < 2 ^ 31 → SFits w64 z
wider h = record { sfits = lt_of_lt_of_le h (lit≤ tt) }

pub mag_abs : (z : ℤ) → mag z ≤ nat_abs z
mag_abs (pos n) = le_refl n
mag_abs (negsuc n) = omega arith

pub abs_mag : (z : ℤ) → nat_abs z ≤ mag z + 1
abs_mag (pos n) = omega arith
abs_mag (negsuc n) = omega arith

-- a number whose size is at most B fits 64 bits
pub fits64 : (B : ℕ) (z : ℤ) → nat_abs z ≤ B → B < 2 ^ 63 → SFits w64 z
fits64 B z h k = record { sfits = omega (arith, mag_abs z) }

pub not_neg : (x : ℤ) → lt_z x (pos 0) ≡ false → T (non_neg x)
not_neg (pos n) e = tt
not_neg (negsuc n) e = let z : ◌≡◌ {A = ℕ} 0 1 = cc in omega arith

-- what a call that answers p answered, where `!f(..)` was tested
pub no : {r p : Bool} → r ≡ p → not r ≡ true → p ≡ false
no {r} e t = sym e ∙ not-true r t

pub yes' : {r p : Bool} → r ≡ p → not r ≡ false → p ≡ true
yes' {r} e t = sym e ∙ not-false r t
