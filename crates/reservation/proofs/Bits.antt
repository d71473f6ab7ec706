-- When the bits of two numbers come to 0.
-- Assumes nothing.
use mathlib.Core.Path.{◌≡◌}
use mathlib.Core.Bool.{◌&&◌}
use Prim.Native.Nat.{ℕ}
use native.Mathlib.Decide.{ℕ_discrete}
use native.Mathlib.Omega.{arith}
use lib.Dec.{eqb}
use lib.Bits.{bit_or, bit_xor, or_zero_l, or_add_and, xor_add_and, xor_self, and_le_l, and_le_r}
use borrow.Author.Tests.{eq-eqb, ne_eqb}
use Rattle.model.specs.Lists.{all}
use Rattle.questions.specs.Ranges.{all_step}
use Rattle.reservation.specs.declared.Desk.{Desk}
use Rattle.reservation.specs.Reservations.{riders, leaves, free}

pub or-none : (a b : ℕ) → eqb (bit_or a b) 0 ≡ (eqb a 0 && eqb b 0)
or-none a b = go (ℕ_discrete a 0)
  where
    go : Dec (a ≡ 0) → eqb (bit_or a b) 0 ≡ (eqb a 0 && eqb b 0)
    go (yes e) = rw (e, or_zero_l b)
    go (no h) = rw (ne_eqb a 0 h, ne_eqb (bit_or a b) 0 (λ e. h (omega (arith, or_add_and a b, and_le_r a b))))

pub xor_same : (a b : ℕ) → eqb (bit_xor a b) 0 ≡ eqb a b
xor_same a b = go (ℕ_discrete a b)
  where
    go : Dec (a ≡ b) → eqb (bit_xor a b) 0 ≡ eqb a b
    go (yes e) = rw (eq-eqb a b e, e, xor_self b)
    go (no h) = rw (ne_eqb a b h, ne_eqb (bit_xor a b) 0 (λ e. h (omega (arith, xor_add_and a b, and_le_l a b, and_le_r a b))))

-- once all sixteen riders are asked, the rank is free if none was found to have it
pub all_asked : (d : Desk) (rider rank n : ℕ) → n ≡ riders → all n (leaves d rider rank) ≡ free d rider rank
unfolding free
all_asked d rider rank n e = rw e

pub ruleset bits = (or-none, xor_same, all_step, all_asked)
