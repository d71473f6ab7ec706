-- Powers of d from 1 to 100 to h from 0 to 8: what the lookup gives, how large they are, and each by the parts of its exponent.
-- Assumes nothing.
use mathlib.Core.Path.{◌≡◌, sym, ◌∙◌}
use Prim.Native.Nat.{ℕ, zero, suc, ◌+◌, ◌*◌, ◌/◌, ◌%◌, ◌^◌, ◌≤◌, ◌<◌}
use native.Mathlib.Nat.{le_trans, pow-zero, pow-suc, pow-le-pow_left, pow-le-pow_right}
use native.Mathlib.Omega.{arith}
use lib.Pow.{pow-add}
use borrow.Author.Tests.{le-leb}
use lib.Dec.{lit≤}
use Rattle.model.specs.Calls.{power_of}

pub power_is : (d h : ℕ) → 1 ≤ d → d ≤ 100 → h ≤ 8 → power_of d h ≡ d ^ h
unfolding power_of
power_is d h a b c = rw (le-leb 1 d a, le-leb d 100 b, le-leb h 8 c)

pub power_high : (d h : ℕ) → d ≤ 100 → h ≤ 8 → d ^ h ≤ 10000000000000000
power_high d h b c =
    le_trans (pow-le-pow_left {n = d} {m = 100} b h) (pow-le-pow_right {n = 100} (lit≤ tt) {i = h} {j = 8} c)

-- ---- by squares

square_power : (x j : ℕ) → (x * x) ^ j ≡ x ^ (j + j)
square_power x zero = rw (pow-zero (x * x), pow-zero x)
square_power x (suc j) =
    let e : suc j + suc j ≡ suc (suc (j + j)) = omega arith in
    rw (e, pow-suc x (suc (j + j)), pow-suc x (j + j), pow-suc (x * x) j, square_power x j) (omega arith)

module _ (d e : ℕ) where
  -- the parts 1 and 2 of an exponent
  abbrev low : ℕ
  low = e / 1 % 2 + (e / 2 % 2 + e / 2 % 2)

  pub low_parts : d ^ (e / 1 % 2) * (d * d) ^ (e / 2 % 2) ≡ d ^ low
  low_parts = rw (square_power d (e / 2 % 2), pow-add d (e / 1 % 2) (e / 2 % 2 + e / 2 % 2))

  -- and its part 4, where it is below 8
  pub parts : e < 8 → d ^ (e / 1 % 2) * (d * d) ^ (e / 2 % 2) * (d * d * (d * d)) ^ (e / 4 % 2) ≡ d ^ e
  parts h =
      let four = e / 4 % 2 in
      let all : low + (four + four + (four + four)) ≡ e = omega arith in
      rw (low_parts, square_power (d * d) four, square_power d (four + four), ← pow-add d low (four + four + (four + four)), all)

  pub low_parts_high : d ≤ 100 → d ^ (e / 1 % 2) * (d * d) ^ (e / 2 % 2) ≤ 10000000000000000
  low_parts_high h = rw low_parts (power_high d low h (omega arith))

pub once : (d : ℕ) → d ^ 1 ≡ d
once d = rw (pow-suc d 0, pow-zero d) (omega arith)

pub squared : (d : ℕ) → d * d ≡ d ^ 2
squared d = sym (once (d * d)) ∙ square_power d 1

pub fourth : (d : ℕ) → d * d * (d * d) ≡ d ^ 4
fourth d = squared (d * d) ∙ square_power d 2

pub eighth : (d : ℕ) → d * d * (d * d) * (d * d * (d * d)) ≡ d ^ 8
eighth d = fourth (d * d) ∙ square_power d 4
