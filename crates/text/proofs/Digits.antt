-- The fewest digits that hold a number are those that the page has.
-- Assumes nothing.
use mathlib.Core.Path.{◌≡◌, refl, ap}
use mathlib.Core.Bool.{Bool, true, false}
use mathlib.Core.List.{List, [], ◌∷◌, ◌++◌}
use Prim.Native.Nat.{ℕ, zero, suc, ◌+◌, ◌-◌, ◌*◌, ◌/◌, ◌%◌, ◌^◌, ◌≤◌, ◌<◌}
use native.Mathlib.Nat.{pow-suc, pow-le-pow_right}
use native.Mathlib.Omega.{arith}
use borrow.Author.Tests.{lt-ltb, le-ltb, leb-true, leb-false}
use lib.Dec.{leb}
use Rattle.io.specs.Digits.{last_digits as spelt, hex_digit_ascii, IsDigitCount}
use Rattle.model.specs.Page.{digits}

digit : (n : ℕ) → hex_digit_ascii (n % 10) ≡ 48 + n % 10
digit n = rw (lt-ltb (n % 10) 10 (omega arith))

ten_pow : (r : ℕ) → 1 ≤ 10 ^ r
ten_pow zero = omega arith
ten_pow (suc r) = omega (arith, pow-suc 10 r, ten_pow r)

less : (r : ℕ) → suc r - 1 ≡ r
less r = omega arith

pub spelled : (r f n : ℕ) → r ≤ f → IsDigitCount 10 1 n r → digits f n ≡ spelt 10 r n
spelled zero f n l h = absurd (omega (arith, h.0))
spelled (suc r) zero n l h = absurd (omega arith)
spelled (suc zero) (suc f) n l h =
    let low : n < 10 = omega (arith, h.1) in
    let same : n % 10 ≡ n = omega (arith, low) in
    rw (digit n, same, lt-ltb n 10 low)
spelled (suc (suc r)) (suc f) n l h =
    let e : 10 ^ suc (suc r) ≡ 10 ^ suc r * 10 = pow-suc 10 (suc r) in
    let g : 10 ^ suc r ≡ 10 ^ r * 10 = pow-suc 10 r in
    let big : 10 ^ suc r ≤ n = rw (less (suc r)) at (h.2 (omega arith)) in
    let some : 1 ≤ 10 ^ r = ten_pow r in
    let high : 10 ≤ n = omega (arith, big, g, some) in
    rw (digit n, le-ltb n 10 high)
    (ap (λ (x : List ℕ). x ++ ((48 + n % 10) ∷ []))
    (spelled (suc r) f (n / 10) (omega arith) (omega arith, omega (arith, h.1, e), λ z. rw (less r) (omega (arith, big, g)))))

-- a number of 64 bits has at most 20 digits
pub few : (x n : ℕ) → x < 18446744073709551616 → IsDigitCount 10 1 x n → n ≤ 20
few x n h f = go (leb n 20) refl
  where
    go : (b : Bool) → leb n 20 ≡ b → n ≤ 20
    go true e = leb-true n 20 e
    go false e =
        let l : 20 < n = leb-false n 20 e in
        let m : 10 ^ 20 ≤ 10 ^ (n - 1) = pow-le-pow_right {n = 10} (omega arith) {i = 20} {j = n - 1} (omega (arith, l)) in
        absurd (omega (arith, h, f.2 (omega (arith, l)), m))
