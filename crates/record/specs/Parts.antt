-- The policies whose bytes stand one after the other.
-- Assumes nothing.
use Rattle.std.specs.Prelude.{◌≡◌, List, [], ◌∷◌, ℕ, zero, suc, ◌+◌, ◌-◌, ◌*◌, ◌≤◌, ◌<◌, take, drop}
use Rattle.std.proofs.Common.{sym, ap, ◌∙◌, mul-le-mul_right, suc-mul, add-one, arith}
use Rattle.model.specs.Policy.{Policy}

-- the n parts of s bytes from part i on
abbrev pub parts : List ℕ → ℕ → ℕ → ℕ → List Policy
parts bytes s i zero = []
parts bytes s i (suc n) = take s (drop (i * s) bytes) ∷ parts bytes s (suc i) n

-- part i is the first of those that are left
pub parts-left : (bytes : List ℕ) (s i n : ℕ) → i < n → parts bytes s i (n - i) ≡ take s (drop (i * s) bytes) ∷ parts bytes s (i + 1) (n - (i + 1))
parts-left bytes s i n h =
    let e : n - i ≡ suc (n - (i + 1)) = omega arith in
    ap (parts bytes s i) e ∙ ap (λ (j : ℕ). take s (drop (i * s) bytes) ∷ parts bytes s j (n - (i + 1))) (sym (add-one i))

-- it lies among the bytes
pub part-inside : (i n s l : ℕ) → i < n → n * s ≤ l → i * s + s ≤ l
part-inside i n s l h f = omega (arith, mul-le-mul_right {m = suc i} {n = n} s h, suc-mul i s)
