-- The words of a slice, and products of rows.
-- Assumes nothing.
use mathlib.Core.Path.{◌≡◌, refl, ap, ◌∙◌}
use mathlib.Core.List.{List, ◌∷◌, ◌++◌, map}
use Prim.Native.Nat.{ℕ, zero, suc, ◌+◌, ◌*◌, ◌-◌, ◌≤◌, ◌<◌}
use native.Mathlib.Nat.{mul-le-mul}
use native.Mathlib.Numerals.{add-one}
use native.Mathlib.Omega.{arith}
use lib.IntN.{ℤ, pos}
use lib.ListN.{length, take, drop, get_or, replicate}
use lib.Seq.{drop-cons}
use Rattle.model.specs.Lists.{up_from, for_each}
use Rattle.model.specs.Model.{Words, word}

-- the words of a slice, one after another
pub words_from : (t : Words) (i k : ℕ) → i + k ≤ length t → take k (drop i t) ≡ map (word t) (up_from i k)
unfolding word
words_from t i zero h = refl
words_from t i (suc k) h = rw (drop-cons t i (pos 0) (omega arith))
    (ap (λ (zs : List ℤ). get_or t i (pos 0) ∷ zs) (words_from t (suc i) k (omega arith)))

-- ---- products

pub one_more : (k w : ℕ) → (k + 1) * w ≡ k * w + w
one_more k w = rw (add-one k) (omega arith)

-- row k of m rows of w
pub row_fits : (k m w : ℕ) → k < m → k * w + w ≤ m * w
row_fits k m w h = omega (arith, one_more k w, mul-le-mul {n₁ = k + 1} {m₁ = w} {n₂ = m} {m₂ = w} (omega arith) (omega arith))

-- the last of h rows
pub last_row : (h w : ℕ) → 1 ≤ h → h * w ≡ (h - 1) * w + w
last_row h w l = let e : h ≡ h - 1 + 1 = omega arith in ap (λ (k : ℕ). k * w) e ∙ one_more (h - 1) w

-- one list, m times, of which the first k are done
pub copies_step : (k m : ℕ) (xs : List ℤ) → k < m
    → for_each (λ (ys : List ℤ). ys) (replicate (m - k) xs) ≡ xs ++ for_each (λ (ys : List ℤ). ys) (replicate (m - (k + 1)) xs)
copies_step k m xs h = let e : m - k ≡ suc (m - (k + 1)) = omega arith in rw e
