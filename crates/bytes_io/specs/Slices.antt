-- A slice with a part written over, and two's complement read back.
-- Assumes nothing.
use Rattle.std.specs.Prelude.{List, ◌++◌, ℕ, ◌+◌, ◌*◌, ◌-◌, cond, ℤ, pos, negsuc, ltb, take, drop}

module _ {A : Type 0} where
  -- the slice `o` with the n elements xs from index `at` on
  abbrev pub written : List A → ℕ → ℕ → List A → List A
  written o at n xs = take at o ++ xs ++ drop (at + n) o

-- the signed number that an unsigned one below 2 × half says: from half on it is below 0
abbrev pub signed_from : ℕ → ℕ → ℤ
signed_from half x = cond (ltb x half) (pos x) (negsuc (2 * half - 1 - x))
