-- Numbers as bytes, low byte first.
-- Assumes nothing.
use Rattle.std.specs.Prelude.{ℕ, zero, suc, ◌+◌, ◌*◌, ◌-◌, ◌^◌, ◌/◌, ◌%◌, cond, List, [], ◌∷◌, ℤ, pos, negsuc, ltb, take, drop}

-- n bytes
abbrev pub bytes : ℕ → ℕ → List ℕ
bytes zero x = []
bytes (suc n) x = x % 256 ∷ bytes n (x / 256)

-- two's complement in n bytes
abbrev pub signed_bytes : ℕ → ℤ → List ℕ
signed_bytes n (pos x) = bytes n x
signed_bytes n (negsuc x) = bytes n (256 ^ n - suc x)

-- the number that bytes say
abbrev pub from_bytes : List ℕ → ℕ
from_bytes [] = 0
from_bytes (b ∷ bs) = b + 256 * from_bytes bs

-- a number below 2^32 as a signed word
abbrev pub signed : ℕ → ℤ
signed x = cond (ltb x 2147483648) (pos x) (negsuc (4294967295 - x))

-- n words of four bytes
abbrev pub words_of : ℕ → List ℕ → List ℤ
words_of zero bs = []
words_of (suc n) bs = signed (from_bytes (take 4 bs)) ∷ words_of n (drop 4 bs)
