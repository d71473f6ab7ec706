-- Numbers as bytes: what is written reads back, and what is read is what would be written.
-- Assumes nothing.
use mathlib.Core.Path.{◌≡◌, refl, ap, ◌∙◌}
use mathlib.Core.Bool.{Bool, true, false, cond}
use mathlib.Core.List.{List, [], ◌∷◌, ◌++◌, append_assoc}
use Prim.Native.Nat.{ℕ, zero, suc, ◌+◌, ◌*◌, ◌-◌, ◌^◌, ◌/◌, ◌%◌, ◌≤◌, ◌<◌}
use native.Mathlib.Nat.{pow-suc, mul-zero, mul-suc, mul-le-mul_left, div-lt_iff_lt-mul, mod-add-div, suc_inj}
use native.Mathlib.Numerals.{add-one}
use native.Mathlib.Omega.{arith}
use borrow.Author.Tests.{lt-ltb, le-ltb}
use lib.Dec.{ltb}
use lib.IntN.{ℤ, pos, negsuc}
use lib.Signed.{mag}
use lib.ListN.{length, take, drop, get_or}
use lib.Seq.{take_at, drop_at, drop-drop}
use Rattle.model.specs.Lists.{for_each}
use Rattle.model.specs.Bytes.{bytes, signed_bytes, from_bytes, signed, words_of}
use Rattle.laws.specs.Members.{Every}
use Rattle.bytes_io.specs.Slices.{written, signed_from}
use Rattle.bytes_io.proofs.Parts.{Filling, fill_start, fill_part, fill_end, parts_from, parts_start, parts_step, parts-end}

-- ---- lengths

pub length-bytes : (n x : ℕ) → length (bytes n x) ≡ n
length-bytes zero x = refl
length-bytes (suc n) x = ap suc (length-bytes n (x / 256))

pub length-signed : (n : ℕ) (z : ℤ) → length (signed_bytes n z) ≡ n
length-signed n (pos x) = length-bytes n x
length-signed n (negsuc x) = length-bytes n (256 ^ n - suc x)

pub length-words : (n : ℕ) (bs : List ℕ) → length (words_of n bs) ≡ n
length-words zero bs = refl
length-words (suc n) bs = ap suc (length-words n (drop 4 bs))

-- ---- unsigned numbers

-- what n bytes hold reads back
pub read_bytes : (n x : ℕ) → x < 256 ^ n → from_bytes (bytes n x) ≡ x
read_bytes zero x h = omega arith
read_bytes (suc n) x h =
    let q : x / 256 < 256 ^ n = (div-lt_iff_lt-mul {k = 256} {x = x} {y = 256 ^ n} (omega arith)).1 (rw pow-suc at h) in
    rw (read_bytes n (x / 256) q) (mod-add-div x 256)

-- a list of bytes
abbrev pub Bytes : List ℕ → Type 0
Bytes bs = Every (λ b. b < 256) bs

pub bytes_take : (n : ℕ) (bs : List ℕ) → Bytes bs → Bytes (take n bs)
bytes_take zero bs h = tt
bytes_take (suc n) [] h = tt
bytes_take (suc n) (b ∷ bs) h = (h.0, bytes_take n bs h.1)

pub bytes_drop : (n : ℕ) (bs : List ℕ) → Bytes bs → Bytes (drop n bs)
bytes_drop zero bs h = h
bytes_drop (suc n) [] h = tt
bytes_drop (suc n) (b ∷ bs) h = bytes_drop n bs h.1

pub from_below : (bs : List ℕ) → Bytes bs → from_bytes bs < 256 ^ length bs
from_below [] h = omega arith
from_below (b ∷ bs) h = rw pow-suc (omega (arith, h.0, from_below bs h.1))

-- the bytes that were read are those that would be written
pub bytes_read : (n : ℕ) (bs : List ℕ) → length bs ≡ n → Bytes bs → bytes n (from_bytes bs) ≡ bs
bytes_read zero [] e h = refl
bytes_read zero (b ∷ bs) e h = absurd (omega arith)
bytes_read (suc n) [] e h = absurd (omega arith)
bytes_read (suc n) (b ∷ bs) e h =
    let m : (b + 256 * from_bytes bs) % 256 ≡ b = omega (arith, h.0) in
    let d : (b + 256 * from_bytes bs) / 256 ≡ from_bytes bs = omega (arith, h.0) in
    rw (m, d, bytes_read n bs (suc_inj e) h.1)

-- ---- signed numbers

-- what n bytes hold in two's complement reads back
pub read_half : (n half : ℕ) → 256 ^ n ≡ 2 * half → (z : ℤ) → mag z < half → signed_from half (from_bytes (signed_bytes n z)) ≡ z
read_half n half e (pos x) h = rw (read_bytes n x (omega arith), lt-ltb x half h)
read_half n half e (negsuc x) h =
    let k : 2 * half - 1 - (256 ^ n - suc x) ≡ x = omega arith in
    rw (read_bytes n (256 ^ n - suc x) (omega arith), le-ltb (256 ^ n - suc x) half (omega arith), k)

pub read_signed : (z : ℤ) → mag z < 2 ^ 31 → signed (from_bytes (signed_bytes 4 z)) ≡ z
read_signed z h = read_half 4 2147483648 refl z h

pub signed_read : (bs : List ℕ) → length bs ≡ 4 → Bytes bs → signed_bytes 4 (signed (from_bytes bs)) ≡ bs
signed_read bs e h = go (ltb (from_bytes bs) 2147483648) ∙ bytes_read 4 bs e h
  where
    low : from_bytes bs < 4294967296
    low = rw e at (from_below bs h)

    go : (t : Bool) → signed_bytes 4 (cond t (pos (from_bytes bs)) (negsuc (4294967295 - from_bytes bs))) ≡ bytes 4 (from_bytes bs)
    go true = refl
    go false = let s : 256 ^ 4 - suc (4294967295 - from_bytes bs) ≡ from_bytes bs = omega (arith, low) in ap (bytes 4) s

-- ---- words

-- one word from the front
pub words_step : (r : List ℕ) (i n p q : ℕ) → i < n → q ≡ p + 4
    → words_of (n - i) (drop p r) ≡ signed (from_bytes (take 4 (drop p r))) ∷ words_of (n - (i + 1)) (drop q r)
words_step r i n p q h e = let k : n - i ≡ suc (n - (i + 1)) = omega arith in rw (k, e, drop-drop 4 p r)

pub read_words : (n : ℕ) (ws : List ℤ) (rest : List ℕ) → length ws ≡ n → Every (λ z. mag z < 2 ^ 31) ws
    → words_of n (for_each (signed_bytes 4) ws ++ rest) ≡ ws
read_words zero [] rest e h = refl
read_words zero (w ∷ ws) rest e h = absurd (omega arith)
read_words (suc n) [] rest e h = absurd (omega arith)
read_words (suc n) (w ∷ ws) rest e h =
    rw (
      append_assoc,
      take_at (signed_bytes 4 w) (for_each (signed_bytes 4) ws ++ rest) 4 (length-signed 4 w),
      drop_at (signed_bytes 4 w) (for_each (signed_bytes 4) ws ++ rest) 4 (length-signed 4 w),
      read_signed w h.0,
      read_words n ws rest (suc_inj e) h.1,
    )

-- ---- signed numbers of w bytes each, written one after another

module _ (w : ℕ) (xs : List ℤ) (k : ℕ) (o₀ : List ℕ) (at : ℕ) where
  abbrev all : List ℕ
  all = for_each (signed_bytes w) (take k xs)

  -- the first i of the k numbers are written
  abbrev pub Writing : List ℕ → ℕ → Type 0
  Writing o i = Filling o₀ at (w * k) all o (w * i) (parts_from (signed_bytes w) xs k i)

  pub writing_start : Writing o₀ 0
  writing_start = rw (mul-zero w, ← parts_start (signed_bytes w) xs k) (fill_start o₀ at (w * k) all)

  module _ (room : at + w * k ≤ length o₀) {o : List ℕ} (i : ℕ) (f : Writing o i) where
    pub writing_next : {o' : List ℕ} → i < k → k ≤ length xs → o' ≡ written o (at + w * i) w (signed_bytes w (get_or xs i (pos 0))) → Writing o' (i + 1)
    writing_next l e h =
        let x = get_or xs i (pos 0) in
        let next : w * (i + 1) ≡ w * i + w = rw add-one (mul-suc w i) in
        fill_part o₀ at (w * k) all room f w (w * (i + 1)) (signed_bytes w x) (parts_from (signed_bytes w) xs k (i + 1)) (length-signed w x) refl next
        (mul-le-mul_left w (omega arith)) (parts_step (signed_bytes w) xs k (pos 0) i l e) h

    pub writing_end : k ≤ i → o ≡ written o₀ at (w * k) all
    writing_end l = fill_end o₀ at (w * k) all room f (mul-le-mul_left w l) (parts-end (signed_bytes w) xs k i l)
