-- Parts of a slice, written one after another.
-- Assumes nothing.
use mathlib.Core.Path.{◌≡◌, refl, sym, ◌∙◌}
use mathlib.Core.List.{List, [], ◌∷◌, ◌++◌, append_assoc}
use Prim.Native.Nat.{ℕ, suc, ◌+◌, ◌-◌, ◌≤◌, ◌<◌}
use native.Mathlib.Nat.{add-zero, zero-add, add_assoc}
use native.Mathlib.Numerals.{add-one}
use native.Mathlib.Omega.{arith}
use lib.ListN.{length, take, drop, get_or, set, length-append, length-drop}
use lib.Seq.{length-take-le, take_at, drop_at, drop-drop, drop-cons, set_split, append_snoc, paste-zero}
use Rattle.model.specs.Lists.{for_each}
use Rattle.model.specs.Calls.{over}
use Rattle.bytes_io.specs.Slices.{written}

module _ {A : Type 0} where
  -- ---- a slice that is written over

  pub written_none : (o : List A) (at : ℕ) → written o at 0 [] ≡ o
  written_none o at = sym (paste-zero o at [])

  pub set-written : (o : List A) (at : ℕ) (a : A) → at < length o → set o at a ≡ written o at 1 (a ∷ [])
  set-written o at a h = rw (set_split o at a h, add-one) (sym (append_snoc (take at o) a (drop (suc at) o)))

  pub written-front : (o : List A) (n : ℕ) (xs : List A) → length xs ≡ n → written o 0 n xs ≡ over xs o
  written-front o n xs e = rw (e, zero-add n)

  module _ (o : List A) (at m : ℕ) (xs : List A) (e : length xs ≡ m) (h : at + m ≤ length o) where
    head : length (take at o ++ xs) ≡ at + m
    head = rw (length-append, length-take-le at o (omega arith), e)

    pub length-written : length (written o at m xs) ≡ length o
    length-written = rw (length-append, head, length-drop) (omega arith)

    -- one part after another
    pub written_join : (n : ℕ) (ys : List A) → written (written o at m xs) (at + m) n ys ≡ written o at (m + n) (xs ++ ys)
    written_join n ys =
        rw (
          take_at (take at o ++ xs) (drop (at + m) o) (at + m) head,
          ← drop-drop n (at + m) (written o at m xs),
          drop_at (take at o ++ xs) (drop (at + m) o) (at + m) head,
          drop-drop n (at + m) o,
          add_assoc,
          ← append_assoc (take at o) xs ys,
        )

  -- ---- the elements of a list from the front

  pub part_step : (xs : List A) (i n p q : ℕ) (d : A) → i < n → p < length xs → q ≡ p + 1
      → take (n - i) (drop p xs) ≡ get_or xs p d ∷ take (n - (i + 1)) (drop q xs)
  part_step xs i n p q d h l e =
      let k : n - i ≡ suc (n - (i + 1)) = omega arith in
      rw (k, drop-cons xs p d l, e, add-one p)

-- ---- a slice that is filled part by part

module _ {A : Type 0} (o₀ : List A) (at n : ℕ) (all : List A) where
  -- p of the n elements are written; the others, written over what stands there, give the whole
  pub record Filling (o : List A) (p : ℕ) (rest : List A) : Type 0 where
    pub most : p ≤ n
    pub long : length o ≡ length o₀
    pub whole : written o₀ at n all ≡ written o (at + p) (n - p) rest

  pub fill_start : Filling o₀ 0 all
  fill_start =
      let z : n - 0 ≡ n = omega arith in
      record { most = omega arith; long = refl; whole = rw (z, add-zero) }

  module _ (fits : at + n ≤ length o₀) {o : List A} {p : ℕ} {rest : List A} (f : Filling o p rest) where
    -- w elements more, from index i on
    pub fill_part : (w q : ℕ) (xs rest' : List A) {i : ℕ} {o' : List A} → length xs ≡ w → i ≡ at + p → q ≡ p + w → q ≤ n → rest ≡ xs ++ rest'
        → o' ≡ written o i w xs → Filling o' q rest'
    fill_part w q xs rest' e j m l r h =
        let room : at + p + w ≤ length o = omega (arith, f.long) in
        let left : n - p ≡ w + (n - q) = omega arith in
        let next : at + q ≡ at + p + w = omega arith in
        record {
          most = l;
          long = rw (h, j) (length-written o (at + p) w xs e room ∙ f.long);
          whole = f.whole ∙ rw (r, h, j, left, next) (sym (written_join o (at + p) w xs e room (n - q) rest'));
        }

    -- one more
    pub fill_one : (a : A) (rest' : List A) {i : ℕ} → i ≡ at + p → p < n → rest ≡ a ∷ rest' → Filling (set o i a) (p + 1) rest'
    fill_one a rest' {i} j l r =
        fill_part 1 (p + 1) (a ∷ []) rest' refl j refl (omega arith) r (set-written o i a (omega (arith, f.long)))

    -- none is left
    pub fill_end : n ≤ p → rest ≡ [] → o ≡ written o₀ at n all
    fill_end l r = let z : n - p ≡ 0 = omega arith in sym (f.whole ∙ rw (z, r) (written_none o (at + p)))

-- the parts of the elements from index i on, up to index k
module _ {A B : Type 0} (f : A → List B) (xs : List A) (k : ℕ) where
  abbrev pub parts_from : ℕ → List B
  parts_from i = for_each f (take (k - i) (drop i xs))

  pub parts_start : for_each f (take k xs) ≡ parts_from 0
  parts_start = let z : k - 0 ≡ k = omega arith in rw z

  pub parts_step : (d : A) (i : ℕ) → i < k → k ≤ length xs → parts_from i ≡ f (get_or xs i d) ++ parts_from (i + 1)
  parts_step d i h l = rw (part_step xs i k i (i + 1) d h (omega arith) refl)

  pub parts-end : (i : ℕ) → k ≤ i → parts_from i ≡ []
  parts-end i h = let z : k - i ≡ 0 = omega arith in rw z
