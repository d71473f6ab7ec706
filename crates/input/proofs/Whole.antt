-- The number, the count and the book of bytes of which every one counts, and that no later byte does.
-- Assumes nothing.
use mathlib.Core.Path.{◌≡◌, ap, ◌∙◌}
use mathlib.Core.List.{List}
use Prim.Native.Nat.{ℕ, ◌-◌, ◌/◌, ◌%◌, ◌≤◌, ◌<◌}
use borrow.Author.Tests.{le-leb, lt-leb, eq-eqb, ne_eqb}
use lib.IntN.{ℤ}
use lib.ListN.{length, take, drop}
use lib.Seq.{take_all, take_at, take-take}
use native.Mathlib.Omega.{arith}
use Rattle.model.specs.Bytes.{from_bytes, words_of}
use Rattle.model.specs.Questions.{first_no, book_number}
use Rattle.model.specs.Record.{asked_number}
use Rattle.model.specs.Calls.{over}
use Rattle.model.specs.Page.{most_input, input_count, input_book, input_number}
use Rattle.bytes_io.proofs.Numbers.{length-words}
use Rattle.input.specs.declared.Input.{Input}
use Rattle.input.specs.Read.{Read}

module _ (r : List ℕ) (h : length r ≤ most_input) where
  pub too_short : length r < 4 → 1 ≡ input_number r
  unfolding input_number
  too_short i = rw (take_all most_input r h, lt-leb 4 (length r) i)

  pub left_over : 4 ≤ length r → (length r % 4 ≡ 0 → ⊥) → 1 ≡ input_number r
  unfolding input_number
  left_over l i = rw (take_all most_input r h, le-leb 4 (length r) l, ne_eqb (length r % 4) 0 i)

  pub asked : 4 ≤ length r → length r % 4 ≡ 0 → asked_number (input_book r) (input_count r) ≡ input_number r
  unfolding input_number
  asked l i = rw (take_all most_input r h, le-leb 4 (length r) l, eq-eqb (length r % 4) 0 i)

  pub count_is : from_bytes (take 4 r) ≡ input_count r
  unfolding input_count
  count_is = rw (take_all most_input r h)

  -- the words that were read stand at the front of the array
  pub book_is : (words : List ℤ) {words' : List ℤ} → words' ≡ over (words_of (length r / 4 - 1) (drop 4 r)) words
      → take (length r / 4 - 1) words' ≡ input_book r
  unfolding input_book
  book_is words e =
      ap (take (length r / 4 - 1)) e ∙ take_at (words_of (length r / 4 - 1) (drop 4 r)) _ (length r / 4 - 1) (length-words (length r / 4 - 1) (drop 4 r))
      ∙ rw (take_all most_input r h)

-- question 1 refuses a book without words
pub refused : {input : List ℕ} {q : Input} → q.n ≡ 0 → 1 ≡ input_number input → Read input q
unfolding asked_number book_number first_no
refused {input} {q} e i = record {
  inside = omega (arith, e);
  counted = rw e;
  number = ap (λ (n : ℕ). asked_number (take n q.words) q.k) e ∙ i;
  count = λ z. absurd (other z);
  words = λ z. absurd (other z);
}
  where
    other : input_number input ≡ 0 → ⊥
    other z = omega (arith, i, z)

pub front : (input : List ℕ) {q : Input} → Read (take most_input input) q → Read input q
unfolding input_number input_count input_book
front input {q} d =
    let again = take-take most_input most_input input (omega arith) in
    record {
      inside = d.inside;
      counted = d.counted;
      number = rw again at d.number;
      count = rw again at d.count;
      words = rw again at d.words;
    }
