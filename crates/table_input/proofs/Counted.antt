-- The table and the number of bytes of which every one counts, what a conversion leaves, and that no later byte counts.
-- Assumes nothing.
use mathlib.Core.Path.{◌≡◌, refl, sym, ap, ◌∙◌}
use mathlib.Core.List.{List}
use Prim.Native.Nat.{ℕ, ◌*◌, ◌/◌, ◌%◌, ◌≤◌}
use native.Mathlib.Omega.{arith}
use borrow.Author.Tests.{eq-eqb, ne_eqb}
use lib.IntN.{ℤ}
use lib.ListN.{length, take, drop, length-append}
use lib.Seq.{take_all, take_at, take-take}
use Rattle.model.specs.Lists.{for_each}
use Rattle.model.specs.Bytes.{signed_bytes, words_of}
use Rattle.model.specs.Model.{Words}
use Rattle.model.specs.Questions.{first_no, and_then, book_number}
use Rattle.model.specs.Calls.{over}
use Rattle.questions.specs.FirstNo.{then_zero}
use Rattle.questions.specs.Answers.{gives}
use Rattle.bytes_io.specs.Slices.{written}
use Rattle.bytes_io.proofs.Parts.{written-front}
use Rattle.bytes_io.proofs.Numbers.{length-words}
use Rattle.record.specs.Lengths.{words-length, book-length}
use Rattle.page_lines.specs.Put.{Put}
use Rattle.reward_table.specs.Table.{table_questions}
use Rattle.reward_table.specs.Convert.{table_book, slice_questions, convert_number, convert_length, convert_slice}
use Rattle.table_input.specs.Bytes.{most_table, most_book, most_words, input_table, table_number, book_bytes}

module _ (r : List ℕ) (h : length r ≤ most_table) where
  pub left_over : (length r % 4 ≡ 0 → ⊥) → 25 ≡ table_number r
  unfolding table_number
  left_over i = rw (take_all most_table r h, ne_eqb (length r % 4) 0 i)

  pub asked : length r % 4 ≡ 0 → convert_number (input_table r) most_words ≡ table_number r
  unfolding table_number
  asked i = rw (take_all most_table r h, eq-eqb (length r % 4) 0 i)

  -- the words that were read stand at the front of the array
  pub table_is : (words : List ℤ) {words' : List ℤ} → words' ≡ over (words_of (length r / 4) (drop 0 r)) words
      → take (length r / 4) words' ≡ input_table r
  unfolding input_table
  table_is words e =
      ap (take (length r / 4)) e ∙ take_at (words_of (length r / 4) (drop 0 r)) _ (length r / 4) (length-words (length r / 4) (drop 0 r))
      ∙ rw (take_all most_table r h)

-- ---- a conversion that is not refused

module _ (t : Words) (room : ℕ) (ok : convert_number t room ≡ 0) where
  passed : book_number (table_book t) ≡ 0
  unfolding convert_number
  passed =
      let a = then_zero (first_no table_questions t) (and_then (first_no (slice_questions t) room) (book_number (table_book t))) ok in
      (then_zero (first_no (slice_questions t) room) (book_number (table_book t)) a.1).1

  pub book_short : length (table_book t) ≤ 4172
  book_short = book-length (table_book t) passed

  pub length_is : {n : ℕ} → n ≡ convert_length t room → n ≡ length (table_book t)
  unfolding convert_length
  length_is e = e ∙ sym (gives ok 0 refl)

-- the book at the front of the words that were lent
pub book_is : (t : Words) (words : List ℤ) {words' : List ℤ} {n : ℕ} → convert_number t (length words) ≡ 0 → words' ≡ convert_slice t words
    → n ≡ length (table_book t) → (n ≤ length words') × (take n words' ≡ table_book t)
unfolding convert_slice
book_is t words {words'} {n} ok e l =
    let o : words' ≡ over (table_book t) words = e ∙ sym (gives ok words refl) in (
      omega (arith, l, ap length o, length-append (table_book t) (drop (length (table_book t)) words)),
      ap (take n) o ∙ take_at (table_book t) _ n (sym l),
    )

-- its bytes over the front of the slice
pub bytes_put : (t : Words) (out : List ℕ) {out' : List ℕ} {ws : Words} → ws ≡ table_book t
    → out' ≡ written out 0 (4 * length ws) (for_each (signed_bytes 4) ws) → out' ≡ over (for_each (signed_bytes 4) (table_book t)) out
bytes_put t out {out'} {ws} e q =
    q ∙ written-front out (4 * length ws) (for_each (signed_bytes 4) ws) (words-length ws)
    ∙ ap (λ (xs : Words). over (for_each (signed_bytes 4) xs) out) e

-- no later byte counts
pub front : (input : List ℕ) {out out' : List ℕ} {n : ℕ} → Put most_book (book_bytes (take most_table input)) out out' n
    → Put most_book (book_bytes input) out out' n
unfolding book_bytes table_number input_table
front input p = rw (take-take most_table most_table input (omega arith)) at p
