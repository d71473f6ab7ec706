-- What the head of a record carries is what was written, and the head that is written for what bytes carry is those bytes.
-- Assumes nothing.
use Rattle.std.specs.Prelude.{◌≡◌, refl, List, ◌++◌, ℕ, zero, suc, ◌+◌, ◌*◌, ◌^◌, ◌≤◌, ◌<◌, length, take, drop}
use Rattle.std.proofs.Common.{sym, ap, ap₂, ◌∙◌, arith, length-drop, length-take-le, take-add}
use Rattle.std.specs.Int.Signed.{mag}
use Rattle.model.specs.Lists.{for_each}
use Rattle.model.specs.Bytes.{bytes, signed_bytes, from_bytes, words_of}
use Rattle.model.specs.Model.{Words}
use Rattle.model.specs.Questions.{book_number}
use Rattle.model.specs.Order.{ranking}
use Rattle.model.specs.Record.{list_bytes, record_bytes, carried_length, carried_k, carried_count, carried_book}
use Rattle.laws.specs.Members.{Every}
use Rattle.bytes_io.proofs.Numbers.{Bytes, bytes_take, bytes_drop, length-words, read_bytes, bytes_read, signed_read, read_words}
use Rattle.record.specs.Lengths.{head_bytes, record_is, book-length, count_most}
use Rattle.record.specs.Passed.{RecordHead}

-- ---- from what was written

module _ (ws : Words) (k n : ℕ) (rest : List ℕ) where
  pub length_back : length ws < 2 ^ 32 → carried_length (head_bytes ws k n ++ rest) ≡ length ws
  unfolding carried_length
  length_back h = read_bytes 4 (length ws) h

  pub k_back : k < 2 ^ 32 → carried_k (head_bytes ws k n ++ rest) ≡ k
  unfolding carried_k
  k_back h = read_bytes 4 k h

  pub count_back : n < 2 ^ 32 → carried_count (head_bytes ws k n ++ rest) ≡ n
  unfolding carried_count
  count_back h = read_bytes 4 n h

  pub book_back : length ws < 2 ^ 32 → Every (λ z. mag z < 2 ^ 31) ws → carried_book (head_bytes ws k n ++ rest) ≡ ws
  unfolding carried_book
  book_back h e = read_words (carried_length (head_bytes ws k n ++ rest)) ws rest (sym (length_back h)) e

-- of the record of an accepted book
module _ (ws : Words) (ok : book_number ws ≡ 0) (k : ℕ) where
  pub length-written : carried_length (record_bytes ws k) ≡ length ws
  length-written =
      ap carried_length (record_is ws k) ∙ length_back ws k (length (ranking ws k)) (list_bytes ws k) (omega (arith, book-length ws ok))

  pub count-written : k ≤ 64 → carried_count (record_bytes ws k) ≡ length (ranking ws k)
  count-written h =
      ap carried_count (record_is ws k) ∙ count_back ws k (length (ranking ws k)) (list_bytes ws k) (omega (arith, count_most ws k ok))

-- ---- from what is carried

-- four bytes from index i on
four : (bs : List ℕ) (i : ℕ) → i + 4 ≤ length bs → Bytes bs → bytes 4 (from_bytes (take 4 (drop i bs))) ≡ take 4 (drop i bs)
four bs i l h =
    bytes_read 4 (take 4 (drop i bs)) (length-take-le 4 (drop i bs) (rw length-drop (omega arith))) (bytes_take 4 (drop i bs) (bytes_drop i bs h))

-- n words
words_again : (n : ℕ) (bs : List ℕ) → 4 * n ≤ length bs → Bytes bs → for_each (signed_bytes 4) (words_of n bs) ≡ take (4 * n) bs
words_again zero bs l h = refl
words_again (suc n) bs l h =
    let e : 4 * suc n ≡ 4 + 4 * n = omega arith in
    rw (
      e,
      take-add 4 (4 * n) bs,
      signed_read (take 4 bs) (length-take-le 4 bs (omega arith)) (bytes_take 4 bs h),
      words_again n (drop 4 bs) (rw length-drop (omega arith)) (bytes_drop 4 bs h),
    )

pub book-length_is : (bs : List ℕ) → length (carried_book bs) ≡ carried_length bs
unfolding carried_book
book-length_is bs = length-words (carried_length bs) (drop 12 bs)

pub head_again : (bs : List ℕ) → RecordHead bs → Bytes bs
    → head_bytes (carried_book bs) (carried_k bs) (carried_count bs) ≡ take (12 + 4 * carried_length bs) bs
unfolding carried_length carried_k carried_count carried_book
head_again bs h b = ap₂ ◌++◌ (ap₂ ◌++◌ (ap₂ ◌++◌ size (four bs 4 (omega arith) b)) (four bs 8 (omega arith) b)) book ∙ sym parts
  where
    size : bytes 4 (length (carried_book bs)) ≡ take 4 bs
    size = ap (bytes 4) (book-length_is bs) ∙ four bs 0 (omega arith) b

    book : for_each (signed_bytes 4) (carried_book bs) ≡ take (4 * carried_length bs) (drop 12 bs)
    book = words_again (carried_length bs) (drop 12 bs) (rw length-drop (omega arith)) (bytes_drop 12 bs b)

    parts : take (12 + 4 * carried_length bs) bs
        ≡ take 4 bs ++ take 4 (drop 4 bs) ++ take 4 (drop 8 bs) ++ take (4 * carried_length bs) (drop 12 bs)
    parts =
        take-add 12 (4 * carried_length bs) bs
        ∙ ap (λ (x : List ℕ). x ++ take (4 * carried_length bs) (drop 12 bs))
        (take-add 8 4 bs ∙ ap (λ (x : List ℕ). x ++ take 4 (drop 8 bs)) (take-add 4 4 bs))
