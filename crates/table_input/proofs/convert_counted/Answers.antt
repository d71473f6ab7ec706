-- Whole words, which are the table; then its book.
-- Assumes nothing.
use mathlib.Core.Path.{◌≡◌, sym, ap, ap₂, ◌∙◌}
use Prim.Native.Nat.{ℕ, ◌*◌, ◌≤◌, ◌/◌}
use native.Mathlib.Omega.{arith}
use mathlib.Core.List.{List}
use lib.IntN.{ℤ, pos}
use lib.ListN.{length, take, replicate, length-replicate}
use lib.Seq.{length-take-le}
use Rattle.model.specs.Model.{Words}
use Rattle.page_lines.specs.Put.{put_refused, put_due}
use Rattle.record.specs.Lengths.{words-length}
use Rattle.refusal.specs.Refusal.{number_of, some_number}
use Rattle.reward_table.specs.Convert.{table_book, convert_number, convert_length, convert_slice}
use Rattle.table_input.specs.Bytes.{most_words, input_table, table_number, book_bytes}
use Rattle.table_input.proofs.Counted.{left_over, asked, table_is, book_short, length_is, book_is, bytes_put}
use borrow.Author.Rules.{rules}
use Rattle.table_input.proofs.convert_counted.Goals as goal
use Rattle.table_input.proofs.convert_counted.Goals.{In-Ok, In-Err}

-- the words that are lent
abbrev lent : List ℤ
lent = replicate most_words (pos 0)

-- the words that were read are the table
number : (c : goal.In-Err) → number_of c.in-Err.q ≡ table_number c.args.r.now
number c =
    let r = c.args.r.now in
    (c.in-Err.ensures).number ∙ ap₂ convert_number (table_is r c.requires.0 _ c.read_words.ensures.0) (length-replicate most_words (pos 0))
    ∙ asked r c.requires.0 c.if-r-ne0.false

-- the conversion is not refused
module _ (c : goal.In-Ok) where
  abbrev words : Words
  words = input_table c.args.r.now

  same : take (length c.args.r.now / 4) c.read_words.new.out ≡ words
  same = table_is c.args.r.now c.requires.0 _ c.read_words.ensures.0

  passed : convert_number words (length lent) ≡ 0
  passed = sym ((c.in-Ok.ensures).number ∙ ap (λ (t : Words). convert_number t (length lent)) same)

  number_is : table_number c.args.r.now ≡ 0
  number_is =
      sym (asked c.args.r.now c.requires.0 c.if-r-ne0.false) ∙ ap (convert_number words) (sym (length-replicate most_words (pos 0))) ∙ passed

  length_at : c.in-Ok.length ≡ length (table_book words)
  length_at = length_is words (length lent) passed ((c.in-Ok.ensures).long ∙ ap (λ (t : Words). convert_length t (length lent)) same)

  short : c.in-Ok.length ≤ 4172
  short = omega (arith, length_at, book_short words (length lent) passed)

  book_at : (c.in-Ok.length ≤ length c.convert.new.out) × (take c.in-Ok.length c.convert.new.out ≡ table_book words)
  book_at = book_is words lent passed ((c.in-Ok.ensures).book ∙ ap (λ (t : Words). convert_slice t lent) same) length_at

pub returns-then-r-ne0 : goal.returns-then-r-ne0
unfolding book_bytes
returns-then-r-ne0 c =
    put_refused _ c.requires.1 25 (left_over c.args.r.now c.requires.0 c.if-r-ne0.true) (λ z. omega arith) c.put_refusal.ensures

pub slice_bounds-book-end : goal.slice_bounds-book-end
slice_bounds-book-end c = (book_at (goal.at.slice_bounds-book-end c).In-Ok).0

pub slice_bounds-write_words-end : goal.slice_bounds-write_words-end
slice_bounds-write_words-end c = sym (length-take-le _ _ (book_at (goal.at.slice_bounds-write_words-end c).In-Ok).0)

pub write_words-requires : goal.write_words-requires
write_words-requires c =
    let k = (goal.at.write_words-requires c).In-Ok in
    omega (arith, length-take-le c.in-Ok.length c.convert.new.out (book_at k).0, short k, c.requires.1)

pub overflow_mul-result : goal.overflow_mul-result
overflow_mul-result c = search (rules, short (goal.at.overflow_mul-result c).In-Ok)

pub returns-in-Ok : goal.returns-in-Ok
unfolding book_bytes
returns-in-Ok c =
    let k = (goal.at.returns-in-Ok c).In-Ok in
    put_due _ c.requires.1 (number_is k) (ap (λ (n : ℕ). 4 * n) (length_at k) ∙ sym (words-length (table_book (words k))))
    (bytes_put (words k) c.args.out.now (book_at k).1 c.write_words.ensures)

pub returns-in-Err : goal.returns-in-Err
unfolding book_bytes
returns-in-Err c =
    put_refused _ c.requires.1 (number_of c.in-Err.q) (number (goal.at.returns-in-Err c).In-Err) (some_number c.in-Err.q) c.put_refusal-in-Err.ensures
