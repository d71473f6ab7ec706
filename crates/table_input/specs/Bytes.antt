-- The program that converts: from the bytes of standard input, a table's words, to those of standard output.
-- Assumes nothing.
use Rattle.std.specs.Prelude.{ℕ, ◌/◌, ◌%◌, cond, List, eqb, length, take}
use Rattle.model.specs.Lists.{for_each}
use Rattle.model.specs.Bytes.{signed_bytes, words_of}
use Rattle.model.specs.Model.{Words}
use Rattle.model.specs.Page.{or_refused}
use Rattle.reward_table.specs.Convert.{convert_number, table_book}

-- the bytes that count: those of the longest table, of 5 + 16 + 2 × 2,048 words, and one word more
abbrev pub most_table : ℕ
most_table = 16472

-- as many as the longest book has, of 4,172 words
abbrev pub most_book : ℕ
most_book = 16688

-- the words of the longest book that a table gives, accepted or not: 27 is never answered no
abbrev pub most_words : ℕ
most_words = 32775

unfoldable pub input_table : List ℕ → Words
input_table input = words_of (length (take most_table input) / 4) (take most_table input)

-- a leftover of one to three bytes is no table's: 25
unfoldable pub table_number : List ℕ → ℕ
table_number input = cond (eqb (length (take most_table input) % 4) 0) (convert_number (input_table input) most_words) 25

-- the book's words, "four bytes, low byte first, two's complement"; else "`refused` and its number"
unfoldable pub book_bytes : List ℕ → List ℕ
book_bytes input = or_refused (table_number input) (for_each (signed_bytes 4) (table_book (input_table input)))
