-- No table's book needs more words than the program lends: it is refused by its own questions and never by 27.
-- Assumes nothing.
use mathlib.Core.Path.{◌≡◌, ◌∙◌}
use Prim.Native.Nat.{ℕ, ◌+◌, ◌*◌, ◌≤◌}
use native.Mathlib.Nat.{mul-le-mul, mul-add}
use native.Mathlib.Omega.{arith}
use borrow.Author.Tests.{le-leb}
use lib.ListN.{length}
use Rattle.model.specs.Model.{Words}
use Rattle.model.specs.Questions.{first_no}
use Rattle.questions.specs.FirstNo.{passes, none}
use Rattle.reward_table.specs.Table.{table_horizon, table_states, table_first, table_state_line, table_questions}
use Rattle.reward_table.specs.Convert.{table_book, slice_questions}
use Rattle.table_book.specs.Columns.{first_lines, book_lines}
use Rattle.reward_table.specs.Says.{all_used_lem}
use Rattle.table_book.proofs.Lists.{last_row}
use Rattle.table_book.proofs.Standing.{line_most}
use Rattle.table_book.proofs.Book.{book_long}
use Rattle.convert.proofs.Numbers.{table_given, table_lines_lem}
use Rattle.table_input.specs.Bytes.{most_words}

-- H rows of the lines of all states and the closings, with their counts, in words
rows_most : (h n body : ℕ) → 1 ≤ n → h ≤ 8 → body + n ≤ 2048 → 5 + h + h * n + 2 * (h * body + n) ≤ 32775
rows_most h n body a b c =
    let all = mul-le-mul {n₁ = h} {m₁ = body + body + (n + 1)} {n₂ = 8} {m₂ = body + body + (n + 1)} b (omega arith) in
    omega (arith, all, mul-add h (body + body) (n + 1), mul-add h body body, mul-add h n 1)

module _ (t : Words) (ok : first_no table_questions t ≡ 0) where
  abbrev body : ℕ
  body = table_state_line t (table_states t)

  lines_most : book_lines t ≤ table_horizon t * body + table_states t
  unfolding book_lines first_lines
  lines_most =
      let g = table_given t ok in
      let first = line_most t (table_lines_lem t ok) (table_first t + 1) (omega (arith, g.first_low)) in
      omega (arith, first, last_row (table_horizon t) body g.h_low)

  pub never_27 : first_no (slice_questions t) most_words ≡ 0
  never_27 =
      let g = table_given t ok in
      let rows = rows_most (table_horizon t) (table_states t) body g.n_low g.h_high (omega (arith, all_used_lem t (table_lines_lem t ok), g.l_high)) in
      passes most_words _ _ (le-leb (length (table_book t)) most_words (omega (arith, book_long t g (table_lines_lem t ok), lines_most, rows)))
      ∙ none most_words
