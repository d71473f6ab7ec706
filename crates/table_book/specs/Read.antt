-- What the functions that make the book ask and give.
-- Assumes nothing.
use Rattle.std.specs.Prelude.{◌≡◌, true, ℕ, ◌+◌, ◌*◌, ◌-◌, ◌≤◌}
use Rattle.model.specs.Model.{Words}
use Rattle.reward_table.specs.Table.{table_horizon, table_states, table_first, table_state_line, lines_given}
use Rattle.reward_table.specs.Read.{Given, TableRead}
use Rattle.reward_table.specs.declared.Table.{Table}
use Rattle.table_book.specs.Columns.{first_lines, book_lines}
use Rattle.table_book.specs.declared.Sizes.{Sizes}

-- the sizes of the book of a table whose first state has the lines `from` to `to`
pub record SizesOf (h n from to body : ℕ) (s : Sizes) : Type 0 where
  pub from_is : s.from ≡ from
  pub first-is : s.first ≡ to - from
  pub body_is : s.body ≡ body
  pub lines_is : s.lines ≡ to - from + (h - 1) * body + n
  pub states_is : s.states ≡ 1 + h * n
  pub length_is : s.length ≡ 4 + h + s.states + 2 * s.lines
  pub small : s.lines ≤ 32768

-- the table passes 25 and 26, and its sizes were read
pub record Passed (t : Words) (z : Table) : Type 0 where
  pub given : Given t
  pub read : TableRead t z
  pub lines : lines_given t ≡ true

pub record Made (t : Words) (s : Sizes) : Type 0 where
  pub from_is : s.from ≡ table_state_line t (table_first t)
  pub first-is : s.first ≡ first_lines t
  pub body_is : s.body ≡ table_state_line t (table_states t)
  pub lines_is : s.lines ≡ book_lines t
  pub states_is : s.states ≡ 1 + table_horizon t * table_states t
  pub length_is : s.length ≡ 4 + table_horizon t + s.states + 2 * s.lines
  pub small : s.lines ≤ 32768
