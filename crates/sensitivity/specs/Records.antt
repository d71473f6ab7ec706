-- The same of two written records, by the bytes that their reader has: k, and the eight bytes of the cost at each rank.
-- Assumes nothing.
use Rattle.std.specs.Prelude.{◌≡◌, ℕ, ◌<◌, pos, ◌+ℤ◌, ◌≤ℤ◌}
use mathlib.Core.List.{List}
use Rattle.model.specs.Record.{carried_count}
use Rattle.sensitivity.specs.Raise.{filed_cost}

-- the second record lists as many plans as the first, and its cost at each rank is that of the first or at most e more
pub record RecordMoved (e : ℕ) (first second : List ℕ) : Type 0 where
  pub count : carried_count second ≡ carried_count first
  pub each : (j : ℕ) → j < carried_count first → (filed_cost first j ≤ℤ filed_cost second j) × (filed_cost second j ≤ℤ (filed_cost first j +ℤ pos e))
