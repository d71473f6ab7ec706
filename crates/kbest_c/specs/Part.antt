-- Where the part that is shown lies in the record.
-- Assumes nothing.
use Rattle.std.specs.Prelude.{ℕ, cond, List, ltb}
use Rattle.model.specs.Record.{plan_start}
use Rattle.model.specs.Calls.{accept_states, accept_count}

unfoldable pub shown_offset : List ℕ → ℕ → ℕ
shown_offset bs j = cond (ltb j (accept_count bs)) (plan_start bs (accept_states bs) (accept_count bs) j) 0

unfoldable pub shown_length : List ℕ → ℕ → ℕ
shown_length bs j = cond (ltb j (accept_count bs)) (accept_states bs) 0
