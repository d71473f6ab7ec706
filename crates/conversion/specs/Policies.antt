-- The policies of a table's book are the policies of the table. Stage by stage, both find the same states reached, so both allow the same bytes.
-- Assumes nothing.
use Rattle.std.specs.Prelude.{◌≡◌}
use Prim.Native.Nat.{ℕ}
use Rattle.model.specs.Lists.{is_in}
use Rattle.model.specs.Model.{Words, options}
use Rattle.model.specs.Policy.{Policy, allowed}
use Rattle.model.specs.Path.{byte_at}
use Rattle.laws.specs.Members.{In}
use Rattle.accepted.specs.Demands.{reached}
use Rattle.reward_table.specs.Days.{reached_at, choices}
use Rattle.reward_table.specs.Convert.{table_book}
use Rattle.conversion.specs.Sizes.{state_at}

-- the byte of stage k and state s is one of those that the table allows there
abbrev pub Allowed : Words → Policy → ℕ → ℕ → Type 0
Allowed t bs k s = In (byte_at bs (state_at t k s)) (allowed (choices t k s) (is_in s (reached_at t bs k)))

-- the byte of state q is one of those that the book allows
abbrev pub BookAllowed : Words → Policy → ℕ → Type 0
BookAllowed t bs q = In (byte_at bs q) (allowed (options (table_book t) q) (is_in q (reached (table_book t) bs)))

-- table and book agree on whether state s is reached at stage k
abbrev pub Same : Words → Policy → ℕ → ℕ → Type 0
Same t bs k s = is_in (state_at t k s) (reached (table_book t) bs) ≡ is_in s (reached_at t bs k)
