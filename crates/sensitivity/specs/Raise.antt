-- Request 2.2, "What a slower leg can do": the book with one cost raised, how far a cost may rise by it, the weight of a policy's paths through one action, and
-- the costs of a record as its reader has them. No contract cites these definitions.
-- Assumes nothing.
use Rattle.std.specs.Prelude.{ℕ, ◌+◌, ◌*◌, ◌^◌, cond, List, ℤ, pos, ◌+ℤ◌, eqb, take, drop, set}
use Rattle.model.specs.Bytes.{from_bytes}
use Rattle.model.specs.Model.{Words, word, scale, horizon, line_count, state_count, action_line}
use Rattle.model.specs.Policy.{Policy}
use Rattle.model.specs.Path.{byte_at, paths}
use Rattle.model.specs.Record.{list_start}
use Rattle.laws.specs.Raises.{weight_past}
use Rattle.bytes_io.specs.Slices.{signed_from}

-- "A choice's first line holds r (left) and its cost in seconds (right).": the index of the word that is the cost of action c of state p
unfoldable pub cost_index : Words → ℕ → ℕ → ℕ
cost_index ws p c = 4 + horizon ws + state_count ws + line_count ws + action_line ws p c

-- "when one cost of a book is raised by d seconds, d at least 0": that of action c of state p. Every other word is as it was
unfoldable pub raised : Words → ℕ → ℕ → ℕ → Words
raised ws p c d = set ws (cost_index ws p c) (word ws (cost_index ws p c) +ℤ pos d)

-- "rises by at most d × D^H"
abbrev pub most_rise : Words → ℕ → ℕ
most_rise ws d = d * scale ws ^ horizon ws

-- the weight of a policy's paths on which it takes action c at state p
unfoldable pub weight_through : Words → Policy → ℕ → ℕ → ℕ
weight_through ws bs p c = cond (eqb (byte_at bs p) c) (weight_past p (paths ws bs)) 0

-- in 64 bits the numbers from 2^63 on say those below 0
abbrev pub negative_from : ℕ
negative_from = 2 ^ 63

-- "costs of eight bytes, two's complement, low byte first": the cost of plan j, counted from 0, as a record has it
unfoldable pub filed_cost : List ℕ → ℕ → ℤ
filed_cost bs j = signed_from negative_from (from_bytes (take 8 (drop (list_start bs + j * 8) bs)))
