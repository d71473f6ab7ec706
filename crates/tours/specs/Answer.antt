-- A call with its arguments, and all that it gives, by the definitions of crate model.
-- Assumes nothing.
use Rattle.std.specs.Prelude.{ℕ, List, ℤ, length}
use Rattle.model.specs.Model.{Words}
use Rattle.model.specs.Questions.{book_number}
use Rattle.model.specs.Policy.{Policy}
use Rattle.model.specs.Order.{ranking, ranking_costs}
use Rattle.model.specs.Record.{accept_number}
use Rattle.model.specs.Page.{page}
use Rattle.model.specs.Calls.{if_accepted, Room, value_number, value_cost, least_number, least_cost, rank_number, write_number, write_record}
use Rattle.model.specs.Calls.{accept_states, accept_count}

pub data Call : Type 0 where
  check : Words → Call
  value : Words → Policy → Call
  least : Words → Call
  rank : Words → Room → Call
  write : Words → ℕ → List ℕ → Call  -- with the lent slice
  accept : List ℕ → Call
  print : List ℕ → Call

pub data Answer : Type 0 where
  refused : ℕ → Answer
  good : Answer
  cost : ℤ → Answer
  listed : List ℤ → List Policy → Answer
  slice : List ℕ → Answer  -- what the lent slice then holds
  record_of : ℕ → ℕ → Answer  -- S and k
  printed : List ℕ → Answer

-- a refusal, or the answer that goes with the number 0
abbrev or_else : ℕ → Answer → Answer
or_else n a = if_accepted n a (refused n)

abbrev pub answer : Call → Answer
answer (check ws) = or_else (book_number ws) good
answer (value ws bs) = or_else (value_number ws bs) (cost (value_cost ws bs))
answer (least ws) = or_else (least_number ws) (cost (least_cost ws))
answer (rank ws room) = or_else (rank_number ws room) (listed (ranking_costs ws room.k) (ranking ws room.k))
answer (write ws k lent) = or_else (write_number ws k (length lent)) (slice (write_record ws k lent))
answer (accept bs) = or_else (accept_number bs) (record_of (accept_states bs) (accept_count bs))
answer (print input) = printed (page input)
