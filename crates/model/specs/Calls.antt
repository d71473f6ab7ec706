-- What each call gives: its number, its figures, and what each lent slice holds afterwards. "A refusal carries its number and 0 for every other
-- figure, and writes no byte. Success writes the stated front of a slice and leaves the rest as before."
-- Assumes nothing.
use Rattle.std.specs.Prelude.{ℕ, zero, suc, ◌*◌, ◌^◌, Bool, ◌&&◌, cond, List, [], ◌∷◌, ◌++◌, ℤ, pos, leb, ltb, length, take, drop}
use Rattle.model.specs.Lists.{for_each}
use Rattle.model.specs.Model.{Words, state_count}
use Rattle.model.specs.Questions.{Question, first_no, and_then, book_number}
use Rattle.model.specs.Policy.{Policy, is_policy, policies}
use Rattle.model.specs.Path.{policy_cost}
use Rattle.model.specs.Order.{ranking, ranking_costs}
use Rattle.model.specs.Standing.{answer_number, answer_value, standing}
use Rattle.model.specs.Limit.{Limit, limit_allowed, kept_number, kept_rank, first_kept}
use Rattle.model.specs.Record.{record_bytes, carried_count, carried_book, plan_start, plan_questions, asked_number, accept_number}

-- what goes with the number 0, and what with any other
abbrev pub if_accepted : {A : Type 0} → ℕ → A → A → A
if_accepted zero accepted refused = accepted
if_accepted (suc n) accepted refused = refused

module _ {A : Type 0} where
  -- a slice whose front is written over
  abbrev pub over : List A → List A → List A
  over front slice = front ++ drop (length front) slice

-- "the least cost that of the first plan"
abbrev pub first_cost : List ℤ → ℤ
first_cost [] = pos 0
first_cost (z ∷ zs) = z

-- ---- value: "Valuing asks 1 to 13, then: is the slice a plan of this book? 17."

abbrev pub policy_questions : Words → List (Question Policy)
policy_questions ws = record { number = 17; asks = λ bs. is_policy ws bs } ∷ []

unfoldable pub value_number : Words → Policy → ℕ
value_number ws bs = and_then (book_number ws) (first_no (policy_questions ws) bs)

unfoldable pub value_cost : Words → Policy → ℤ
value_cost ws bs = if_accepted (value_number ws bs) (policy_cost ws bs) (pos 0)

-- ---- least: "The least cost asks 1 to 13"; request 2.7: 28, "for the least cost of the book, after 13"

unfoldable pub least_number : Words → ℕ
least_number ws = and_then (book_number ws) (first_no plan_questions ws)

unfoldable pub least_cost : Words → ℤ
least_cost ws = if_accepted (least_number ws) (first_cost (ranking_costs ws 1)) (pos 0)

-- ---- rank: 1 to 14 and 28 (`asked_number`), then: "Does the lent slice of 64-bit costs have K places? 15. Does the plan slice have K × S bytes? 16."

-- K and the lengths of the two lent slices
pub record Room : Type 0 where
  pub k : ℕ
  pub costs : ℕ
  pub plans : ℕ

abbrev pub room_questions : Words → List (Question Room)
room_questions ws =
    record { number = 15; asks = λ room. leb room.k room.costs }
    ∷ record { number = 16; asks = λ room. leb (room.k * state_count ws) room.plans }
    ∷ []

unfoldable pub rank_number : Words → Room → ℕ
rank_number ws room = and_then (asked_number ws room.k) (first_no (room_questions ws) room)

unfoldable pub rank_count : Words → Room → ℕ
rank_count ws room = if_accepted (rank_number ws room) (length (ranking ws room.k)) 0

-- the two slices afterwards, of which `costs` and `plans` are the contents before
abbrev pub room_of : ℕ → List ℤ → List ℕ → Room
room_of k costs plans = record { k = k; costs = length costs; plans = length plans }

unfoldable pub rank_costs : Words → ℕ → List ℤ → List ℕ → List ℤ
rank_costs ws k costs plans = if_accepted (rank_number ws (room_of k costs plans)) (over (ranking_costs ws k) costs) costs

unfoldable pub rank_plans : Words → ℕ → List ℤ → List ℕ → List ℕ
rank_plans ws k costs plans =
    if_accepted (rank_number ws (room_of k costs plans)) (over (for_each (λ (p : Policy). p) (ranking ws k)) plans) plans

-- ---- rank of small books, request 2.11: "For books with at most 4,096 plans, write a ranking that goes through all plans and keeps the first K."
-- "Refused: 30, more than 4,096 plans, after 28 and before 15."

-- the most plans that such a book has
abbrev pub most_small : ℕ
most_small = 4096

-- has the book no more than those?
unfoldable pub is_small : Words → Bool
is_small ws = leb (length (policies ws)) most_small

abbrev pub small_questions : Words → List (Question Room)
small_questions ws = record { number = 30; asks = λ room. is_small ws } ∷ room_questions ws

unfoldable pub small_number : Words → Room → ℕ
small_number ws room = and_then (asked_number ws room.k) (first_no (small_questions ws) room)

unfoldable pub small_count : Words → Room → ℕ
small_count ws room = if_accepted (small_number ws room) (length (ranking ws room.k)) 0

unfoldable pub small_costs : Words → ℕ → List ℤ → List ℕ → List ℤ
small_costs ws k costs plans = if_accepted (small_number ws (room_of k costs plans)) (over (ranking_costs ws k) costs) costs

unfoldable pub small_plans : Words → ℕ → List ℤ → List ℕ → List ℕ
small_plans ws k costs plans =
    if_accepted (small_number ws (room_of k costs plans)) (over (for_each (λ (p : Policy). p) (ranking ws k)) plans) plans

-- ---- write: "Writing a record asks 1 to 14", 28, "then: does the lent slice hold the record? 18."

abbrev pub write_questions : Words → ℕ → List (Question ℕ)
write_questions ws k = record { number = 18; asks = λ room. leb (length (record_bytes ws k)) room } ∷ []

unfoldable pub write_number : Words → ℕ → ℕ → ℕ
write_number ws k room = and_then (asked_number ws k) (first_no (write_questions ws k) room)

unfoldable pub write_length : Words → ℕ → ℕ → ℕ
write_length ws k room = if_accepted (write_number ws k room) (length (record_bytes ws k)) 0

unfoldable pub write_record : Words → ℕ → List ℕ → List ℕ
write_record ws k slice = if_accepted (write_number ws k (length slice)) (over (record_bytes ws k) slice) slice

-- ---- accept: "accepting S and k"

unfoldable pub accept_states : List ℕ → ℕ
accept_states bs = if_accepted (accept_number bs) (state_count (carried_book bs)) 0

unfoldable pub accept_count : List ℕ → ℕ
accept_count bs = if_accepted (accept_number bs) (carried_count bs) 0

-- ---- show: "Showing plan j of a record gives its S bytes as part of the record itself, or an empty part if the record isn't accepted or j is k or more"

unfoldable pub shown : List ℕ → ℕ → List ℕ
shown bs j =
    cond (ltb j (accept_count bs)) (take (accept_states bs) (drop (plan_start bs (accept_states bs) (accept_count bs) j) bs)) []

-- ---- find, request 2.8: "handed a book and K; it says one of"; "Other slices get 17, asked after 14 and 28."

unfoldable pub find_number : Words → ℕ → Policy → ℕ
find_number ws k bs = and_then (asked_number ws k) (first_no (policy_questions ws) bs)

-- 0 where it is refused, else which of the three answers; and its rank, amount or post
unfoldable pub find_answer : Words → ℕ → Policy → ℕ
find_answer ws k bs = if_accepted (find_number ws k bs) (answer_number (standing ws k bs)) 0

unfoldable pub find_value : Words → ℕ → Policy → ℤ
find_value ws k bs = if_accepted (find_number ws k bs) (answer_value (standing ws k bs)) (pos 0)

-- ---- limit, request 2.10: "Refused: 29, marks of the wrong length or value, or m out of range, after 14 and 28."

abbrev pub limit_questions : Words → List (Question Limit)
limit_questions ws = record { number = 29; asks = limit_allowed ws } ∷ []

unfoldable pub limit_number : Words → ℕ → Limit → ℕ
limit_number ws k limit = and_then (asked_number ws k) (first_no (limit_questions ws) limit)

-- 0 where it is refused, else which of the three answers; and the rank
unfoldable pub limit_answer : Words → ℕ → Limit → ℕ
limit_answer ws k limit = if_accepted (limit_number ws k limit) (kept_number (first_kept ws k limit)) 0

unfoldable pub limit_rank : Words → ℕ → Limit → ℕ
limit_rank ws k limit = if_accepted (limit_number ws k limit) (kept_rank (first_kept ws k limit)) 0

-- ---- power: "D^e for every D from 1 to 100 and e from 0 to 8"; "a lookup for any other D or e gives 0"

unfoldable pub power_of : ℕ → ℕ → ℕ
power_of d e = cond (leb 1 d && leb d 100 && leb e 8) (d ^ e) 0
