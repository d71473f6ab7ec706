-- The calls by another number of a book than that of the questions 1 to 13, as laws about the rules before a request need them; and where the two numbers
-- agree, each call gives the same answer. No contract cites these definitions.
-- Assumes nothing.
use Rattle.std.specs.Prelude.{◌≡◌, List, ℕ, ℤ, pos, length}
use Rattle.model.specs.Lists.{for_each}
use Rattle.model.specs.Model.{Words}
use Rattle.model.specs.Questions.{first_no, and_then, book_number}
use Rattle.model.specs.Policy.{Policy}
use Rattle.model.specs.Path.{policy_cost}
use Rattle.model.specs.Order.{ranking, ranking_costs}
use Rattle.model.specs.Record.{record_bytes, carried_k, carried_book, count_questions, plan_questions, head_questions, tail_questions, asked_number, accept_number}
use Rattle.model.specs.Calls.{if_accepted, over, first_cost, policy_questions, value_number, value_cost, least_number, least_cost, Room, room_questions}
use Rattle.model.specs.Calls.{rank_number, room_of, rank_costs, rank_plans, write_questions, write_number, write_record}

module _ (number : Words → ℕ) where
  -- valuing and the least cost
  unfoldable pub value_number_by : Words → Policy → ℕ
  value_number_by ws bs = and_then (number ws) (first_no (policy_questions ws) bs)

  unfoldable pub value_cost_by : Words → Policy → ℤ
  value_cost_by ws bs = if_accepted (value_number_by ws bs) (policy_cost ws bs) (pos 0)

  unfoldable pub least_number_by : Words → ℕ
  least_number_by ws = and_then (number ws) (first_no plan_questions ws)

  unfoldable pub least_cost_by : Words → ℤ
  least_cost_by ws = if_accepted (least_number_by ws) (first_cost (ranking_costs ws 1)) (pos 0)

  -- ranking: its number, and the two lent slices afterwards
  unfoldable pub asked_by : Words → ℕ → ℕ
  asked_by ws k = and_then (number ws) (and_then (first_no count_questions k) (first_no plan_questions ws))

  unfoldable pub rank_number_by : Words → Room → ℕ
  rank_number_by ws room = and_then (asked_by ws room.k) (first_no (room_questions ws) room)

  unfoldable pub rank_costs_by : Words → ℕ → List ℤ → List ℕ → List ℤ
  rank_costs_by ws k costs plans = if_accepted (rank_number_by ws (room_of k costs plans)) (over (ranking_costs ws k) costs) costs

  unfoldable pub rank_plans_by : Words → ℕ → List ℤ → List ℕ → List ℕ
  rank_plans_by ws k costs plans =
      if_accepted (rank_number_by ws (room_of k costs plans)) (over (for_each (λ (p : Policy). p) (ranking ws k)) plans) plans

  -- writing: its number, and the lent slice afterwards
  unfoldable pub write_number_by : Words → ℕ → ℕ → ℕ
  write_number_by ws k room = and_then (asked_by ws k) (first_no (write_questions ws k) room)

  unfoldable pub write_record_by : Words → ℕ → List ℕ → List ℕ
  write_record_by ws k slice = if_accepted (write_number_by ws k (length slice)) (over (record_bytes ws k) slice) slice

  -- accepting
  unfoldable pub accept_number_by : List ℕ → ℕ
  accept_number_by bs =
      and_then (first_no head_questions bs) (and_then (asked_by (carried_book bs) (carried_k bs)) (first_no tail_questions bs))

  -- the calls of a book answer as they do by the questions
  pub record SameCalls (ws : Words) : Type 0 where
    pub check : number ws ≡ book_number ws
    pub value : (bs : Policy) → value_number_by ws bs ≡ value_number ws bs
    pub value_cost_lem : (bs : Policy) → value_cost_by ws bs ≡ value_cost ws bs
    pub least : least_number_by ws ≡ least_number ws
    pub least-cost : least_cost_by ws ≡ least_cost ws
    pub asked : (k : ℕ) → asked_by ws k ≡ asked_number ws k
    pub rank : (room : Room) → rank_number_by ws room ≡ rank_number ws room
    pub costs : (k : ℕ) (costs : List ℤ) (plans : List ℕ) → rank_costs_by ws k costs plans ≡ rank_costs ws k costs plans
    pub plans : (k : ℕ) (costs : List ℤ) (plans : List ℕ) → rank_plans_by ws k costs plans ≡ rank_plans ws k costs plans
    pub write : (k room : ℕ) → write_number_by ws k room ≡ write_number ws k room
    pub record_bytes_lem : (k : ℕ) (slice : List ℕ) → write_record_by ws k slice ≡ write_record ws k slice

  pub same-calls : (ws : Words) → number ws ≡ book_number ws → SameCalls ws
  unfolding value_number_by value_cost_by least_number_by least_cost_by asked_by rank_number_by rank_costs_by rank_plans_by write_number_by write_record_by value_number
      value_cost least_number least_cost asked_number rank_number rank_costs rank_plans write_number write_record
  same-calls ws e = record {
    check = e;
    value = λ bs. rw e;
    value_cost_lem = λ bs. rw e;
    least = rw e;
    least-cost = rw e;
    asked = λ k. rw e;
    rank = λ room. rw e;
    costs = λ k costs plans. rw e;
    plans = λ k costs plans. rw e;
    write = λ k room. rw e;
    record_bytes_lem = λ k slice. rw e;
  }

  -- a record whose book has the same number gets the same
  pub same_accept : (bs : List ℕ) → number (carried_book bs) ≡ book_number (carried_book bs) → accept_number_by bs ≡ accept_number bs
  unfolding accept_number_by asked_by accept_number asked_number
  same_accept bs e = rw e
