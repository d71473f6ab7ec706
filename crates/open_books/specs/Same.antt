-- A book without the mark gives the same numbers, list and record by the rules before request 2.7; what they accept is accepted, with the same answers.
-- Assumes nothing.
use Rattle.std.specs.Prelude.{◌≡◌}
use Prim.Native.Nat.{ℕ}
use Rattle.model.specs.Model.{Words}
use Rattle.model.specs.Questions.{book_number}
use Rattle.model.specs.Policy.{Policy, policies}
use Rattle.model.specs.Order.{ranking, ranking_costs}
use Rattle.model.specs.Record.{record_bytes}
use Rattle.model.specs.Record.{asked_number}
use Rattle.model.specs.Calls.{value_number, least_number, least_cost}
use Rattle.open_books.specs.Former.{former_number, former_asked}
use Rattle.open_books.specs.Former.{former_policies, former_value_number, former_ranking, former_costs, former_least}
use Rattle.open_books.specs.Former.{former_record}

-- the answers for a book
pub record Unchanged (ws : Words) : Type 0 where
  pub number : former_number ws ≡ book_number ws
  pub asked : (k : ℕ) → former_asked ws k ≡ asked_number ws k
  pub value_number_lem : (bs : Policy) → former_value_number ws bs ≡ value_number ws bs
  pub least-number : former_number ws ≡ least_number ws
  pub least : former_least ws ≡ least_cost ws
  pub plans : former_policies ws ≡ policies ws
  pub list : (k : ℕ) → former_ranking ws k ≡ ranking ws k
  pub costs : (k : ℕ) → former_costs ws k ≡ ranking_costs ws k
  pub bytes : (k : ℕ) → former_record ws k ≡ record_bytes ws k
