-- "Prove it equal to the main engine on every such book, costs and bytes, for any K allowed.": on every book with at most 4,096 plans the two calls give the same
-- number and the same k and leave the slices the same, whatever K and the slices are. The contracts of both are equations with these definitions.
-- Assumes nothing.
use Rattle.std.specs.Prelude.{◌≡◌, List, ℕ, ◌≤◌, ℤ, length}
use Rattle.std.proofs.Math.Path.{ap}
use Rattle.std.proofs.Common.{le-leb}
use Rattle.model.specs.Lists.{for_each}
use Rattle.model.specs.Model.{Words}
use Rattle.model.specs.Questions.{and_then}
use Rattle.model.specs.Policy.{Policy, policies}
use Rattle.model.specs.Order.{ranking, ranking_costs}
use Rattle.model.specs.Record.{asked_number}
use Rattle.model.specs.Calls.{if_accepted, over, Room, room_of, rank_number, rank_count, rank_costs, rank_plans, most_small, is_small, small_number, small_count, small_costs, small_plans}
use Rattle.questions.specs.FirstNo.{passes}

-- what both calls give
pub record SameAsRank (ws : Words) (k : ℕ) (costs : List ℤ) (plans : List ℕ) : Type 0 where
  pub number : small_number ws (room_of k costs plans) ≡ rank_number ws (room_of k costs plans)
  pub count : small_count ws (room_of k costs plans) ≡ rank_count ws (room_of k costs plans)
  pub costs-after : small_costs ws k costs plans ≡ rank_costs ws k costs plans
  pub plans-after : small_plans ws k costs plans ≡ rank_plans ws k costs plans

module _ (ws : Words) (few : length (policies ws) ≤ most_small) where
  number_same : (room : Room) → small_number ws room ≡ rank_number ws room
  unfolding small_number rank_number is_small
  number_same room = ap (and_then (asked_number ws room.k)) (passes room _ _ (le-leb (length (policies ws)) most_small few))

  pub small_same : (k : ℕ) (costs : List ℤ) (plans : List ℕ) → SameAsRank ws k costs plans
  unfolding small_count small_costs small_plans rank_count rank_costs rank_plans
  small_same k costs plans =
      let e = number_same (room_of k costs plans) in
      record {
        number = e;
        count = ap (λ (n : ℕ). if_accepted n (length (ranking ws k)) 0) e;
        costs-after = ap (λ (n : ℕ). if_accepted n (over (ranking_costs ws k) costs) costs) e;
        plans-after = ap (λ (n : ℕ). if_accepted n (over (for_each (λ (p : Policy). p) (ranking ws k)) plans) plans) e;
      }
