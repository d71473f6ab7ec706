-- What the call asks of its slices and what it gives, by name.
-- Assumes nothing.
use Rattle.std.specs.Prelude.{◌≡◌, List, ℕ, ◌*◌, ◌≤◌, ℤ, length}
use Rattle.model.specs.Model.{Words, state_count}
use Rattle.model.specs.Calls.{room_of, small_number, small_count, small_costs, small_plans}

-- there is room for k policies and their costs
pub record RoomFor (ws : Words) (k : ℕ) (costs : List ℤ) (plans : List ℕ) : Type 0 where
  pub low : 1 ≤ k
  pub high : k ≤ 64
  pub costs_room : k ≤ length costs
  pub plans_room : k * state_count ws ≤ length plans

-- the number, how many are listed, and the two slices afterwards
pub record SmallRanked (ws : Words) (k no n : ℕ) (costs costs' : List ℤ) (plans plans' : List ℕ) : Type 0 where
  pub number_is : no ≡ small_number ws (room_of k costs plans)
  pub count_is : n ≡ small_count ws (room_of k costs plans)
  pub costs_are : costs' ≡ small_costs ws k costs plans
  pub plans_are : plans' ≡ small_plans ws k costs plans
