-- Weights in an array, one for each state.
-- Assumes nothing.
use Rattle.std.specs.Prelude.{◌≡◌, List, ℕ, ◌≤◌, ◌<◌, length, get_or}
use Rattle.model.specs.Model.{Words, Transition, state_count, action}
use Rattle.model.specs.Policy.{Policy}
use Rattle.laws.specs.Members.{AtNexts}
use Rattle.splits.specs.Reach.{add_to, spread, reach_weight}

abbrev pub weight_at : List ℕ → ℕ → ℕ
weight_at w s = get_or w s 0

-- the weights before the pass comes to state 0
abbrev pub first_weights : ℕ → ℕ
first_weights = add_to 0 1 (λ q. 0)

-- the array w has the weights W
pub record Holds (w : List ℕ) (W : ℕ → ℕ) : Type 0 where
  pub long : length w ≡ 64
  pub at : (s : ℕ) → weight_at w s ≡ W s

-- no sum at a next state wraps while x is spread
abbrev pub Room : ℕ → List Transition → List ℕ → Type 0
Room x ts w = AtNexts (λ q. spread x ts (weight_at w) q ≤ 10000000000000000) ts

-- w has the reach weights of the states of the model by the policy bs
pub record WeightsOf (ws : Words) (bs : Policy) (w : List ℕ) : Type 0 where
  pub long : length w ≡ 64
  pub at : (s : ℕ) → s < state_count ws → get_or w s 0 ≡ reach_weight (action ws) bs s
