-- The table of next states.
-- Assumes nothing.
use Rattle.std.specs.Prelude.{◌≡◌, List, ℕ, ◌+◌, ◌*◌, ◌<◌, length, get_or}
use Rattle.model.specs.Model.{Words, state_count, action}
use Rattle.model.specs.Policy.{nexts}
use Rattle.accepted.specs.Options.{Feasible}
use Rattle.sets.specs.Sets.{SetOf}

-- the entries of the feasible actions of the states before n, and of those of the first m actions of state n
pub record NextsTo (ws : Words) (n m : ℕ) (t : List ℕ) : Type 0 where
  pub long : length t ≡ 512
  pub before : (p c : ℕ) → p < n → Feasible ws p c → SetOf (get_or t (8 * p + c) 0) (nexts (action ws p c).transitions)
  pub row : (c : ℕ) → c < m → Feasible ws n c → SetOf (get_or t (8 * n + c) 0) (nexts (action ws n c).transitions)

-- the entries of the feasible actions of all states
pub record NextsOf (ws : Words) (t : List ℕ) : Type 0 where
  pub long : length t ≡ 512
  pub at : (p c : ℕ) → p < state_count ws → Feasible ws p c → SetOf (get_or t (8 * p + c) 0) (nexts (action ws p c).transitions)
