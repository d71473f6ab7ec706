-- Sets of actions that no policy can take, and of states from which none goes on.
-- Assumes nothing.
use Rattle.std.specs.Prelude.{◌≡◌, Bool, false, not, ◌&&◌, List, ℕ, ◌≤◌, ◌<◌, length, get_or}
use Rattle.std.proofs.Common.{arith}
use Rattle.model.specs.Lists.{is_empty, every, up_from}
use Rattle.model.specs.Model.{Words, Transition, state_count, action_count, action, closed}
use Rattle.model.specs.Policy.{nexts}
use Rattle.model.specs.Recursion.{feasible}
use Rattle.sets.specs.Sets.{has, free}

-- do the transitions lead to no state of the set?
abbrev pub avoids : ℕ → List Transition → Bool
avoids dead ts = every (λ (q : ℕ). not (has dead q)) (nexts ts)

-- is action c of state p open, and does it lead to none?
abbrev pub goes_by : Words → ℕ → ℕ → ℕ → Bool
goes_by ws dead p c = not (closed (action ws p c).cost) && avoids dead (action ws p c).transitions

-- of the states from n on, the set has those from which no policy goes on
abbrev pub DeadFrom : Words → ℕ → ℕ → Type 0
DeadFrom ws n dead = (p : ℕ) → n ≤ p → p < state_count ws → has dead p ≡ is_empty (feasible ws p)

-- what the set leaves of the actions of state p are the feasible ones
abbrev pub Leaves : Words → ℕ → ℕ → Type 0
Leaves ws p mask = free mask (up_from 0 (action_count ws p)) ≡ feasible ws p

-- such sets for every state of the model
pub record BarredOf (ws : Words) (off : List ℕ) : Type 0 where
  pub long : length off ≡ 64
  pub leaves : (p : ℕ) → p < state_count ws → Leaves ws p (get_or off p 0)

-- for the states from n on, with the set of those from which no policy goes on; no state before n is in it
pub record BarredFrom (ws : Words) (n : ℕ) (off : List ℕ) (dead : ℕ) : Type 0 where
  pub long : length off ≡ 64
  pub leaves : (p : ℕ) → n ≤ p → p < state_count ws → Leaves ws p (get_or off p 0)
  pub dead_is : DeadFrom ws n dead
  pub fresh : (p : ℕ) → p < n → has dead p ≡ false

-- the sets of all states
pub all_barred : (ws : Words) (off : List ℕ) (dead : ℕ) → BarredFrom ws 0 off dead → BarredOf ws off
all_barred ws off dead h = record { long = h.long; leaves = λ p l. h.leaves p (omega arith) l }
