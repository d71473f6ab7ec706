-- Books in which no action is closed: every action is an option, and an accepted book has a policy.
-- Assumes nothing.
use Rattle.std.specs.Prelude.{◌≡◌, false, ℕ, ◌<◌}
use Rattle.model.specs.Model.{Words, state_count, action_count, action, closed}

-- no action, reached or not, has the mark for its cost
abbrev pub AllOpen : Words → Type 0
AllOpen ws = (p c : ℕ) → p < state_count ws → c < action_count ws p → closed (action ws p c).cost ≡ false
