-- The transitions passed so far are allowed, and prev is the last next state.
-- Assumes nothing.
use mathlib.Core.Path.{◌≡◌}
use mathlib.Core.Bool.{true}
use Prim.Native.Nat.{◌≤◌}
use Rattle.model.specs.Lists.{all}
use Rattle.actions.specs.Action.{prev_at, next_allowed}
use Rattle.actions.proofs.nexts_allowed.Given as goal

abbrev pub invariant-loop-i : goal.invariant-loop-i
invariant-loop-i l = (l.i ≤ l.r) × (l.prev ≡ prev_at l.b l.at l.i) × (all l.i (next_allowed l.b l.at l.width) ≡ true)
