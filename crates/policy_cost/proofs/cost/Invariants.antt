-- The costs-to-go of the states from p on are there.
-- Assumes nothing.
use mathlib.Core.Path.{◌≡◌}
use lib.ListN.{length}
use Rattle.policy_cost.proofs.Steps.{Has}
use Rattle.policy_cost.proofs.cost.Given as goal

abbrev pub invariant-loop-p : goal.invariant-loop-p
invariant-loop-p l = (length l.v ≡ 64) × Has l.b l.plan l.p l.v
