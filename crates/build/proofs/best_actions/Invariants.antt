-- The first and second best actions of the states below p are found.
-- Assumes nothing.
use Prim.Native.Nat.{◌≤◌}
use Rattle.model.specs.Model.{state_count}
use Rattle.build.proofs.Best.{Found}
use Rattle.build.proofs.best_actions.Given as goal

abbrev pub invariant-loop-p : goal.invariant-loop-p
invariant-loop-p l = (state_count l.b ≤ 64) × Found l.b l.k l.p l.best
