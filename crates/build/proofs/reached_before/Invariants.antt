-- The first s states are passed.
-- Assumes nothing.
use Rattle.build.specs.Walk.{Passed}
use Rattle.build.proofs.reached_before.Given as goal

abbrev pub invariant-loop-s : goal.invariant-loop-s
invariant-loop-s l = Passed l.b l.plan l.s l.reach
