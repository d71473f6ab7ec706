-- The pass has come to state s.
-- Assumes nothing.
use Rattle.build.specs.Walk.{chosen}
use Rattle.build.proofs.Pass.{Pass}
use Rattle.build.proofs.build.Given as goal

abbrev pub invariant-loop-s : goal.invariant-loop-s
invariant-loop-s l = Pass l.b (chosen l.b l.plan l.r l.c) l.s l.reach l.out
