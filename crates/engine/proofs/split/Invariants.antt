-- The children at the states before p have joined.
-- Assumes nothing.
use Rattle.child.specs.Children.{entry_of}
use Rattle.engine.proofs.Turns.{Splitting}
use Rattle.engine.proofs.split.Given as goal

abbrev pub invariant-loop-p : goal.invariant-loop-p
invariant-loop-p l = Splitting l.b (entry_of l.e l.plan) l.initial.pool l.p l.pool l.reach
