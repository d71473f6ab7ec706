-- The states before p have their entries.
-- Assumes nothing.
use Rattle.nexts.specs.Nexts.{NextsTo}
use Rattle.nexts.proofs.fill_sets.Given as goal

abbrev pub invariant-loop-p : goal.invariant-loop-p
invariant-loop-p l = NextsTo l.b l.p 0 l.t
