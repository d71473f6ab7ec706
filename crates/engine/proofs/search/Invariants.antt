-- Assumes nothing.
use Rattle.engine.proofs.Turns.{Turn}
use Rattle.engine.proofs.search.Given as goal

abbrev pub invariant-loop-j : goal.invariant-loop-j
invariant-loop-j l = Turn l.b l.k l.initial.costs l.initial.plans l.j l.pool l.costs l.plans
