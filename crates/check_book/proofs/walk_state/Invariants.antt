-- The walk has passed the first c actions of state p.
-- Assumes nothing.
use Rattle.check_book.specs.Walk.{Progress}
use Rattle.check_book.proofs.walk_state.Given as goal

abbrev pub invariant-loop-c : goal.invariant-loop-c
invariant-loop-c l = Progress l.b l.z l.q.most l.p l._c l.w
