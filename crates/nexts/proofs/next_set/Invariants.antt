-- The next states of the transitions from i on are still to be added.
-- Assumes nothing.
use lib.ListN.{drop}
use Rattle.model.specs.Model.{action}
use Rattle.model.specs.Policy.{nexts}
use Rattle.nexts.proofs.Gather.{ToAdd}
use Rattle.nexts.proofs.next_set.Given as goal

abbrev pub invariant-loop-i : goal.invariant-loop-i
invariant-loop-i l =
    ToAdd (nexts (action l.b l.p l.c).transitions) (nexts (drop l.i (action l.b l.p l.c).transitions)) l.set
