-- What is expected of the transitions from i on is still to be added.
-- Assumes nothing.
use lib.IntN.{◌+ℤ◌}
use lib.ListN.{drop}
use Rattle.model.specs.Model.{action}
use Rattle.model.specs.Recursion.{expected}
use Rattle.costs.specs.Terms.{value_at}
use Rattle.costs.proofs.Sums.{Summed}
use Rattle.costs.proofs.expect.Given as goal

abbrev pub invariant-loop-i : goal.invariant-loop-i
invariant-loop-i l =
    Summed (value_at l.v) (l.start +ℤ expected (value_at l.v) (action l.b l.p l.c).transitions) l.acc (drop l.i (action l.b l.p l.c).transitions)
