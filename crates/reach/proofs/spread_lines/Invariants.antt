-- y is spread over the first i transitions.
-- Assumes nothing.
use lib.ListN.{drop}
use Rattle.model.specs.Model.{action}
use Rattle.splits.specs.Reach.{spread}
use Rattle.reach.specs.Weights.{weight_at}
use Rattle.reach.proofs.Spreading.{ToSpread}
use Rattle.reach.proofs.spread_lines.Given as goal

abbrev pub invariant-loop-i : goal.invariant-loop-i
invariant-loop-i l =
    ToSpread l.y (spread l.y (action l.b l.p l.c).transitions (weight_at l.initial.w)) (drop l.i (action l.b l.p l.c).transitions) l.w
