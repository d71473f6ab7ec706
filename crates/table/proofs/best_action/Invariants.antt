-- The best so far and the best of the actions to come give the best of all.
-- Assumes nothing.
use mathlib.Core.Path.{◌≡◌}
use Rattle.model.specs.Lists.{up_from}
use Rattle.model.specs.Recursion.{best_of}
use Rattle.sets.specs.Sets.{free}
use Rattle.table.specs.Table.{Chosen, better, row_of}
use Rattle.table.proofs.Better.{rest}
use Rattle.table.proofs.best_action.Given as goal

abbrev pub invariant-loop-c : goal.invariant-loop-c
invariant-loop-c l =
    Chosen l.best
    × (best_of (row_of l.q l.p) (free l.mask (up_from 0 l.n)) ≡ better (row_of l.q l.p) l.best (best_of (row_of l.q l.p) (rest l.mask l.c l.n)))
