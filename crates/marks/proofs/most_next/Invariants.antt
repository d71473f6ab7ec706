-- The most of the next states before transition i is had; that of those from i on is still to come.
-- Assumes nothing.
use mathlib.Core.Path.{◌≡◌}
use Prim.Native.Nat.{max}
use lib.ListN.{drop}
use Rattle.model.specs.Model.{action}
use Rattle.path_sums.specs.Most.{most_next}
use Rattle.marks.specs.Marks.{number_at}
use Rattle.marks.proofs.most_next.Given as goal

abbrev pub invariant-loop-i : goal.invariant-loop-i
invariant-loop-i l =
    most_next (number_at l.v) (action l.b l.p l.c).transitions ≡ max l.most (most_next (number_at l.v) (drop l.i (action l.b l.p l.c).transitions))
