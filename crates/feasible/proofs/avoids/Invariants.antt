-- The next states before transition i are outside the set.
-- Assumes nothing.
use mathlib.Core.Path.{◌≡◌}
use lib.ListN.{drop}
use Rattle.model.specs.Model.{action}
use Rattle.feasible.specs.Barred.{avoids}
use Rattle.feasible.proofs.avoids.Given as goal

abbrev pub invariant-loop-i : goal.invariant-loop-i
invariant-loop-i l = avoids l.dead (action l.b l.p l.c).transitions ≡ avoids l.dead (drop l.i (action l.b l.p l.c).transitions)
