-- The set has those of the first c actions from which no policy goes on, and j is the first line of action c.
-- Assumes nothing.
use mathlib.Core.Path.{◌≡◌}
use Prim.Native.Nat.{◌≤◌}
use Rattle.model.specs.Model.{action_line}
use Rattle.feasible.proofs.Sets.{MaskTo}
use Rattle.feasible.proofs.barred_at.Given as goal

abbrev pub invariant-loop-c : goal.invariant-loop-c
invariant-loop-c l =
    (l.n ≤ 8) × MaskTo l.b l.p l.dead l.c l.mask × (l.j ≡ action_line l.b l.p l.c)
