-- The entries of the first c actions are filled, and j is the first line of action c.
-- Assumes nothing.
use mathlib.Core.Path.{◌≡◌}
use Prim.Native.Nat.{◌≤◌, ◌<◌}
use Rattle.model.specs.Model.{action_line}
use Rattle.nexts.specs.Nexts.{NextsTo}
use Rattle.nexts.proofs.fill_state.Given as goal

abbrev pub invariant-loop-c : goal.invariant-loop-c
invariant-loop-c l =
    (l.p < 64) × (l.n ≤ 8) × NextsTo l.b l.p l.c l.t × (l.j ≡ action_line l.b l.p l.c)
