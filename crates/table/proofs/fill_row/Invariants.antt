-- The entries of the feasible ones of the first c actions are filled, and j is the first line of action c.
-- Assumes nothing.
use mathlib.Core.Path.{◌≡◌}
use Prim.Native.Nat.{◌≤◌, ◌<◌}
use Rattle.model.specs.Model.{action_line}
use Rattle.table.specs.Table.{FilledTo}
use Rattle.table.proofs.fill_row.Given as goal

abbrev pub invariant-loop-c : goal.invariant-loop-c
invariant-loop-c l =
    (l.p < 64) × (l.n ≤ 8) × FilledTo l.b l.p l.c l.v l.initial.q l.q × (l.j ≡ action_line l.b l.p l.c)
