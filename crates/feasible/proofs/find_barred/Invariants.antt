-- The sets of the states from p on are made.
-- Assumes nothing.
use Prim.Native.Nat.{◌≤◌}
use Rattle.model.specs.Model.{state_count}
use Rattle.feasible.specs.Barred.{BarredFrom}
use Rattle.feasible.proofs.find_barred.Given as goal

abbrev pub invariant-loop-p : goal.invariant-loop-p
invariant-loop-p l = (state_count l.b ≤ 64) × BarredFrom l.b l.p l.off l.dead
