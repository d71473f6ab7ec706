-- The table of the states from p on is made.
-- Assumes nothing.
use Prim.Native.Nat.{◌≤◌}
use Rattle.model.specs.Model.{state_count}
use Rattle.table.specs.Table.{TableFrom}
use Rattle.table.proofs.fill_table.Given as goal

abbrev pub invariant-loop-p : goal.invariant-loop-p
invariant-loop-p l = (state_count l.b ≤ 64) × TableFrom l.b l.p l.q l.v
