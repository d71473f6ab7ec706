-- The walk has passed every action of the states below p, and t is the stage of the last of them.
-- Assumes nothing.
use Prim.Native.Nat.{◌≤◌}
use Rattle.model.specs.Model.{state_count}
use Rattle.book.specs.Read.{StageNear}
use Rattle.check_book.specs.Walk.{Progress}
use Rattle.check_book.proofs.walk_lines.Given as goal

abbrev pub invariant-loop-p : goal.invariant-loop-p
invariant-loop-p l = (l.p ≤ state_count l.b) × StageNear l.b l.p l.t × Progress l.b l.z l.most l.p 0 l.w
