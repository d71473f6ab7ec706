-- The index of the states below p is made; t is the stage of the last of them, and `at` the first line of p.
-- Assumes nothing.
use mathlib.Core.Path.{◌≡◌}
use Prim.Native.Nat.{◌≤◌}
use Rattle.model.specs.Model.{state_count, state_line}
use Rattle.book.specs.Read.{StageNear}
use Rattle.index.specs.Index.{IndexTo}
use Rattle.index.proofs.fill_index.Given as goal

abbrev pub invariant-loop-p : goal.invariant-loop-p
invariant-loop-p l =
    (state_count l.b ≤ 64) × IndexTo l.b l.p l.x × StageNear l.b l.p l.t × (l.at ≡ state_line l.b l.p)
