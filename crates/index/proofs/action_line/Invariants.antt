-- After d turns j is the first line of action d.
-- Assumes nothing.
use mathlib.Core.Path.{◌≡◌}
use Rattle.model.specs.Model.{action_line}
use Rattle.index.proofs.action_line.Given as goal

abbrev pub invariant-loop-d : goal.invariant-loop-d
invariant-loop-d l = l.j ≡ action_line l.b l.p l.d
