-- The actions of the states before p are counted.
-- Assumes nothing.
use mathlib.Core.Path.{◌≡◌}
use Rattle.model.specs.Limit.{first_mark}
use Rattle.marks.proofs.action_total.Given as goal

abbrev pub invariant-loop-p : goal.invariant-loop-p
invariant-loop-p l = l.n ≡ first_mark l.b l.p
