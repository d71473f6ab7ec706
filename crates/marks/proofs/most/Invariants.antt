-- The figures of the states from p on are made.
-- Assumes nothing.
use mathlib.Core.Path.{◌≡◌}
use lib.ListN.{take, drop}
use Rattle.model.specs.Model.{state_count}
use Rattle.model.specs.Limit.{first_mark}
use Rattle.marks.specs.Marks.{MostTo}
use Rattle.marks.proofs.most.Given as goal

abbrev pub invariant-loop-p : goal.invariant-loop-p
invariant-loop-p l = (l.first ≡ first_mark l.b l.p) × MostTo l.b l.marks (take (state_count l.b) (drop l.at l.plans)) l.p l.v
