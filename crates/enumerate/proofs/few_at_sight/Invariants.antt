-- The product of the states before p is there.
-- Assumes nothing.
use mathlib.Core.Path.{◌≡◌}
use Prim.Native.Nat.{◌*◌, ◌-◌, ◌≤◌}
use Rattle.model.specs.Model.{state_count}
use Rattle.model.specs.Recursion.{feasible}
use Rattle.enumerate.specs.Ways.{ways}
use Rattle.enumerate.proofs.few_at_sight.Given as goal

abbrev pub invariant-loop-p : goal.invariant-loop-p
invariant-loop-p l =
    (l.p ≤ state_count l.b) × (l.product ≤ l.most) × (ways (feasible l.b) (state_count l.b) 0 ≡ l.product * ways (feasible l.b) (state_count l.b - l.p) l.p)
