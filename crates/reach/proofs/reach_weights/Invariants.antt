-- The array has the weights before the pass comes to state p.
-- Assumes nothing.
use Prim.Native.Nat.{◌≤◌}
use mathlib.Core.Path.{◌≡◌}
use lib.ListN.{length}
use Rattle.model.specs.Model.{state_count}
use Rattle.reach.proofs.Pass.{Passed}
use Rattle.reach.proofs.reach_weights.Given as goal

abbrev pub invariant-loop-p : goal.invariant-loop-p
invariant-loop-p l = (state_count l.b ≤ 64) × (length l.plan ≡ state_count l.b) × Passed l.b l.plan l.p l.w
