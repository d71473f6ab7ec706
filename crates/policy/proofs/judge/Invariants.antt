-- The pass has come to state p.
-- Assumes nothing.
use Prim.Native.Nat.{◌-◌}
use Rattle.policy.proofs.Walk.{Walk}
use Rattle.policy.proofs.judge.Given as goal

abbrev pub invariant-loop-p : goal.invariant-loop-p
invariant-loop-p l = Walk l.b l.plan l.p l.t l.at l.w l.sum
