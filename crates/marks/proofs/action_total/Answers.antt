-- Assumes nothing.
use mathlib.Core.Path.{◌≡◌, sym}
use Prim.Native.Nat.{◌+◌, ◌≤◌}
use native.Mathlib.Omega.{arith}
use Rattle.model.specs.Limit.{first_mark}
use Rattle.accepted.specs.Facts.{accepted}
use Rattle.marks.proofs.Counts.{mark_none, mark_step, mark_few}
use Rattle.marks.proofs.action_total.Goals as goal

pub loop-p-init : goal.loop-p-init
loop-p-init c = sym (mark_none _)

-- one state more
module _ (c : goal.After-count-n) where
  more : c.loop-p.n + c.count-n.result ≡ first_mark c.args.b.now (c.loop-p.p + 1)
  more = omega (arith, c.loop-p.invariant, c.count-n.ensures, mark_step c.args.b.now c.loop-p.p)

  few : c.loop-p.n + c.count-n.result ≤ 512
  few =
      let s = (accepted c.args.b.now c.requires.ok).sizes in
      omega (arith, more, s.s_high, c.requires.sizes.s_is, c.loop-p-test.true, mark_few c.args.b.now c.requires.ok (c.loop-p.p + 1) (omega (arith, c.requires.sizes.s_is)))

pub overflow_add-n : goal.overflow_add-n
overflow_add-n c = omega (arith, few c)

pub loop-p-preserved : goal.loop-p-preserved
loop-p-preserved c = more c
