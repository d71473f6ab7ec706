-- Assumes nothing.
use Rattle.model.specs.Model.{action}
use Rattle.model.specs.Policy.{nexts}
use Rattle.lines.proofs.Steps.{next_done}
use Rattle.nexts.proofs.Gather.{one_added}
use Rattle.nexts.proofs.next_set.Goals as goal

pub loop-i-preserved : goal.loop-i-preserved
loop-i-preserved c =
    let q = c.next-q in
    one_added (nexts (action c.args.b.now c.args.p c.args.c).transitions) c.loop-i.set
    (next_done c.requires c.loop-i.i c.loop-i-test.true q.result q.ensures.is) c.with-set.ensures c.loop-i.invariant
