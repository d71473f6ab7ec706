-- Assumes nothing.
use mathlib.Core.Path.{◌∙◌}
use mir.Syntax.{w64}
use mir.Val.{SFits}
use Rattle.std.proofs.Common.{rules}
use Rattle.lines.proofs.Steps.{one_done}
use Rattle.costs.specs.Terms.{value_at}
use Rattle.costs.proofs.Sums.{read64, one_summed}
use Rattle.costs.proofs.expect.Goals as goal

pub loop-i-preserved : goal.loop-i-preserved
loop-i-preserved c =
    let q = c.next-next.result in
    let w = c.weight-w.result in
    let front = one_done c.requires.0 c.loop-i.i c.loop-i-test.true q w c.next-next.ensures.is c.weight-w.ensures.is in
    let f : SFits w64 (value_at c.args.v.now q) = search rules in
    one_summed c.loop-i.invariant front _
    (read64 c.mul_add-acc.result c.mul_add-acc.type_inv ∙ (rw (read64 (value_at c.args.v.now q) f.sfits) at c.mul_add-acc.ensures))
