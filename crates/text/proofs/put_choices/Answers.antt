-- One choice more.
-- Assumes nothing.
use mathlib.Core.Path.{sym}
use native.Mathlib.Omega.{arith}
use Rattle.text.specs.Text.{joined}
use Rattle.text.proofs.Steps.{one_more, spoken}
use Rattle.text.proofs.put_choices.Goals as goal

pub loop-x-preserved : goal.loop-x-preserved
loop-x-preserved c =
    let l = c.loop-x in
    let y = c.put_choice-p.ensures in
    (omega (arith, y.1, l.invariant.0), spoken (sym (one_more c.args.plan.now l.x-index (omega arith))) (joined l.invariant.1 y.0))
