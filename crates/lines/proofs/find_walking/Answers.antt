-- Assumes nothing.
use mathlib.Core.Path.{◌≡◌, ap, ◌∙◌}
use native.Mathlib.Omega.{arith}
use Rattle.model.specs.Model.{action_count}
use Rattle.lines.specs.Lines.{word_of}
use Rattle.lines.proofs.Places.{state_after}
use Rattle.lines.proofs.find_walking.Goals as goal

pub returns : goal.returns
returns c =
    let e : c.loop-d.d ≡ action_count c.args.b.now c.args.p = omega (arith, c.count-n.ensures) in
    record {
      at-is = λ h. c.loop-d.invariant.1 (omega (arith, e));
      after_is = c.loop-d.invariant.0 ∙ ap (word_of c.args.b.now c.args.p) e ∙ state_after c.args.b.now c.args.p;
    }
