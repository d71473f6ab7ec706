-- Assumes nothing.
use Rattle.sets.specs.Sets.{first-set}
use Rattle.build.proofs.Prefix.{passed_none}
use Rattle.build.proofs.reached_before.Goals as goal

pub loop-s-init : goal.loop-s-init
loop-s-init c = passed_none c.args.b.now c.args.plan.now c.requires.3 c.requires.4 1 first-set
