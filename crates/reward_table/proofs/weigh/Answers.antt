-- Assumes nothing.
use Rattle.std.proofs.Common.{arith}
use Rattle.std.proofs.lemmas.Int.{ints, to_z-of_z}
use Rattle.model.specs.Model.{word}
use Rattle.reward_table.proofs.Facts.{sum_more}
use Rattle.reward_table.proofs.weigh.Goals as goal

pub loop-x-preserved : goal.loop-x-preserved
unfolding word
loop-x-preserved c = (grind (arith, ints, to_z-of_z, sum_more), omega (arith, ints))
