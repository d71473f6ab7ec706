-- The bit that is set is the definition's: it lies in the word.
-- Assumes nothing.
use mathlib.Core.Path.{ap}
use lib.Bits.{bit_or}
use Rattle.sets.specs.Sets.{with, one_shifted}
use Rattle.sets.proofs.U8Set.with.Goals as goal

pub returns : goal.returns
unfolding with
returns c = ap (bit_or c.args.self) (one_shifted 8 c.args.i c.requires)
