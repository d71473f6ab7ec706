-- The words before word i are written.
-- Assumes nothing.
use lib.ListN.{length}
use Rattle.bytes_io.proofs.Numbers.{Writing}
use Rattle.bytes_io.proofs.write_words.Given as goal

abbrev pub invariant-loop-i : goal.invariant-loop-i
invariant-loop-i l = Writing 4 l.ws (length l.ws) l.initial.out l.at l.out l.i
