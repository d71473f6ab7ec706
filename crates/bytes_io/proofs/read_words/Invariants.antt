-- The words still to be read, written over what stands there now, give the result.
-- Assumes nothing.
use Prim.Native.Nat.{◌+◌, ◌*◌, ◌-◌}
use lib.ListN.{drop}
use Rattle.model.specs.Bytes.{words_of}
use Rattle.bytes_io.proofs.Parts.{Filling}
use Rattle.bytes_io.proofs.read_words.Given as goal

abbrev pub invariant-loop-i : goal.invariant-loop-i
invariant-loop-i l = Filling l.initial.out 0 l.n (words_of l.n (drop l.at l.r)) l.out l.i (words_of (l.n - l.i) (drop (l.at + 4 * l.i) l.r))
