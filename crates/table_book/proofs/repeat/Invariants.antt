-- The runs still to be written, written over what stands there now, give the result; the one that they are copied from stays.
-- Assumes nothing.
use lib.ListN.{take, drop}
use Rattle.table_book.proofs.Repeats.{Repeating}
use Rattle.table_book.proofs.repeat.Given as goal

abbrev pub invariant-loop-k : goal.invariant-loop-k
invariant-loop-k l = Repeating l.initial.out l.at l.m l.count (take l.count (drop l.from l.initial.out)) l.out l.k
