-- The stages still to be written, written over what stands there now, give the result.
-- Assumes nothing.
use Prim.Native.Nat.{◌-◌}
use lib.ListN.{take, drop}
use Rattle.table_book.proofs.Repeats.{Repeating}
use Rattle.table_book.proofs.put_later_counts.Given as goal

abbrev pub invariant-loop-k : goal.invariant-loop-k
invariant-loop-k l = Repeating l.initial.out l.at (l.fn.z.h - 1) l.n (take l.n (drop 5 l.t)) l.out l.k
