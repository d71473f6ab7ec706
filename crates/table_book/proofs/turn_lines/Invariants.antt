-- The words still to be written, written over what stands there now, give the result.
-- Assumes nothing.
use Prim.Native.Nat.{◌+◌, ◌-◌}
use Rattle.bytes_io.proofs.Parts.{Filling}
use Rattle.table_book.specs.Columns.{turned_from, Turnable}
use Rattle.table_book.proofs.turn_lines.Given as goal

abbrev pub invariant-loop-i : goal.invariant-loop-i
invariant-loop-i l =
    Filling l.initial.out l.at l.count (turned_from l.t 0 l.j l.count) l.out l.i (turned_from l.t l.rest (l.j + l.i) (l.count - l.i)) × Turnable l.t l.rest (l.j + l.i) (l.count - l.i)
