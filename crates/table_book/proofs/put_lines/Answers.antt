-- Assumes nothing.
use mathlib.Core.Path.{ap, ◌∙◌}
use Prim.Native.Nat.{ℕ, ◌+◌}
use Rattle.bytes_io.specs.Slices.{written}
use Rattle.table_book.proofs.Puts.{left-words, part_copied}
use Rattle.table_book.proofs.put_lines.Goals as goal

pub returns-else-right : goal.returns-else-right
returns-else-right c =
    let a = c.args in
    let q = c.requires in
    rw c.if-right.false
    (part_copied a.out.now a.at a.count a.t.now (a.z.columns + a.j) c.copy_from_slice.ensures.after
    ∙ ap (written a.out.now a.at a.count)
    (left-words a.t.now q.0 (a.z.columns + a.j) a.j a.count (ap (λ (k : ℕ). k + a.j) q.1.columns_is) q.2))
