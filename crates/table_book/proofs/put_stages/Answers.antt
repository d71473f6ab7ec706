-- The first stage is written from the table, and the others after it are the same.
-- Assumes nothing.
use Prim.Native.Nat.{◌-◌}
use Rattle.table_book.specs.Columns.{column_from}
use Rattle.table_book.proofs.Entries.{column_long}
use Rattle.table_book.proofs.Repeats.{rep_more}
use Rattle.table_book.proofs.put_stages.Goals as goal

pub returns : goal.returns
returns c =
    let a = c.args in
    rep_more a.out.now a.at (a.z.h - 1) a.body (column_from a.t.now a.right 0 a.body) c.if-m-eq0.false c.requires.4
    (column_long a.t.now a.right 0 a.body) c.put_lines.ensures c.repeat.ensures
