-- Assumes nothing.
use Prim.Native.Nat.{◌+◌, ◌*◌}
use native.Mathlib.Omega.{arith}
use lib.ListN.{drop, length-drop}
use lib.Seq.{length-take-le}
use Rattle.table_book.proofs.Puts.{part_copied}
use Rattle.table_book.proofs.Repeats.{rep_step}
use Rattle.table_book.proofs.put_later_counts.Goals as goal

pub loop-k-preserved : goal.loop-k-preserved
loop-k-preserved c =
    let n = c.args.z.n in
    let t = c.args.t.now in
    rep_step _ _ _ _ _ c.requires.2 c.loop-k.invariant
    (length-take-le n (drop 5 t) (omega (arith, length-drop 5 t, c.requires.0.exact, c.requires.1.n_is))) c.loop-k-test.true
    (part_copied c.loop-k.out (c.args.at + c.loop-k.k * n) n t 5 c.copy_from_slice.ensures.after)
