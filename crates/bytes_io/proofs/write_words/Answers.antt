-- Each word's bytes are stored after those before it.
-- Assumes nothing.
use Rattle.std.proofs.Common.{rules}
use native.Mathlib.Omega.{arith}
use lib.IntN.{pos}
use lib.ListN.{length, get_or}
use mir.Facts.{to_z-of_z}
use mir.Syntax.{w32}
use mir.Val.{SFits}
use Rattle.bytes_io.proofs.Numbers.{writing_next}
use Rattle.bytes_io.proofs.write_words.Goals as goal

pub loop-i-preserved : goal.loop-i-preserved
loop-i-preserved c =
    let s = c.args in
    let l = c.loop-i in
    let f : SFits w32 (get_or s.ws.now l.i (pos 0)) = search rules in
    writing_next 4 s.ws.now (length s.ws.now) s.out.now s.at c.requires l.i l.invariant (omega arith) (omega arith)
    (rw (to_z-of_z f) at c.write_word.ensures)
