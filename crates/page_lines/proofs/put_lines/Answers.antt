-- Assumes nothing.
use mathlib.Core.Path.{◌≡◌}
use Prim.Native.Nat.{◌+◌, ◌*◌, ◌≤◌}
use native.Mathlib.Omega.{arith}
use Rattle.std.proofs.Common.{rules}
use lib.IntN.{pos}
use lib.ListN.{length, get_or}
use mir.Facts.{to_z-of_z}
use mir.Syntax.{w64}
use mir.Val.{SFits}
use Rattle.text.specs.Text.{Appended, line_text}
use Rattle.page_lines.proofs.Part.{within, part, part_long, next_line}
use Rattle.page_lines.proofs.put_lines.Goals as goal

pub loop-j-preserved : goal.loop-j-preserved
loop-j-preserved c =
    let l = c.args.l in
    let j = c.loop-j.j in
    let inside : j * l.s + l.s ≤ length l.plans = omega (arith, within j l.n l.s (omega arith), c.requires.0.plans_long) in
    let z = get_or l.costs j (pos 0) in
    let f : SFits w64 z = search rules in
    let t : Appended c.loop-j.out c.loop-j.p (line_text (j + 1) z (part l j inside)) c.put_line-p.new.out c.put_line-p.result
    = rw (to_z-of_z f) at c.put_line-p.ensures.0 in (
      omega (arith, c.put_line-p.ensures.1, part_long l j inside, c.requires.1, c.loop-j.invariant.0),
      next_line l j inside c.loop-j.invariant.1 t,
    )
