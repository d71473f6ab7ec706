-- Each cost's bytes are stored after those before it.
-- Assumes nothing.
use Rattle.std.proofs.Common.{rules}
use native.Mathlib.Omega.{arith}
use lib.IntN.{pos}
use mathlib.Core.Path.{◌≡◌}
use lib.ListN.{length, take, get_or}
use lib.Seq.{length-take-le, get_or-take}
use mir.Facts.{to_z-of_z}
use mir.Syntax.{w64}
use mir.Val.{SFits}
use Rattle.bytes_io.proofs.Numbers.{writing_next}
use Rattle.bytes_io.proofs.write_costs.Goals as goal

pub loop-i-preserved : goal.loop-i-preserved
loop-i-preserved c =
    let s = c.args in
    let l = c.loop-i in
    let few : length (take s.k s.costs.now) ≡ s.k = length-take-le s.k s.costs.now c.requires.1 in
    let here : get_or (take s.k s.costs.now) l.i (pos 0) ≡ get_or s.costs.now l.i (pos 0) = get_or-take s.k s.costs.now l.i (pos 0) (omega arith) in
    let f : SFits w64 (get_or (take s.k s.costs.now) l.i (pos 0)) = search rules in
    writing_next 8 s.costs.now s.k s.out.now s.at c.requires.0 l.i l.invariant (omega arith) c.requires.1
    (rw (to_z-of_z f, here) at c.write_cost.ensures)
