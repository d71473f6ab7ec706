-- The columns begin at the word that the sizes say; the index has the first state of the next stage.
-- Assumes nothing.
use Prim.Native.Nat.{◌<◌}
use native.Mathlib.Omega.{arith}
use Rattle.accepted.specs.Facts.{accepted}
use Rattle.index.proofs.Lines.{lines_inside}
use Rattle.lines.proofs.of_line.Goals as goal
use Rattle.lines.proofs.of_line.Goals.{Start}

low : (s : goal.Start) → s.args.p < 64
low s = omega (arith, s.requires.1.state, (accepted s.args.b.now s.requires.0.checked.ok).sizes.s_high)

pub overflow_add-z : goal.overflow_add-z
overflow_add-z c =
    let s = c in
    omega (arith, lines_inside s.args.b.now s.args.z s.args.p s.args.c s.args.j s.requires.0.checked s.requires.1)

pub overflow_add-p : goal.overflow_add-p
overflow_add-p c = omega (arith, low (goal.at.overflow_add-p c).Start)

pub offset_bounds-x-p : goal.offset_bounds-x-p
offset_bounds-x-p c = omega (arith, low (goal.at.offset_bounds-x-p c).Start)

pub bounds-x-p : goal.bounds-x-p
bounds-x-p c = omega (arith, low (goal.at.bounds-x-p c).Start)
