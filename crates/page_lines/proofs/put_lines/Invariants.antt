-- The lines before policy j are written.
-- Assumes nothing.
use Prim.Native.Nat.{◌+◌, ◌*◌, ◌≤◌}
use Rattle.text.specs.Text.{Appended}
use Rattle.page_lines.specs.Lines.{array_lines}
use Rattle.page_lines.proofs.put_lines.Given as goal

abbrev pub invariant-loop-j : goal.invariant-loop-j
invariant-loop-j l = (l.p ≤ l.at + 1387 * l.j) × Appended l.initial.out l.at (array_lines l.l l.j) l.out l.p
