-- Those before c are counted.
-- Assumes nothing.
use mathlib.Core.Path.{◌≡◌}
use Prim.Native.Nat.{◌+◌, ◌≤◌}
use lib.ListN.{length}
use Rattle.enumerate.proofs.Free.{free_from}
use Rattle.enumerate.proofs.count_free.Given as goal

abbrev pub invariant-loop-c : goal.invariant-loop-c
invariant-loop-c l = (l.c ≤ l.n) × (l.found ≤ l.c) × (length (free_from l.mask 0 l.n) ≡ l.found + length (free_from l.mask l.c l.n))
