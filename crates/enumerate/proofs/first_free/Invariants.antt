-- None of the actions before c is left.
-- Assumes nothing.
use mathlib.Core.Path.{◌≡◌}
use Rattle.enumerate.proofs.Free.{free_from}
use Rattle.enumerate.proofs.first_free.Given as goal

abbrev pub invariant-loop-c : goal.invariant-loop-c
invariant-loop-c l = free_from l.mask l.from l.n ≡ free_from l.mask l.c l.n
