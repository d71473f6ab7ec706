-- The digest stays below the prime.
-- Assumes nothing.
use Prim.Native.Nat.{◌<◌}
use Rattle.cases.proofs.print_each.Given as goal

abbrev pub invariant-loop-i : goal.invariant-loop-i
invariant-loop-i l = l.d < 36028797018963913
