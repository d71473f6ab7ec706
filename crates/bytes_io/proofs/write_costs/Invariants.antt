-- The costs before cost i are written.
-- Assumes nothing.
use Rattle.bytes_io.proofs.Numbers.{Writing}
use Rattle.bytes_io.proofs.write_costs.Given as goal

abbrev pub invariant-loop-i : goal.invariant-loop-i
invariant-loop-i l = Writing 8 l.costs l.k l.initial.out l.at l.out l.i
