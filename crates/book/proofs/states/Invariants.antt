-- After n turns s is the sum of the first n stages' sizes.
-- Assumes nothing.
use mathlib.Core.Path.{◌≡◌}
use Prim.Native.Nat.{◌*◌, ◌≤◌}
use Rattle.model.specs.Model.{first_state}
use Rattle.book.proofs.states.Given as goal

abbrev pub invariant-loop-n : goal.invariant-loop-n
invariant-loop-n l = (l.s ≡ first_state l.b l.n) × (l.s ≤ l.n * 2147483648)
