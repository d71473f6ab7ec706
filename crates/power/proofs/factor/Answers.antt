-- The part is 1 or 0, and so is the exponent of x.
-- Assumes nothing.
use mathlib.Core.Path.{◌≡◌}
use Prim.Native.Nat.{◌/◌, ◌%◌}
use native.Mathlib.Nat.{pow-zero}
use native.Mathlib.Omega.{arith}
use Rattle.power.proofs.Range.{once}
use Rattle.power.proofs.factor.Goals as goal

pub returns-then-e-k-eq1 : goal.returns-then-e-k-eq1
returns-then-e-k-eq1 c = let s = c.args in let one : s.e / s.k % 2 ≡ 1 = c.if-e-k-eq1.true in rw (one, once s.x)

pub returns-else-e-k-eq1 : goal.returns-else-e-k-eq1
returns-else-e-k-eq1 c = let s = c.args in let none : s.e / s.k % 2 ≡ 0 = omega (arith, c.if-e-k-eq1.false) in rw (none, pow-zero s.x)
