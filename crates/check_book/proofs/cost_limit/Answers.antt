-- The unit is d^h × (h + 1), which is at least 1 and fits.
-- Assumes nothing.
use mathlib.Core.Path.{◌≡◌}
use Prim.Native.Nat.{ℕ, ◌^◌, ◌≤◌}
use native.Mathlib.Omega.{arith}
use Rattle.check_book.proofs.Bound.{unit_high, unit_low}
use Rattle.check_book.proofs.cost_limit.Goals as goal

module _ (c : goal.After-raised) where
  abbrev d : ℕ
  d = c.args.z.d

  abbrev h : ℕ
  h = c.args.z.h

  pre : (1 ≤ d) × (d ≤ 100) × (h ≤ 8)
  pre = c.requires

  raised : c.raised.result ≡ d ^ h
  raised = c.raised.ensures

pub overflow_mul-unit : goal.overflow_mul-unit
overflow_mul-unit c = rw (raised c) (omega (arith, unit_high (d c) (h c) (pre c).0 (pre c).1 (pre c).2))

pub nonzero_div-result : goal.nonzero_div-result
nonzero_div-result c = rw (raised c) (unit_low (d c) (h c) (pre c).0 (pre c).1 (pre c).2)

pub returns : goal.returns
returns c = rw (raised c)
