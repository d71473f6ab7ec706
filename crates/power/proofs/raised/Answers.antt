-- `raised` meets its contract: a power by the parts 1, 2, 4 and 8 of its exponent. All are at most 100^8.
-- Assumes nothing.
use mathlib.Core.Path.{◌≡◌, ap, ap₂, ◌∙◌}
use Prim.Native.Nat.{◌*◌, ◌/◌, ◌%◌, ◌^◌}
use native.Mathlib.Omega.{arith}
use Rattle.power.proofs.Range.{squared, fourth, eighth, power_high, low_parts_high, parts}
use Rattle.power.proofs.raised.Goals as goal
use Rattle.power.proofs.raised.Goals.{Else-e-eq8}

pub returns-then-e-lt2 : goal.returns-then-e-lt2
returns-then-e-lt2 c =
    let s = c in
    let e : s.args.e / 1 % 2 ≡ s.args.e = omega arith in
    c.factor-low.ensures ∙ ap (λ k. s.args.d ^ k) e

pub overflow_mul-two : goal.overflow_mul-two
overflow_mul-two c = let s = c in omega (arith, squared s.args.d, power_high s.args.d 2 s.requires.0 (omega arith))

pub overflow_mul-four : goal.overflow_mul-four
overflow_mul-four c = let s = c in omega (arith, fourth s.args.d, power_high s.args.d 4 s.requires.0 (omega arith))

pub overflow_mul-result : goal.overflow_mul-result
overflow_mul-result c = let s = c in omega (arith, eighth s.args.d, power_high s.args.d 8 s.requires.0 (omega arith))

pub returns-then-e-eq8 : goal.returns-then-e-eq8
returns-then-e-eq8 c = rw c.if-e-eq8.true (eighth c.args.d)

-- the first factor, and past the tests
module _ (e : goal.Else-e-eq8) where
  abbrev f : goal.Else-e-eq8
  f = e

  abbrev s : goal.Else-e-eq8
  s = e

pub overflow_mul-result-2 : goal.overflow_mul-result-2
overflow_mul-result-2 c =
    let e = (goal.at.overflow_mul-result-2 c).Else-e-eq8 in
    omega (arith, ap₂ ◌*◌ (f e).factor-low.ensures c.factor.ensures, low_parts_high (s e).args.d (s e).args.e (s e).requires.0)

product : (c : goal.After-factor-2) →
    let e = (goal.at.overflow_mul-result-3 c).Else-e-eq8 in
    (f e).factor-low.result * c.factor.result * c.factor-2.result ≡ (s e).args.d ^ (s e).args.e
product c =
    let e = (goal.at.overflow_mul-result-3 c).Else-e-eq8 in
    ap₂ ◌*◌ (ap₂ ◌*◌ (f e).factor-low.ensures c.factor.ensures) c.factor-2.ensures
    ∙ parts (s e).args.d (s e).args.e (omega (arith, (s e).requires.1, e.if-e-eq8.false))

pub overflow_mul-result-3 : goal.overflow_mul-result-3
overflow_mul-result-3 c =
    let e = (goal.at.overflow_mul-result-3 c).Else-e-eq8 in
    omega (arith, product c, power_high (s e).args.d (s e).args.e (s e).requires.0 (s e).requires.1)

pub returns : goal.returns
returns c = product c
