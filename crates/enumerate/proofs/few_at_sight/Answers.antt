-- Assumes nothing.
use mathlib.Core.Path.{◌≡◌, sym, ap, ◌∙◌}
use Prim.Native.Nat.{ℕ, suc, ◌+◌, ◌*◌, ◌-◌, ◌<◌}
use native.Mathlib.Nat.{mul_assoc, mul-one, one-mul, sub-zero}
use native.Mathlib.Numerals.{add-one}
use native.Mathlib.Omega.{arith}
use Rattle.model.specs.Model.{state_count}
use Rattle.model.specs.Recursion.{feasible}
use Rattle.enumerate.specs.Ways.{ways_at, ways, policies-most}
use Rattle.enumerate.proofs.few_at_sight.Goals as goal

pub loop-p-init : goal.loop-p-init
loop-p-init c = (omega arith, c.requires.3, rw sub-zero (sym (one-mul _)))

pub times-product-requires : goal.times-product-requires
times-product-requires c =
    let l = c in
    let s = l in
    (s.requires.0, s.requires.1, omega (arith, c.loop-p-test.true, s.requires.0.sizes.s_is), omega (arith, l.loop-p.invariant.1, s.requires.2))

pub loop-p-preserved : goal.loop-p-preserved
loop-p-preserved c =
    let u = c in
    let t = u in
    let l = t in
    let s = l in
    let ws = s.args.b.now in
    let p = l.loop-p.p in
    let inside : p < state_count ws = omega (arith, t.loop-p-test.true, s.requires.0.sizes.s_is) in
    let m : state_count ws - p ≡ suc (state_count ws - (p + 1)) = omega arith in (
      omega arith,
      omega (arith, c.if-most-product.false),
      l.loop-p.invariant.2 ∙ ap (λ (n : ℕ). l.loop-p.product * ways (feasible ws) n p) m
          ∙ sym (mul_assoc l.loop-p.product (ways_at (feasible ws p)) (ways (feasible ws) (state_count ws - (p + 1)) (suc p)))
          ∙ rw (← u.times-product.ensures, add-one p),
    )

pub returns : goal.returns
returns c =
    let l = c in
    let s = l in
    let ws = s.args.b.now in
    let z : state_count ws - l.loop-p.p ≡ 0 = omega (arith, c.loop-p-test.false, s.requires.0.sizes.s_is) in
    omega (
      arith,
      policies-most ws s.requires.0.ok,
      l.loop-p.invariant.1,
      l.loop-p.invariant.2,
      ap (λ (n : ℕ). l.loop-p.product * ways (feasible ws) n l.loop-p.p) z,
      mul-one l.loop-p.product,
    )
