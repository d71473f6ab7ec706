-- The first of the two slices that is too short has its number, after 28.
-- Assumes nothing.
use Prim.Native.Nat.{◌≤◌}
use native.Mathlib.Nat.{mul-le-mul}
use native.Mathlib.Omega.{arith}
use borrow.Author.Tests.{le-leb, lt-leb}
use Rattle.accepted.specs.Facts.{accepted}
use Rattle.index.proofs.Lines.{headed}
use Rattle.rank.specs.Short.{short_number}
use Rattle.rank.proofs.short_number.Goals as goal

pub after_28-requires : goal.after_28-requires
after_28-requires c = c.requires.ok

pub returns-then-c-k : goal.returns-then-c-k
unfolding short_number
returns-then-c-k c = rw (lt-leb _ _ c.if-c-k.true) c.after_28.ensures

pub read_sizes-z-requires : goal.read_sizes-z-requires
read_sizes-z-requires c = headed _ c.requires.ok

pub overflow_mul-k : goal.overflow_mul-k
overflow_mul-k c =
    let z = c.read_sizes-z in
    let s = c in
    let few : z.result.s ≤ 64 = omega (arith, z.ensures.s_is, (accepted s.args.b.now s.requires.ok).sizes.s_high) in
    omega (arith, mul-le-mul {n₁ = s.args.k} {m₁ = z.result.s} {n₂ = 64} {m₂ = 64} s.requires.high few)

pub after_28-requires-then-p-k : goal.after_28-requires-then-p-k
after_28-requires-then-p-k c = c.requires.ok

pub returns-then-p-k : goal.returns-then-p-k
unfolding short_number
returns-then-p-k c =
    let k = c in
    let z = k in
    rw (le-leb _ _ z.if-c-k.false, ← z.read_sizes-z.ensures.s_is, lt-leb _ _ c.if-p-k.true) c.after_28-then-p-k.ensures

pub returns : goal.returns
unfolding short_number
returns c =
    let z = c in
    rw (le-leb _ _ z.if-c-k.false, ← z.read_sizes-z.ensures.s_is, le-leb _ _ c.if-p-k.false)
