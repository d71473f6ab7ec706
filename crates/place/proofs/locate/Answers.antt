-- Each test that fails gives no place; after them no sum passes the type, since W is a number of four bytes.
-- Assumes nothing.
use Prim.Native.Nat.{◌*◌, ◌≤◌}
use native.Mathlib.Nat.{mul-le-mul}
use native.Mathlib.Omega.{arith}
use borrow.Author.Tests.{lt-ltb, le-ltb, le-leb, lt-leb}
use Rattle.questions.specs.Ranges.{and_right}
use Rattle.record.specs.Passed.{start_is}
use Rattle.place.specs.Place.{place_of}
use Rattle.place.proofs.locate.Goals as goal

product : (c : goal.After-carried_length) →
    let a = c.args in
    a.j * a.s ≤ 4096
product c =
    let e = c in
    let a = e.args in
    mul-le-mul {n₁ = a.j} {m₁ = a.s} {n₂ = 64} {m₂ = 64} (omega (arith, e.if-k-j.false, e.if-k-gt64.false)) e.if-s-gt64.false

pub returns-then-k-j : goal.returns-then-k-j
unfolding place_of
returns-then-k-j c = rw (le-ltb _ _ c.if-k-j.true)

pub returns-then-k-gt64 : goal.returns-then-k-gt64
unfolding place_of
returns-then-k-gt64 c = rw (lt-leb _ 64 c.if-k-gt64.true, and_right)

pub returns-then-s-gt64 : goal.returns-then-s-gt64
unfolding place_of
returns-then-s-gt64 c = rw (lt-leb _ 64 c.if-s-gt64.true, and_right)

pub returns-then-r-lt12 : goal.returns-then-r-lt12
unfolding place_of
returns-then-r-lt12 c = rw (lt-leb 12 _ c.if-r-lt12.true, and_right)

pub overflow_mul-from-3 : goal.overflow_mul-from-3
overflow_mul-from-3 c = omega (arith, product c)

pub overflow_add-from-3 : goal.overflow_add-from-3
overflow_add-from-3 c = omega (arith, product c)

pub overflow_add-from-4 : goal.overflow_add-from-4
overflow_add-from-4 c = omega (arith, product c)

pub returns-then-r-from : goal.returns-then-r-from
unfolding place_of
returns-then-r-from c =
    let d = c in
    let r = d.args.r.now in
    rw (start_is r, ← d.carried_length.ensures.0, lt-leb _ _ c.if-r-from.true, and_right)

pub returns : goal.returns
unfolding place_of
returns c =
    let d = c in
    let f = d in
    let r = f.args.r.now in
    rw (
      start_is r,
      ← d.carried_length.ensures.0,
      lt-ltb _ _ f.if-k-j.false,
      le-leb _ 64 d.if-k-gt64.false,
      le-leb _ 64 d.if-s-gt64.false,
      le-leb 12 _ d.if-r-lt12.false,
      le-leb _ _ c.if-r-from.false,
    )
