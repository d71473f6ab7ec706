-- Assumes nothing.
use mathlib.Core.Path.{◌≡◌, sym, ap, ◌∙◌}
use native.Mathlib.Nat.{sub-zero}
use native.Mathlib.Omega.{arith}
use lib.ListN.{length}
use Rattle.enumerate.proofs.Free.{free_from, none_left, free_more, free-later}
use Rattle.enumerate.proofs.count_free.Goals as goal
use Rattle.enumerate.proofs.count_free.Goals.{then-not-has, else-not-has}

pub loop-c-init : goal.loop-c-init
loop-c-init c = (omega arith, omega arith, omega arith)

pub overflow_add-found : goal.overflow_add-found
overflow_add-found c = let l = c in omega (arith, l.loop-c.invariant.1, l.loop-c.invariant.0, l.requires)

pub loop-c-preserved : goal.loop-c-preserved
loop-c-preserved c =
    let mask = c.args.mask in
    let n = c.args.n in
    let h = c.loop-c-test.true in
    elim c.if-not-has.branch [
      | then-not-has u ↦ (
        omega arith,
        omega (arith, u.found-is),
        omega (arith, u.found-is, ap length (free_more mask c.loop-c.c n h (sym c.has.ensures ∙ u.if-not-has.true))),
      )
      | else-not-has u ↦ (
        omega arith,
        omega (arith, u.found-is),
        omega (arith, u.found-is, ap length (free-later mask c.loop-c.c n h (sym c.has.ensures ∙ u.if-not-has.false))),
      )
    ]

pub returns : goal.returns
returns c =
    let l = c in
    let s = l in
    let z = ap length (none_left s.args.mask l.loop-c.c s.args.n (omega (arith, c.loop-c-test.false))) in
    let all : length (free_from s.args.mask 0 s.args.n) ≡ l.loop-c.found = omega (arith, l.loop-c.invariant.2, z) in
    sym (rw sub-zero at all)
