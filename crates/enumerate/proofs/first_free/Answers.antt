-- Assumes nothing.
use mathlib.Core.Path.{refl, ap, sym, ◌∙◌}
use native.Mathlib.Omega.{arith}
use Rattle.next_policy.specs.Next.{first_of}
use Rattle.enumerate.proofs.Free.{none_left, free_here, free-later}
use Rattle.enumerate.proofs.first_free.Goals as goal

pub loop-c-init : goal.loop-c-init
loop-c-init c = refl

pub returns-then-not-has : goal.returns-then-not-has
returns-then-not-has c =
    let l = c in
    let s = l in
    sym (ap first_of l.loop-c.invariant
    ∙ free_here s.args.mask l.loop-c.c s.args.n c.loop-c-test.true (sym c.has.ensures ∙ c.if-not-has.true))

pub loop-c-preserved : goal.loop-c-preserved
loop-c-preserved c =
    let l = c in
    let s = l in
    l.loop-c.invariant
    ∙ free-later s.args.mask l.loop-c.c s.args.n c.loop-c-test.true (sym c.has.ensures ∙ c.if-not-has.false)

pub returns : goal.returns
returns c =
    let l = c in
    let s = l in
    sym (ap first_of (l.loop-c.invariant ∙ none_left s.args.mask l.loop-c.c s.args.n (omega (arith, c.loop-c-test.false))))
