-- Assumes nothing.
use mathlib.Core.Path.{◌≡◌, refl, sym, ◌∙◌}
use Prim.Native.Nat.{ℕ, ◌+◌}
use native.Mathlib.Omega.{arith}
use lib.IntN.{nat_abs}
use Rattle.model.specs.Lists.{all}
use Rattle.model.specs.Model.{word}
use Rattle.questions.specs.Ranges.{and_right, all_fails, all_more, sum_step}
use Rattle.book.proofs.Words.{read32}
use Rattle.actions.specs.Action.{next_above}
use Rattle.actions.proofs.Steps.{prev_step}
use Rattle.actions.proofs.lines_rise.Invariants.{positive}
use Rattle.actions.proofs.lines_rise.Goals as goal
use Rattle.actions.proofs.lines_rise.Goals.{After-word_above}

pub loop-i-init : goal.loop-i-init
loop-i-init c = (omega arith, refl, refl, refl, refl, omega arith)

-- the next state read against the one before it
above : (c : goal.After-word_above) →
    let l = c in
    let s = l.args in
    c.word_above.result ≡ next_above s.b.now s.at l.loop-i.i
above c = rw (sym c.loop-i.invariant.1) c.word_above.ensures

pub returns-then-not-word_above : goal.returns-then-not-word_above
returns-then-not-word_above c =
    let l = c in
    let s = l.args in
    sym (rw (all_fails s.r (next_above s.b.now s.at) l.loop-i.i (omega arith) (sym (above (goal.at.returns-then-not-word_above c).After-word_above) ∙ c.if-not-word_above.true)))

pub returns-then-not-word_above-2 : goal.returns-then-not-word_above-2
returns-then-not-word_above-2 c =
    let l = c in
    let s = l.args in
    sym
    (rw (all_fails s.r (positive s.b.now (s.at + s.l)) l.loop-i.i (omega arith) (sym c.word_above-in-loop-i.ensures ∙ c.if-not-word_above-2.true))
    (and_right (all s.r (next_above s.b.now s.at))))

pub overflow_add-sum : goal.overflow_add-sum
overflow_add-sum c = omega (arith, c.size_at-sum.ensures.small)

pub loop-i-preserved : goal.loop-i-preserved
loop-i-preserved c =
    let w = c in
    let f = w in
    let e = f in
    let l = e in
    let s = l.args in (
      omega arith,
      read32 c.word_at-before.result c.word_at-before.type_inv ∙ c.word_at-before.ensures ∙ sym (prev_step s.b.now s.at l.loop-i.i),
      all_more l.loop-i.i (next_above s.b.now s.at) l.loop-i.invariant.2 (sym (above (goal.at.loop-i-preserved e).After-word_above) ∙ e.if-not-word_above.false),
      all_more l.loop-i.i (positive s.b.now (s.at + s.l)) l.loop-i.invariant.3 (sym f.word_above-in-loop-i.ensures ∙ f.if-not-word_above-2.false),
      rw (sum_step l.loop-i.i (λ (k : ℕ). nat_abs (word s.b.now (s.at + s.l + k))), l.loop-i.invariant.4, c.size_at-sum.ensures.is),
      omega (arith, c.size_at-sum.ensures.small),
    )

pub returns : goal.returns
returns c =
    let l = c.loop-i in
    let e : l.i ≡ c.args.r = omega arith in
    rw (rw e at l.invariant.2, rw e at l.invariant.3, sym (rw e at l.invariant.4))
