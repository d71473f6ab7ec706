-- Assumes nothing.
use mathlib.Core.Path.{◌≡◌, refl, sym, ◌∙◌}
use native.Mathlib.Omega.{arith}
use Rattle.questions.specs.Ranges.{and_right, all_fails, all_more}
use Rattle.book.proofs.Words.{read32}
use Rattle.actions.specs.Action.{next_above, next_allowed}
use Rattle.actions.proofs.Steps.{prev_step}
use Rattle.actions.proofs.nexts_allowed.Goals as goal
use Rattle.actions.proofs.nexts_allowed.Goals.{After-word_above}

pub loop-i-init : goal.loop-i-init
loop-i-init c = (omega arith, refl, refl)

-- the next state read against the one before it
above : (c : goal.After-word_above) →
    let l = c in
    let s = l.args in
    c.word_above.result ≡ next_above s.b.now s.at l.loop-i.i
above c = rw (sym c.loop-i.invariant.1) c.word_above.ensures

pub returns-then-not-word_above : goal.returns-then-not-word_above
returns-then-not-word_above c =
    let l = c in
    let s = l.args in
    sym (all_fails s.r (next_allowed s.b.now s.at s.width) l.loop-i.i (omega arith) (rw (sym (above (goal.at.returns-then-not-word_above c).After-word_above) ∙ c.if-not-word_above.true)))

pub returns-then-not-word_below : goal.returns-then-not-word_below
returns-then-not-word_below c =
    let l = c in
    let s = l.args in
    sym
    (all_fails s.r (next_allowed s.b.now s.at s.width) l.loop-i.i (omega arith)
    (rw (sym c.word_below.ensures ∙ c.if-not-word_below.true) (and_right (next_above s.b.now s.at l.loop-i.i))))

pub loop-i-preserved : goal.loop-i-preserved
loop-i-preserved c =
    let f = c in
    let e = f in
    let l = e in
    let s = l.args in (
      omega arith,
      read32 c.word_at-prev.result c.word_at-prev.type_inv ∙ c.word_at-prev.ensures ∙ sym (prev_step s.b.now s.at l.loop-i.i),
      all_more l.loop-i.i (next_allowed s.b.now s.at s.width) l.loop-i.invariant.2
          (rw (sym (above (goal.at.loop-i-preserved e).After-word_above) ∙ e.if-not-word_above.false, sym f.word_below.ensures ∙ f.if-not-word_below.false)),
    )

pub returns : goal.returns
returns c =
    let e : c.loop-i.i ≡ c.args.r = omega arith in
    sym (rw e at c.loop-i.invariant.2)
