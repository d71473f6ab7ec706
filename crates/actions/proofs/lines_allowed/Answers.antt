-- The last next state settles what the order of the next states does not.
-- Assumes nothing.
use mathlib.Core.Path.{sym, ◌∙◌}
use native.Mathlib.Omega.{arith}
use borrow.Author.Tests.{le-leb}
use Rattle.actions.proofs.Steps.{lines_no, lines_last}
use Rattle.actions.proofs.lines_allowed.Goals as goal

pub returns-then-r-eq0 : goal.returns-then-r-eq0
returns-then-r-eq0 c = rw c.if-r-eq0.true (sym (le-leb 0 c.args.z.d (omega arith)))

pub returns-then-not-lines_rise : goal.returns-then-not-lines_rise
returns-then-not-lines_rise c =
    let s = c.args in
    lines_no s.b.now s.at s.width _ s.r (sym c.lines_rise.ensures ∙ c.if-not-lines_rise.true)

pub returns : goal.returns
returns c =
    let f = c in
    let e = f in
    let s = e.args in
    c.word_below.ensures
    ∙ lines_last s.b.now s.at s.width _ s.r e.if-r-eq0.false (sym f.lines_rise.ensures ∙ f.if-not-lines_rise.false)
