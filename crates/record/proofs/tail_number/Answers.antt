-- Each early return is the first question that is answered no.
-- Assumes nothing.
use mathlib.Core.Path.{sym, ◌∙◌}
use native.Mathlib.Omega.{arith}
use Rattle.model.specs.Record.{carried_book}
use Rattle.questions.specs.FirstNo.{fails, passes, none}
use Rattle.accepted.specs.Facts.{accepted}
use Rattle.record.specs.Passed.{head_says}
use Rattle.record.proofs.tail_number.Goals as goal

pub sizes_fit-requires : goal.sizes_fit-requires
sizes_fit-requires c =
    let r = c.args.r.now in
    let z = (accepted (carried_book r) c.requires.1.ok).sizes in
    (head_says r c.requires.0, c.requires.2.states, omega (arith, c.requires.2.states, z.s_high), c.requires.1.high)

pub returns-then-not-sizes_fit : goal.returns-then-not-sizes_fit
returns-then-not-sizes_fit c = sym (fails _ _ _ (sym c.sizes_fit.ensures ∙ c.if-not-sizes_fit.true))

pub list_fits-requires : goal.list_fits-requires
list_fits-requires c = (head_says c.args.r.now c.requires.0, sym c.sizes_fit.ensures ∙ c.if-not-sizes_fit.false, c.requires.2)

pub returns-then-not-list_fits : goal.returns-then-not-list_fits
returns-then-not-list_fits c =
    sym (passes _ _ _ (sym c.sizes_fit.ensures ∙ c.if-not-sizes_fit.false) ∙ fails _ _ _ (sym c.list_fits.ensures ∙ c.if-not-list_fits.true))

pub returns : goal.returns
returns c =
    sym
    (passes _ _ _ (sym c.sizes_fit.ensures ∙ c.if-not-sizes_fit.false)
    ∙ passes _ _ _ (sym c.list_fits.ensures ∙ c.if-not-list_fits.false)
    ∙ none _)
