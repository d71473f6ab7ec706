-- The test is question 19's own.
-- Assumes nothing.
use mathlib.Core.Path.{sym, ◌∙◌}
use Rattle.questions.specs.FirstNo.{fails, passes, none}
use Rattle.record.proofs.head_number.Goals as goal

pub returns-then-not-head_fits : goal.returns-then-not-head_fits
returns-then-not-head_fits c = sym (fails _ _ _ (sym c.head_fits.ensures ∙ c.if-not-head_fits.true))

pub returns : goal.returns
returns c = sym (passes _ _ _ (sym c.head_fits.ensures ∙ c.if-not-head_fits.false) ∙ none _)
