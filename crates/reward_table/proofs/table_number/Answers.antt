-- 25, then 26.
-- Assumes nothing.
use mathlib.Core.Path.{sym, ◌∙◌}
use Rattle.questions.specs.FirstNo.{fails, passes, none}
use Rattle.reward_table.specs.Says.{given_says}
use Rattle.reward_table.proofs.table_number.Goals as goal

pub returns-then-not-sizes_given : goal.returns-then-not-sizes_given
returns-then-not-sizes_given c = sym (fails _ _ _ (sym c.sizes_given.ensures ∙ c.if-not-sizes_given.true))

pub read_table-z-requires : goal.read_table-z-requires
read_table-z-requires c = given_says _ (sym c.sizes_given.ensures ∙ c.if-not-sizes_given.false)

pub lines_given-requires : goal.lines_given-requires
lines_given-requires c = (given_says _ (sym c.sizes_given.ensures ∙ c.if-not-sizes_given.false), c.read_table-z.ensures)

pub returns-then-not-lines_given : goal.returns-then-not-lines_given
returns-then-not-lines_given c =
    sym
    (passes _ _ _ (sym c.sizes_given.ensures ∙ c.if-not-sizes_given.false) ∙ fails _ _ _ (sym c.lines_given.ensures ∙ c.if-not-lines_given.true))

pub returns : goal.returns
returns c =
    sym
    (passes _ _ _ (sym c.sizes_given.ensures ∙ c.if-not-sizes_given.false) ∙ passes _ _ _ (sym c.lines_given.ensures ∙ c.if-not-lines_given.false)
    ∙ none _)
