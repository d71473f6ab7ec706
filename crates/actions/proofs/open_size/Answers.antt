-- The mark counts as 0, any other cost as it is.
-- Assumes nothing.
use mathlib.Core.Path.{sym, ◌∙◌}
use Rattle.actions.proofs.open_size.Goals as goal

pub returns-then-is_closed : goal.returns-then-is_closed
returns-then-is_closed c = rw (sym c.is_closed.ensures ∙ c.if-is_closed.true)

pub returns : goal.returns
returns c = rw (sym c.is_closed.ensures ∙ c.if-is_closed.false) c.size_at.ensures.is
