-- One number where the book has a policy and one where it has none.
-- Assumes nothing.
use mathlib.Core.Path.{sym, ◌∙◌}
use Rattle.rank.proofs.after_28.Goals as goal

pub returns-then-has_policy : goal.returns-then-has_policy
returns-then-has_policy c = rw (sym c.has_policy.ensures ∙ c.if-has_policy.true)

pub returns : goal.returns
returns c = rw (sym c.has_policy.ensures ∙ c.if-has_policy.false)
