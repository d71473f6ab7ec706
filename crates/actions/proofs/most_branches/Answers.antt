-- One number at stage H, one before it.
-- Assumes nothing.
use borrow.Author.Tests.{eq-eqb, ne_eqb}
use Rattle.actions.proofs.most_branches.Goals as goal

pub returns-then-n-h : goal.returns-then-n-h
returns-then-n-h c = rw (eq-eqb _ _ c.if-n-h.true)

pub returns-else-n-h : goal.returns-else-n-h
returns-else-n-h c = rw (ne_eqb _ _ c.if-n-h.false)
