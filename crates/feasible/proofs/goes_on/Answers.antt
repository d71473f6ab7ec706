-- A closed action is left out; of any other its next states decide.
-- Assumes nothing.
use mathlib.Core.Path.{sym, ◌∙◌}
use Rattle.model.specs.Model.{action}
use Rattle.feasible.proofs.Sets.{none_dead}
use Rattle.feasible.proofs.goes_on.Goals as goal

pub returns-then-dead-eq0 : goal.returns-then-dead-eq0
returns-then-dead-eq0 c =
    let s = c in
    rw (sym c.is_closed.ensures ∙ c.if-is_closed.false, c.if-dead-eq0.true)
    (sym (none_dead (action s.args.b.now s.args.p s.args.c).transitions))
