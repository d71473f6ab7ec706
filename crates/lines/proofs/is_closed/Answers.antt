-- The word tested is the action's cost.
-- Assumes nothing.
use mathlib.Core.Path.{ap, ◌∙◌}
use native.Mathlib.Omega.{arith}
use Rattle.model.specs.Model.{closed}
use Rattle.lines.proofs.Words.{inside, cost-word}
use Rattle.lines.proofs.is_closed.Goals as goal

pub overflow_add-t : goal.overflow_add-t
overflow_add-t c = omega (arith, inside c.requires)

pub is_closed-requires : goal.is_closed-requires
is_closed-requires c = omega (arith, inside c.requires)

pub returns : goal.returns
returns c = c.is_closed.ensures ∙ ap closed (cost-word c.requires)
