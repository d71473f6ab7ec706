-- The word tested is the action's cost.
-- Assumes nothing.
use mathlib.Core.Path.{ap, ◌∙◌}
use native.Mathlib.Omega.{arith}
use Rattle.model.specs.Model.{closed}
use Rattle.lines.proofs.Words.{inside, cost-word}
use Rattle.lines.proofs.Places.{lines_of}
use Rattle.lines.proofs.closed_at.Goals as goal

pub overflow_add-at : goal.overflow_add-at
overflow_add-at c = let s = c in omega (arith, inside (lines_of s.requires.0 s.requires.1))

pub is_closed-requires : goal.is_closed-requires
is_closed-requires c = let s = c in omega (arith, inside (lines_of s.requires.0 s.requires.1))

pub returns : goal.returns
returns c = let s = c in c.is_closed.ensures ∙ ap closed (cost-word (lines_of s.requires.0 s.requires.1))
