-- The test of the words is the definition's own.
-- Assumes nothing.
use mathlib.Core.Path.{◌∙◌}
use native.Mathlib.Omega.{arith}
use Rattle.model.specs.Questions.{count_allowed, counts_allowed}
use Rattle.header.proofs.counts_allowed.Goals as goal

pub returns : goal.returns
unfolding counts_allowed count_allowed
returns c =
    let z = c.requires.1 in
    c.words_in.ensures ∙ rw (z.h_is, z.s_is)
