-- The test is the definition's own.
-- Assumes nothing.
use Rattle.model.specs.Questions.{length_allowed}
use Rattle.header.proofs.length_allowed.Goals as goal

pub returns : goal.returns
unfolding length_allowed
returns c =
    let z = c.requires.1 in
    rw (z.columns_is, z.l_is)
