-- The weight of state 0 is the only one that is not 0.
-- Assumes nothing.
use Rattle.reach.proofs.Spreading.{first_held}
use Rattle.policy.proofs.first_weights.Goals as goal

pub returns : goal.returns
returns c = first_held
