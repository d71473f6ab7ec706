-- An open action is one of its state's.
-- Assumes nothing.
use Rattle.accepted.specs.Options.{option_below}
use Rattle.policy_cost.proofs.state_cost.Goals as goal

pub of_action-a-requires : goal.of_action-a-requires
of_action-a-requires c = (c.requires.0, c.requires.1, option_below c.args.b.now c.args.p c.requires.2)
