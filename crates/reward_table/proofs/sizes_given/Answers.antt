-- Each test of the chain is the definition's.
-- Assumes nothing.
use Rattle.std.proofs.Common.{arith}
use Rattle.std.proofs.lemmas.Grind.{common_steps}
use Rattle.std.proofs.lemmas.Bool.Decides.{nat_tests}
use Rattle.reward_table.specs.Table.{sizes_given, table_states, table_lines}
use Rattle.reward_table.proofs.Facts.{above_zero}
use Rattle.reward_table.proofs.sizes_given.Goals as goal

pub returns-then-word_in-4 : goal.returns-then-word_in-4
unfolding sizes_given table_states table_lines
returns-then-word_in-4 c = grind (arith, common_steps, nat_tests, above_zero)

pub returns-else-word_in-4 : goal.returns-else-word_in-4
unfolding sizes_given table_states table_lines
returns-else-word_in-4 c = grind (arith, common_steps, nat_tests, above_zero)
