-- Every state passed so far is as asked, and the next one begins at line `at`.
-- Assumes nothing.
use mathlib.Core.Path.{◌≡◌}
use mathlib.Core.Bool.{true}
use Prim.Native.Nat.{◌≤◌}
use Rattle.model.specs.Lists.{all}
use Rattle.reward_table.specs.Table.{table_state_line}
use Rattle.reward_table.specs.Read.{state_given}
use Rattle.reward_table.proofs.walk_to.Given as goal

abbrev pub invariant-loop-s : goal.invariant-loop-s
invariant-loop-s l = (l.at ≡ table_state_line l.t l.s) × (l.at ≤ 2048) × (all l.s (state_given l.t) ≡ true)
