-- Every action passed so far is as asked, and the next one begins at line `at`.
-- Assumes nothing.
use mathlib.Core.Path.{◌≡◌}
use mathlib.Core.Bool.{true}
use Prim.Native.Nat.{ℕ, ◌≤◌}
use Rattle.model.specs.Lists.{all}
use Rattle.reward_table.specs.Table.{table_action_line}
use Rattle.reward_table.specs.Read.{entry_given}
use Rattle.reward_table.proofs.walk_state.Given as goal

abbrev pub invariant-loop-c : goal.invariant-loop-c
invariant-loop-c l =
    (l.at ≡ table_action_line l.t l.s l._c) × (l.at ≤ 2048) × (all l._c (λ (k : ℕ). entry_given l.t (table_action_line l.t l.s k)) ≡ true)
