-- What the functions that read a table ask and give.
-- Assumes nothing.
use Rattle.std.specs.Prelude.{◌≡◌, Bool, ◌&&◌, ℕ, ◌+◌, ◌*◌, ◌≤◌, ◌<◌, length, is_some, IfSome, Option}
use Rattle.model.specs.Lists.{all}
use Rattle.model.specs.Model.{Words}
use Rattle.reward_table.specs.Table.{table_scale, table_horizon, table_states, table_first, table_lines, table_count, table_state_line, table_action_line}
use Rattle.reward_table.specs.Table.{some_branch, lines_fit, weights_add, reward_inside}
use Rattle.reward_table.specs.declared.Table.{Table}

-- what question 25 leaves
pub record Given (t : Words) : Type 0 where
  pub d_low : 1 ≤ table_scale t
  pub d_high : table_scale t ≤ 100
  pub h_low : 1 ≤ table_horizon t
  pub h_high : table_horizon t ≤ 8
  pub n_low : 1 ≤ table_states t
  pub n_high : table_states t ≤ 16
  pub first_low : table_first t < table_states t
  pub l_high : table_lines t ≤ 2048
  pub exact : length t ≡ 5 + table_states t + 2 * table_lines t

pub record TableRead (t : Words) (z : Table) : Type 0 where
  pub d_is : z.d ≡ table_scale t
  pub h_is : z.h ≡ table_horizon t
  pub n_is : z.n ≡ table_states t
  pub first-is : z.first ≡ table_first t
  pub l_is : z.l ≡ table_lines t
  pub columns_is : z.columns ≡ 5 + table_states t

-- what question 26 asks of one action
unfoldable pub entry_given : Words → ℕ → Bool
entry_given t j = some_branch t j && lines_fit t j && reward_inside t j && weights_add t j

-- of the actions of state s, and of the states below `end`
unfoldable pub state_given : Words → ℕ → Bool
state_given t s = all (table_count t s) (λ (c : ℕ). entry_given t (table_action_line t s c))

unfoldable pub states_given : Words → ℕ → Bool
states_given t end = all end (state_given t)

-- a walk over the actions of state s
pub record Walked (t : Words) (s : ℕ) (w : Option ℕ) : Type 0 where
  pub ok_is : is_some w ≡ state_given t s
  pub at-is : IfSome w (λ at. at ≡ table_state_line t (s + 1))
  pub small : IfSome w (λ at. at ≤ 2048)

-- over the actions of the states below `end`
pub record WalkedTo (t : Words) (end : ℕ) (w : Option ℕ) : Type 0 where
  pub ok_is : is_some w ≡ states_given t end
  pub at-is : IfSome w (λ at. at ≡ table_state_line t end)
  pub small : IfSome w (λ at. at ≤ 2048)
