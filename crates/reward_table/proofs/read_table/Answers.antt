-- Each size is the word of its place; the columns begin after the choice counts.
-- Assumes nothing.
use mathlib.Core.Path.{ap}
use Prim.Native.Nat.{◌+◌}
use Rattle.reward_table.specs.Table.{table_scale, table_horizon, table_states, table_first, table_lines}
use Rattle.reward_table.proofs.read_table.Goals as goal

pub returns : goal.returns
unfolding table_scale table_horizon table_states table_first table_lines
returns c =
    let n = c.size_at-n.ensures.is in
    record {
      d_is = c.size_at.ensures.is;
      h_is = c.size_at-2.ensures.is;
      n_is = n;
      first-is = c.size_at-3.ensures.is;
      l_is = c.size_at-4.ensures.is;
      columns_is = ap (λ k. 5 + k) n;
    }
