-- The book of a planners' table in the table's words: its sizes, how many actions each state has, and each action. Stage k of the book has state s of
-- the table at the place of k and s.
-- Assumes nothing.
use Rattle.std.specs.Prelude.{◌≡◌, neg_ℤ}
use mathlib.Core.List.{[], map}
use Prim.Native.Nat.{ℕ, suc, ◌≤◌, ◌<◌}
use Rattle.model.specs.Model.{Words, Transition, Action}
use Rattle.reward_table.specs.Table.{table_horizon, table_states, table_first, table_entry, closing_reward}
use Rattle.reward_table.specs.Days.{outcomes, place}

-- stage k of the book has state s of the table: "the first state alone at stage 0 and all n at each later stage"
pub record Stands (t : Words) (k s : ℕ) : Type 0 where
  pub stage-inside : k ≤ table_horizon t
  pub state_inside : s < table_states t
  pub start : k ≡ 0 → s ≡ table_first t

-- the number of that state in the book
abbrev pub state_at : Words → ℕ → ℕ → ℕ
state_at t k s = place (table_states t) k s

-- an outcome at stage k, as a transition to a state of the next stage of the book
abbrev pub placed : ℕ → ℕ → Transition → Transition
placed n k o = record { next = place n (suc k) o.next; weight = o.weight }

-- action c of state s at stage k as the book has it: "each reward is negated"
abbrev pub book_action : Words → ℕ → ℕ → ℕ → Action
book_action t k s c =
    record { cost = neg_ℤ (table_entry t s c).amount; transitions = map (placed (table_states t) k) (outcomes t s c) }

-- the one action of state s at stage H
abbrev pub closing_action : Words → ℕ → Action
closing_action t s = record { cost = neg_ℤ (closing_reward t s); transitions = [] }
