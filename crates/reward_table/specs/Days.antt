-- The days and the policies of a planners' table, by its own states and stages, and the expected total reward times D^H. No book is met here.
-- Assumes nothing.
use Rattle.std.specs.Prelude.{ℕ, zero, suc, ◌+◌, ◌*◌, Bool, ◌&&◌, cond, List, [], ◌∷◌, map, ℤ, pos, nat_abs, ◌+ℤ◌, ◌*ℤ◌, eqb, length}
use Rattle.model.specs.Lists.{all, up_from, is_in, for_each}
use Rattle.model.specs.Model.{Words, Transition}
use Rattle.model.specs.Policy.{Policy, nexts, allowed}
use Rattle.model.specs.Path.{byte_at}
use Rattle.content.specs.Content.{Line}
use Rattle.reward_table.specs.Table.{table_horizon, table_states, table_first, table_count, table_entry, closing_reward}

-- a line below an action's first: the next state and its weight
unfoldable pub outcome : Line → Transition
outcome l = record { next = nat_abs l.left; weight = nat_abs l.right }

unfoldable pub outcomes : Words → ℕ → ℕ → List Transition
outcomes t s c = map outcome (table_entry t s c).lines

-- ---- days

-- a step of a day: the stage, the state there, the reward of the choice made, and the weight of the line taken (1 at the last stage)
pub record TableStep : Type 0 where
  pub stage : ℕ
  pub state : ℕ
  pub reward : ℤ
  pub weight : ℕ

-- a day is one state a stage, from the first state, each next state on a line of the choice made
abbrev pub TableDay : Type 0
TableDay = List TableStep

-- its weight is the product of those lines' weights, its reward the sum of the rewards of the choices and of the closing
abbrev pub day_weight : TableDay → ℕ
day_weight [] = 1
day_weight (s ∷ ss) = s.weight * day_weight ss

abbrev pub day_reward : TableDay → ℤ
day_reward [] = pos 0
day_reward (s ∷ ss) = s.reward +ℤ day_reward ss

module _ (t : Words) (choice : ℕ → ℕ → ℕ) where
  -- the step from state s of stage k on a line of weight w
  abbrev pub table_step : ℕ → ℕ → ℕ → TableStep
  table_step k s w = record { stage = k; state = s; reward = (table_entry t s (choice k s)).amount; weight = w }

  -- the days from state s of stage k with m stages still to come, where `choice` is the one made at each stage and state
  abbrev pub days_from : ℕ → ℕ → ℕ → List TableDay
  days_from zero k s = (record { stage = k; state = s; reward = closing_reward t s; weight = 1 } ∷ []) ∷ []
  days_from (suc m) k s =
      for_each (λ (o : Transition). map (λ (day : TableDay). table_step k s o.weight ∷ day) (days_from m (suc k) o.next))
      (outcomes t s (choice k s))

-- the sum over days of weight × reward
abbrev pub total_reward : List TableDay → ℤ
total_reward [] = pos 0
total_reward (day ∷ days) = pos (day_weight day) *ℤ day_reward day +ℤ total_reward days

-- ---- policies: a choice for each stage and state that is reached

-- A policy is written as bytes: that of the first state at stage 0, then those of the n states of each later stage. The place of stage k and state s:
abbrev pub place : ℕ → ℕ → ℕ → ℕ
place n zero s = 0
place n (suc k) s = 1 + k * n + s

unfoldable pub choice_at : Words → Policy → ℕ → ℕ → ℕ
choice_at t bs k s = byte_at bs (place (table_states t) k s)

-- the states that a policy reaches at stage k: the first state, and then "all next posts of its chosen choice"
unfoldable pub reached_at : Words → Policy → ℕ → List ℕ
reached_at t bs zero = table_first t ∷ []
reached_at t bs (suc k) = for_each (λ (s : ℕ). nexts (outcomes t s (choice_at t bs k s))) (reached_at t bs k)

-- the choices of state s at stage k; closing is one choice
unfoldable pub choices : Words → ℕ → ℕ → List ℕ
choices t k s = cond (eqb k (table_horizon t)) (0 ∷ []) (up_from 0 (table_count t s))

-- where it is reached one of its choices stands there, else 255
unfoldable pub choice_allowed : Words → Policy → ℕ → ℕ → Bool
choice_allowed t bs k s = is_in (choice_at t bs k s) (allowed (choices t k s) (is_in s (reached_at t bs k)))

unfoldable pub is_table_policy : Words → Policy → Bool
is_table_policy t bs =
    eqb (length bs) (1 + table_horizon t * table_states t) && choice_allowed t bs 0 (table_first t)
    && all (table_horizon t) (λ (k : ℕ). all (table_states t) (choice_allowed t bs (suc k)))

-- the days of a policy, and its expected total reward times D^H
unfoldable pub table_days : Words → Policy → List TableDay
table_days t bs = days_from t (choice_at t bs) (table_horizon t) 0 (table_first t)

unfoldable pub expected_reward : Words → Policy → ℤ
expected_reward t bs = total_reward (table_days t bs)
