-- Book C of document 01, which has three plans, by computation: its number for counts and slices of several sizes, and what is written.
-- Assumes nothing.
use Rattle.std.specs.Prelude.{ℕ, ◌≡◌, refl, List, [], ◌∷◌, ◌++◌, map, ℤ, pos, length, replicate}
use Rattle.model.specs.Model.{Words, word, scale, horizon, line_count, stage_size, first_state, state_count, stage, togo, action_count, left, right}
use Rattle.model.specs.Model.{branches, line_after, skip, state_line, action_line, transition_at, read_action, action, options}
use Rattle.model.specs.Questions.{first_no, sizes_allowed, length_allowed, count_allowed, counts_allowed, every_action, branches_allowed, lines_allowed}
use Rattle.model.specs.Questions.{cost_allowed, nexts_allowed, weight_sum, weights_allowed, largest_cost, costs_bounded, book_number}
use Rattle.model.specs.Policy.{policies, has_policy}
use Rattle.model.specs.Path.{taken, paths, policy_cost}
use Rattle.model.specs.Order.{comes_before, ranking, ranking_costs}
use Rattle.model.specs.Record.{asked_number}
use Rattle.model.specs.Calls.{room_of, is_small, small_number, small_count, small_costs, small_plans}

-- D = 1, H = 2, posts 1, 2, 1. Post 0: cost 5 to post 1, or cost 3 to post 2. Post 1: cost 1 or 4. Post 2: cost 2. Closing 0
abbrev book : Words
book =
    map pos
    ((1 ∷ 2 ∷ 11 ∷ 1 ∷ 2 ∷ 1 ∷ 2 ∷ 2 ∷ 1 ∷ 1 ∷ [])
    ++ (1 ∷ 0 ∷ 1 ∷ 1 ∷ 1 ∷ 0 ∷ 1 ∷ 0 ∷ 1 ∷ 0 ∷ 0 ∷ [])
    ++ (5 ∷ 1 ∷ 3 ∷ 1 ∷ 1 ∷ 1 ∷ 4 ∷ 1 ∷ 2 ∷ 1 ∷ 0 ∷ []))

abbrev number : ℕ → ℕ → ℕ → ℕ
number k costs plans = small_number book (record { k = k; costs = costs; plans = plans })

-- slices of so many sevens
abbrev costs : ℕ → List ℤ
costs n = replicate n (pos 7)

abbrev plans : ℕ → List ℕ
plans n = replicate n 7

pub counted : length (policies book) ≡ 3
unfolding word scale horizon line_count stage_size first_state state_count stage togo action_count left right branches line_after skip state_line action_line
    transition_at read_action action options policies
counted = refl

pub numbers : (number 0 4 16 ≡ 14) × (number 2 1 8 ≡ 15) × (number 2 2 7 ≡ 16) × (number 2 2 8 ≡ 0)
unfolding word scale horizon line_count stage_size first_state state_count stage togo action_count left right branches line_after skip state_line action_line
    transition_at read_action action options first_no sizes_allowed length_allowed count_allowed counts_allowed every_action branches_allowed lines_allowed
    cost_allowed nexts_allowed weight_sum weights_allowed largest_cost costs_bounded book_number policies has_policy asked_number is_small small_number
numbers = (refl, refl, refl, refl)

-- with K = 4 all three are listed, and the places behind them stay as they were
pub listed : (small_count book (room_of 4 (costs 4) (plans 17)) ≡ 3)
    × (small_costs book 4 (costs 4) (plans 17) ≡ map pos (5 ∷ 6 ∷ 9 ∷ 7 ∷ []))
    × (small_plans book 4 (costs 4) (plans 17) ≡ (1 ∷ 255 ∷ 0 ∷ 0 ∷ []) ++ (0 ∷ 0 ∷ 255 ∷ 0 ∷ []) ++ (0 ∷ 1 ∷ 255 ∷ 0 ∷ []) ++ plans 5)
unfolding word scale horizon line_count stage_size first_state state_count stage togo action_count left right branches line_after skip state_line action_line
    transition_at read_action action options first_no sizes_allowed length_allowed count_allowed counts_allowed every_action branches_allowed lines_allowed
    cost_allowed nexts_allowed weight_sum weights_allowed largest_cost costs_bounded book_number policies has_policy asked_number is_small small_number
    taken paths policy_cost comes_before ranking ranking_costs small_count small_costs small_plans
listed = (refl, refl, refl)
