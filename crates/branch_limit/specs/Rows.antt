-- The limit by computation, from both sides: books of one action with r transitions, from the state of stage 0 to states of stage 1.
-- Assumes nothing.
use Rattle.std.specs.Prelude.{ℕ, ◌+◌, ◌≡◌, refl, [], ◌∷◌, ◌++◌, map, pos, replicate}
use Rattle.model.specs.Lists.{up_from}
use Rattle.model.specs.Model.{Words, word, scale, horizon, line_count, stage_size, first_state, state_count, stage, action_count, left, right, branches, line_after, skip, state_line, action_line}
use Rattle.model.specs.Questions.{first_no, sizes_allowed, length_allowed, count_allowed, counts_allowed, every_action, branches_allowed, lines_allowed, cost_allowed, nexts_allowed, weight_sum, weights_allowed, largest_cost, costs_bounded, book_number}
use Rattle.branch_limit.specs.Former.{branches_within, lines_within, former_number}

-- D = 16, H = 1, L = r + 17, 1 and 16 states, one action each. The first has cost 5 and weight 1 for each of r next states, the last cost 0.
abbrev row_of : ℕ → Words
row_of r =
    map pos
    ((16 ∷ 1 ∷ (r + 17) ∷ 1 ∷ 16 ∷ replicate 17 1) ++ (r ∷ up_from 0 r) ++ replicate 16 0 ++ (5 ∷ replicate r 1) ++ replicate 16 0)

pub rows_now : map (λ (r : ℕ). book_number (row_of r)) (0 ∷ 1 ∷ 6 ∷ 7 ∷ 16 ∷ []) ≡ 0 ∷ 0 ∷ 0 ∷ 9 ∷ 9 ∷ []
unfolding word scale horizon line_count stage_size first_state state_count stage action_count left right branches line_after skip state_line action_line first_no sizes_allowed length_allowed count_allowed counts_allowed every_action branches_allowed lines_allowed cost_allowed nexts_allowed weight_sum weights_allowed largest_cost costs_bounded book_number
rows_now = refl

pub rows_before : map (λ (r : ℕ). former_number (row_of r)) (0 ∷ 1 ∷ 6 ∷ 7 ∷ 16 ∷ []) ≡ 0 ∷ 0 ∷ 0 ∷ 0 ∷ 0 ∷ []
unfolding word scale horizon line_count stage_size first_state state_count stage action_count left right branches line_after skip state_line action_line first_no sizes_allowed length_allowed count_allowed counts_allowed every_action branches_within lines_within cost_allowed nexts_allowed weight_sum weights_allowed largest_cost costs_bounded former_number
rows_before = refl
