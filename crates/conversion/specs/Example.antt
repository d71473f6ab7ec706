-- One table by computation: its book, its answer, and one policy's days, expected reward and cost.
-- Assumes nothing.
use Rattle.std.specs.Prelude.{◌≡◌, refl, true, [], ◌∷◌, ◌++◌, map, pos, negsuc}
use Rattle.model.specs.Model.{Words, word, scale, horizon, line_count, stage_size, first_state, state_count, stage, action_count, left, right, branches}
use Rattle.model.specs.Model.{line_after, skip, state_line, action_line, transition_at, read_action, action}
use Rattle.model.specs.Questions.{first_no, sizes_allowed, length_allowed, count_allowed, counts_allowed, every_action, branches_allowed, lines_allowed}
use Rattle.model.specs.Questions.{cost_allowed, nexts_allowed, weight_sum, weights_allowed, largest_cost, costs_bounded, book_number}
use Rattle.model.specs.Policy.{Policy}
use Rattle.model.specs.Path.{taken, paths, policy_cost}
use Rattle.content.specs.Content.{book_words}
use Rattle.reward_table.specs.Table.{table_scale, table_horizon, table_states, table_first, table_lines, table_count, table_left, table_right, table_line}
use Rattle.reward_table.specs.Table.{table_branches, table_after, table_skip, table_state_line, table_action_line, closing_line, read_entry, table_entry}
use Rattle.reward_table.specs.Table.{table_state, closing_reward, sizes_given, count_given, every_entry, some_branch, lines_fit, all_used, weights_add}
use Rattle.reward_table.specs.Table.{closing_bare, reward_inside, lines_given}
use Rattle.reward_table.specs.Days.{outcome, outcomes, choice_at, reached_at, choices, choice_allowed, is_table_policy, table_days, expected_reward}
use Rattle.reward_table.specs.Convert.{book_state, book_closing, later_stage, last_stage, book_content, table_book, convert_number}

-- D = 2, H = 2, n = 2, the first state 1, L = 9, and 1 and 2 choices. State 0: reward 3, to 0 or 1. State 1: reward -1, to 0; or reward 4, to 1. The
-- closing rewards are 10 and -5.
abbrev table : Words
table =
    map pos (2 ∷ 2 ∷ 2 ∷ 1 ∷ 9 ∷ 1 ∷ 2 ∷ []) ++ map pos (2 ∷ 0 ∷ 1 ∷ 1 ∷ 0 ∷ 1 ∷ 1 ∷ 0 ∷ 0 ∷ [])
    ++ (pos 3 ∷ pos 1 ∷ pos 1 ∷ negsuc 0 ∷ pos 2 ∷ pos 4 ∷ pos 2 ∷ pos 10 ∷ negsuc 4 ∷ [])

-- state 1 at stage 0; states 0 and 1 at stages 1 and 2
abbrev book : Words
book =
    map pos (2 ∷ 2 ∷ 13 ∷ 1 ∷ 2 ∷ 2 ∷ 2 ∷ 1 ∷ 2 ∷ 1 ∷ 1 ∷ []) ++ map pos (1 ∷ 0 ∷ 1 ∷ 1 ∷ 2 ∷ 0 ∷ 1 ∷ 1 ∷ 0 ∷ 1 ∷ 1 ∷ 0 ∷ 0 ∷ [])
    ++ (pos 1 ∷ pos 2 ∷ negsuc 3 ∷ pos 2 ∷ negsuc 2 ∷ pos 1 ∷ pos 1 ∷ pos 1 ∷ pos 2 ∷ negsuc 3 ∷ pos 2 ∷ negsuc 9 ∷ pos 5 ∷ [])

-- choice 0 everywhere: state 1, then 0 with weight 2, then 0 or 1 with weight 1; state 1 is not reached at stage 1
abbrev policy : Policy
policy = 0 ∷ 0 ∷ 255 ∷ 0 ∷ 0 ∷ []

-- the book's 37 words fit 37 words and no fewer; the expected reward times 4 is 2 × (-1 + 3 + 10) + 2 × (-1 + 3 - 5)
pub example : (table_book table ≡ book) × (map (convert_number table) (37 ∷ 36 ∷ []) ≡ 0 ∷ 27 ∷ []) × (is_table_policy table policy ≡ true)
    × (expected_reward table policy ≡ pos 18) × (policy_cost book policy ≡ negsuc 17)
unfolding word scale horizon line_count stage_size first_state state_count stage action_count left right branches line_after skip state_line action_line
    transition_at read_action action first_no sizes_allowed length_allowed count_allowed counts_allowed every_action branches_allowed lines_allowed
    cost_allowed nexts_allowed weight_sum weights_allowed largest_cost costs_bounded book_number taken paths policy_cost book_words table_scale table_horizon
    table_states table_first table_lines table_count table_left table_right table_line table_branches table_after table_skip table_state_line table_action_line
    closing_line read_entry table_entry table_state closing_reward sizes_given count_given every_entry some_branch lines_fit all_used weights_add closing_bare
    reward_inside lines_given outcome outcomes choice_at reached_at choices choice_allowed is_table_policy table_days expected_reward book_state book_closing
    later_stage last_stage book_content table_book convert_number
example = (refl, refl, refl, refl, refl)
