-- The three plans of a small book with a stop and two depots: the answer for each m from 0 to 2, and for lists that are full and that are not, by computation.
-- Assumes nothing.
use Rattle.std.specs.Prelude.{ℕ, ◌≡◌, refl, List, [], ◌∷◌, map, pos}
use Rattle.model.specs.Model.{Words, word, scale, horizon, line_count, stage_size, first_state, state_count, stage, togo, action_count, left, right}
use Rattle.model.specs.Model.{branches, line_after, skip, state_line, action_line, transition_at, read_action, action, options}
use Rattle.model.specs.Policy.{policies}
use Rattle.model.specs.Path.{taken, paths, policy_cost}
use Rattle.model.specs.Order.{comes_before, ranking}
use Rattle.model.specs.Limit.{limit_of, first_mark, mark_of, marked_on, keeps_limit, Kept, kept_at, none_listed, none_in_book, above_kept, first_kept}

-- D = 2, H = 1. Post 0: choice 0 costs 5 and leads to post 1 or post 2; choice 1 costs 7 and leads to post 1 or stops. Post 1 has one depot of cost 4, post 2
-- has two, of cost 1 and 3
abbrev pub book : Words
book =
    map pos
    (2 ∷ 1 ∷ 8 ∷ 1 ∷ 2 ∷ 2 ∷ 1 ∷ 2 ∷ 2 ∷ 0 ∷ 1 ∷ 1 ∷ 0 ∷ 0 ∷ 0 ∷ 0 ∷ 5 ∷ 1 ∷ 1 ∷ 7 ∷ 1 ∷ 4 ∷ 1 ∷ 3 ∷ [])

-- choice 0 of post 0, the depot of post 1 and the second depot of post 2
abbrev marks : List ℕ
marks = 1 ∷ 0 ∷ 1 ∷ 0 ∷ 1 ∷ []

-- the plans in their order make at most 2, 2 and 1 marked choices on a day
pub plans : ranking book 4 ≡ (0 ∷ 0 ∷ 0 ∷ []) ∷ (0 ∷ 0 ∷ 1 ∷ []) ∷ (1 ∷ 0 ∷ 255 ∷ []) ∷ []
unfolding word scale horizon line_count stage_size first_state state_count stage togo action_count left right branches line_after skip state_line action_line
    transition_at read_action action options policies taken paths policy_cost comes_before ranking
plans = refl

abbrev said : ℕ → List ℕ → List Kept
said k ms = map (λ (m : ℕ). first_kept book k (limit_of marks m)) ms

pub examples : (said 2 (0 ∷ 1 ∷ 2 ∷ []) ≡ none_listed ∷ none_listed ∷ kept_at 1 ∷ [])
    × (said 3 (0 ∷ 1 ∷ 2 ∷ []) ≡ none_listed ∷ kept_at 3 ∷ kept_at 1 ∷ [])
    × (said 4 (0 ∷ 1 ∷ 2 ∷ []) ≡ none_in_book ∷ kept_at 3 ∷ kept_at 1 ∷ [])
unfolding word scale horizon line_count stage_size first_state state_count stage togo action_count left right branches line_after skip state_line action_line
    transition_at read_action action options policies taken paths policy_cost comes_before ranking first_mark mark_of marked_on keeps_limit above_kept first_kept
examples = (refl, refl, refl)
