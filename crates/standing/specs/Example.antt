-- Three plans of a small book, two of which cost the same: what is said of each for K = 1 and K = 3, by computation.
-- Assumes nothing.
use Rattle.std.specs.Prelude.{ℕ, ◌≡◌, refl, List, [], ◌∷◌, ◌++◌, map, pos}
use Rattle.model.specs.Model.{Words, word, scale, horizon, line_count, stage_size, first_state, state_count, stage, togo, action_count, left, right}
use Rattle.model.specs.Model.{branches, line_after, skip, state_line, action_line, transition_at, read_action, action, options}
use Rattle.model.specs.Policy.{Policy, policies}
use Rattle.model.specs.Path.{taken, paths, policy_cost}
use Rattle.model.specs.Order.{comes_before, ranking}
use Rattle.model.specs.Standing.{Answer, is_rank, costs_more, takes_higher, standing}

-- D = 1, H = 1: post 0 has choices of cost 5, 5 and 7, each to post 1, which closes the tour at cost 0
abbrev pub book : Words
book = map pos (1 ∷ 1 ∷ 7 ∷ 1 ∷ 1 ∷ 3 ∷ 1 ∷ 1 ∷ 0 ∷ 1 ∷ 0 ∷ 1 ∷ 0 ∷ 0 ∷ 5 ∷ 1 ∷ 5 ∷ 1 ∷ 7 ∷ 1 ∷ 0 ∷ [])

-- the plans in their order
abbrev plans : List Policy
plans = (0 ∷ 0 ∷ []) ∷ (1 ∷ 0 ∷ []) ∷ (2 ∷ 0 ∷ []) ∷ []

abbrev said : ℕ → List Answer
said k = map (standing book k) plans

-- for K = 1 the first is listed, the second costs the same and takes the higher choice at post 0, and the third costs 2 more; for K = 3 all are listed
pub examples : said 1 ++ said 3 ≡ is_rank 1 ∷ takes_higher 0 ∷ costs_more (pos 2) ∷ is_rank 1 ∷ is_rank 2 ∷ is_rank 3 ∷ []
unfolding word scale horizon line_count stage_size first_state state_count stage togo action_count left right branches line_after skip state_line action_line
    transition_at read_action action options policies taken paths policy_cost comes_before ranking standing
examples = refl
