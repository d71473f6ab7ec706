-- Books within the limit of request 2.3, question 9 with other limits of r, and the rules before that request: those of crate model, with r at most 16.
-- No contract cites these definitions.
-- Assumes nothing.
use Rattle.std.specs.Prelude.{ℕ, ◌≤◌, ◌<◌, Bool, ◌&&◌, cond, map, pos, eqb, leb}
use Rattle.model.specs.Model.{Words, horizon, line_count, state_count, stage, action_count, left, branches, line_after, state_line, action_line}
use Rattle.model.specs.Questions.{Question, first_no, inside, fewest_branches, most_branches, every_action, book_questions}

-- "no choice has more than 6 lines below its first": no action before stage H, reached or not, has more transitions than the limit
abbrev pub WithinLimit : Words → Type 0
WithinLimit ws =
    (p c : ℕ) → p < state_count ws → c < action_count ws p → stage ws p < horizon ws → branches ws (action_line ws p c) ≤ most_branches

-- ---- question 9 with r from lo to hi before stage H

-- "is every r as allowed, do all their lines fit"; "with r = 0" at stage H
unfoldable pub branches_within : ℕ → ℕ → Words → ℕ → ℕ → Bool
branches_within lo hi ws n j =
    cond (eqb n (horizon ws)) (inside (pos 0) (pos 0) (left ws j)) (inside (pos lo) (pos hi) (left ws j))
    && leb (line_after ws j) (line_count ws)

-- "and are exactly L lines used?"
unfoldable pub lines_within : ℕ → ℕ → Words → Bool
lines_within lo hi ws = every_action (branches_within lo hi) ws && eqb (state_line ws (state_count ws)) (line_count ws)

-- ---- the rules before request 2.3

-- document 01: "r from 1 to 16 before stage H"; request 2.1: "r may be 0"
abbrev pub former_most : ℕ
former_most = 16

-- a question of a book: 9 asks this, every other what it asks
abbrev pub former_question : Question Words → Question Words
former_question q = cond (eqb q.number 9) (record { number = 9; asks = lines_within fewest_branches former_most }) q

-- the number of the first "no" of the questions 1 to 13, or 0
unfoldable pub former_number : Words → ℕ
former_number ws = first_no (map former_question book_questions) ws
