-- Books with one closing action a state, and the rules before request 2.9: those of crate model, with question 8 as document 01 asks it.
-- No contract cites these definitions.
-- Assumes nothing.
use Rattle.std.specs.Prelude.{ℕ, ◌+◌, ◌<◌, ◌≡◌, Bool, cond, map, pos, eqb}
use Rattle.model.specs.Lists.{all}
use Rattle.model.specs.Model.{Words, word, horizon, state_count, stage, action_count}
use Rattle.model.specs.Questions.{Question, first_no, inside, most_actions, book_questions}

-- "At stage H each post has one choice"
abbrev pub OneClosing : Words → Type 0
OneClosing ws = (p : ℕ) → p < state_count ws → stage ws p ≡ horizon ws → action_count ws p ≡ 1

-- the most actions of a state of stage n, where h is the horizon
abbrev pub former_most : ℕ → ℕ → ℕ
former_most n h = cond (eqb n h) 1 most_actions

-- "Are the choice counts as allowed, 1 at stage H?": of state p, and of all
unfoldable pub former_count : Words → ℕ → Bool
former_count ws p = inside (pos 1) (pos (former_most (stage ws p) (horizon ws))) (word ws (4 + horizon ws + p))

unfoldable pub former_counts : Words → Bool
former_counts ws = all (state_count ws) (former_count ws)

-- a question of a book: 8 asks this, every other what it asks
abbrev pub former_question : Question Words → Question Words
former_question q = cond (eqb q.number 8) (record { number = 8; asks = former_counts }) q

-- the number of the first "no" of the questions 1 to 13, or 0
unfoldable pub former_number : Words → ℕ
former_number ws = first_no (map former_question book_questions) ws
