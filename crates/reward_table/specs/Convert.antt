-- The book that a planners' table gives, and the call that converts one.
-- Assumes nothing.
use Rattle.std.specs.Prelude.{ℕ, ◌-◌, List, [], ◌∷◌, ◌++◌, map, ℤ, neg_ℤ, leb, length, replicate}
use Rattle.model.specs.Lists.{up_from}
use Rattle.model.specs.Model.{Words}
use Rattle.model.specs.Questions.{Question, first_no, and_then, book_number}
use Rattle.model.specs.Calls.{if_accepted, over}
use Rattle.content.specs.Content.{Entry, Content, book_words}
use Rattle.reward_table.specs.Table.{table_scale, table_horizon, table_states, table_first, table_state, closing_reward, table_questions}

-- "each reward is negated"
abbrev pub negated : Entry → Entry
negated e = record { amount = neg_ℤ e.amount; lines = e.lines }

unfoldable pub book_state : Words → ℕ → List Entry
book_state t s = map negated (table_state t s)

-- the one action of state s at stage H
unfoldable pub book_closing : Words → ℕ → List Entry
book_closing t s = negated (record { amount = closing_reward t s; lines = [] }) ∷ []

-- "The book has the first state alone at stage 0 and all n at each later stage"
unfoldable pub later_stage : Words → List (List Entry)
later_stage t = map (book_state t) (up_from 0 (table_states t))

unfoldable pub last_stage : Words → List (List Entry)
last_stage t = map (book_closing t) (up_from 0 (table_states t))

unfoldable pub book_content : Words → Content
book_content t =
    record {
      scale = table_scale t;
      stages = (book_state t (table_first t) ∷ []) ∷ (replicate (table_horizon t - 1) (later_stage t) ++ (last_stage t ∷ []));
    }

unfoldable pub table_book : Words → Words
table_book t = book_words (book_content t)

-- ---- convert: "Refused: 25, .. 26, .. 27, lent slice too short; in this order, before the book's 1 to 13, which judge the rest; nothing is
-- written on any of them." "its length in words is given"

abbrev pub slice_questions : Words → List (Question ℕ)
slice_questions t = record { number = 27; asks = λ room. leb (length (table_book t)) room } ∷ []

unfoldable pub convert_number : Words → ℕ → ℕ
convert_number t room =
    and_then (first_no table_questions t) (and_then (first_no (slice_questions t) room) (book_number (table_book t)))

unfoldable pub convert_length : Words → ℕ → ℕ
convert_length t room = if_accepted (convert_number t room) (length (table_book t)) 0

unfoldable pub convert_slice : Words → List ℤ → List ℤ
convert_slice t slice = if_accepted (convert_number t (length slice)) (over (table_book t) slice) slice
