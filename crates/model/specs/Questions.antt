-- The questions 1 to 13 of a book. "Each is put to the whole input before the next. The first "no" gives its number; 0 means accepted."
-- 8 is as request 2.9 has it, 9 as 2.1 and 2.3 have it, 10 and 13 as 2.7 has them, 12 as 2.1 has it.
-- Assumes nothing.
use Rattle.std.specs.Prelude.{ℕ, zero, suc, ◌+◌, ◌*◌, ◌^◌, Bool, true, false, ◌&&◌, ◌||◌, cond, List, [], ◌∷◌, ◌++◌, ℤ, pos, negsuc, nat_abs, eqb, leb, length}
use Rattle.std.specs.Int.Signed.{le_z, lt_z}
use Rattle.model.specs.Lists.{all, sum_to, max_to}
use Rattle.model.specs.Model.{Words, word, scale, horizon, line_count, stage_size, state_count, stage, action_count, left, right, branches, line_after, state_line, action_line, closed}

-- a question has a number and is put to an input
pub record Question (A : Type 0) : Type 0 where
  pub number : ℕ
  pub asks : A → Bool

module _ {A : Type 0} where
  -- the number of the first "no", or 0
  unfoldable pub first_no : List (Question A) → A → ℕ
  first_no [] x = 0
  first_no (q ∷ qs) x = elim (q.asks x) [ true ↦ first_no qs x | false ↦ q.number ]

-- the number of a first run of questions, and where that is 0 the number of the next
abbrev pub and_then : ℕ → ℕ → ℕ
and_then zero n = n
and_then (suc m) n = suc m

-- from lo to hi, both ends allowed
abbrev pub inside : ℤ → ℤ → ℤ → Bool
inside lo hi z = le_z lo z && le_z z hi

-- ---- limits of a state's actions and of an action, for a state of stage n where h is the horizon

-- "1 to 8 choices a post"; 2.9: "Stage H posts may now have 1 to 8 choices, .. for the depots"
abbrev pub most_actions : ℕ
most_actions = 8

-- 2.1: "Before stage H, r may be 0"; 2.3: "r is at most 6"; "with r = 0" at stage H
abbrev pub fewest_branches : ℕ
fewest_branches = 0

abbrev pub most_branches : ℕ
most_branches = 6

abbrev pub branches_inside : ℤ → ℕ → ℕ → Bool
branches_inside z n h = cond (eqb n h) (inside (pos 0) (pos 0) z) (inside (pos fewest_branches) (pos most_branches) z)

-- "costs from -100,000 to 100,000"; 2.7: "A cost of 200,000 marks a choice as closed: check 10 admits it"
abbrev pub cost_inside : ℤ → Bool
cost_inside z = closed z || inside (negsuc 99999) (pos 100000) z

-- ---- 6 to 8: sizes

-- "one post at stage 0 and 1 to 16 at every other; S at most 64": of the stage after stage n, and of all
abbrev pub later_size : Words → ℕ → Bool
later_size ws n = inside (pos 1) (pos 16) (word ws (4 + n))

unfoldable pub sizes_allowed : Words → Bool
sizes_allowed ws =
    inside (pos 1) (pos 1) (word ws 3) && all (horizon ws) (later_size ws) && leb (state_count ws) 64

-- "Is the length exactly 4 + H + S + 2L words?"
unfoldable pub length_allowed : Words → Bool
length_allowed ws = eqb (length ws) (4 + horizon ws + state_count ws + 2 * line_count ws)

-- "Are the choice counts as allowed": of state p, and of all; 2.9: "Check 8 loses its second half"
unfoldable pub count_allowed : Words → ℕ → Bool
count_allowed ws p = inside (pos 1) (pos most_actions) (word ws (4 + horizon ws + p))

unfoldable pub counts_allowed : Words → Bool
counts_allowed ws = all (state_count ws) (count_allowed ws)

-- ---- 9 to 12: a test of each action, handed its state's stage and its first line

unfoldable pub every_action : (Words → ℕ → ℕ → Bool) → Words → Bool
every_action test ws =
    all (state_count ws) (λ (p : ℕ). all (action_count ws p) (λ (c : ℕ). test ws (stage ws p) (action_line ws p c)))

-- 9: "is every r as allowed, do all their lines fit"
unfoldable pub branches_allowed : Words → ℕ → ℕ → Bool
branches_allowed ws n j =
    branches_inside (left ws j) n (horizon ws) && leb (line_after ws j) (line_count ws)

-- "and are exactly L lines used?"
unfoldable pub lines_allowed : Words → Bool
lines_allowed ws = every_action branches_allowed ws && eqb (state_line ws (state_count ws)) (line_count ws)

-- 10: "Is every cost allowed?"
unfoldable pub cost_allowed : Words → ℕ → ℕ → Bool
cost_allowed ws n j = cost_inside (right ws j)

-- 11: "Do the next posts of each choice rise strictly and lie within the next stage?" Each is above the one before it, the first above -1
abbrev pub next_before : Words → ℕ → ℕ → ℤ
next_before ws j zero = negsuc 0
next_before ws j (suc i) = left ws (j + 1 + i)

unfoldable pub nexts_allowed : Words → ℕ → ℕ → Bool
nexts_allowed ws n j =
    all (branches ws j)
    (λ (i : ℕ). lt_z (next_before ws j i) (left ws (j + 1 + i)) && lt_z (left ws (j + 1 + i)) (pos (stage_size ws (n + 1))))

-- 12: "Is every weight from 1 to D", and do each choice's add "to at most D" (before stage H; there are none at it)?
unfoldable pub weight_sum : Words → ℕ → ℕ
weight_sum ws j = sum_to (branches ws j) (λ (i : ℕ). nat_abs (right ws (j + 1 + i)))

unfoldable pub weights_allowed : Words → ℕ → ℕ → Bool
weights_allowed ws n j =
    all (branches ws j) (λ (i : ℕ). inside (pos 1) (pos (scale ws)) (right ws (j + 1 + i)))
    && (eqb n (horizon ws) || leb (weight_sum ws j) (scale ws))

-- ---- 13

-- a cost without its sign; 2.7: "check 13 skips it (with no open cost the largest is 0)"
abbrev pub open_size : ℤ → ℕ
open_size z = cond (closed z) 0 (nat_abs z)

-- "largest cost without its sign"
unfoldable pub largest_cost : Words → ℕ
largest_cost ws =
    max_to (state_count ws) (λ (p : ℕ). max_to (action_count ws p) (λ (c : ℕ). open_size (right ws (action_line ws p c))))

unfoldable pub costs_bounded : Words → Bool
costs_bounded ws = leb (scale ws ^ horizon ws * (horizon ws + 1) * largest_cost ws) 4000000000000000000

-- ---- the table

abbrev pub size_questions : List (Question Words)
size_questions =
    record { number = 1; asks = λ ws. leb 3 (length ws) }
    ∷ record { number = 2; asks = λ ws. inside (pos 1) (pos 100) (word ws 0) }
    ∷ record { number = 3; asks = λ ws. inside (pos 1) (pos 8) (word ws 1) }
    ∷ record { number = 4; asks = λ ws. inside (pos 1) (pos 2048) (word ws 2) }
    ∷ record { number = 5; asks = λ ws. leb (4 + horizon ws) (length ws) }
    ∷ record { number = 6; asks = sizes_allowed }
    ∷ record { number = 7; asks = length_allowed }
    ∷ []

abbrev pub action_questions : List (Question Words)
action_questions =
    record { number = 8; asks = counts_allowed }
    ∷ record { number = 9; asks = lines_allowed }
    ∷ record { number = 10; asks = every_action cost_allowed }
    ∷ record { number = 11; asks = every_action nexts_allowed }
    ∷ record { number = 12; asks = every_action weights_allowed }
    ∷ record { number = 13; asks = costs_bounded }
    ∷ []

abbrev pub book_questions : List (Question Words)
book_questions = size_questions ++ action_questions

-- checking a book: the number of its first "no", or 0
unfoldable pub book_number : Words → ℕ
book_number ws = first_no book_questions ws
