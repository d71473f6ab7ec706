-- Request 2.5: what the words of a planners' table say, and its questions 25 and 26. "the same n states and choices at every stage, rewards to
-- be raised, a closing reward per state". Total on any words, as a book's definitions are.
-- Assumes nothing.
use Rattle.std.specs.Prelude.{ℕ, zero, suc, ◌+◌, ◌*◌, Bool, ◌&&◌, List, [], ◌∷◌, map, ℤ, pos, negsuc, nat_abs, ◌+ℤ◌, eqb, leb, length}
use Rattle.std.specs.Int.Signed.{le_z, lt_z}
use Rattle.model.specs.Lists.{all, up_from}
use Rattle.model.specs.Model.{Words, word}
use Rattle.model.specs.Questions.{Question, inside}
use Rattle.content.specs.Content.{Line, Entry}

-- "D, H, n, the first state and L as sizes"
unfoldable pub table_scale : Words → ℕ
table_scale t = nat_abs (word t 0)

unfoldable pub table_horizon : Words → ℕ
table_horizon t = nat_abs (word t 1)

unfoldable pub table_states : Words → ℕ
table_states t = nat_abs (word t 2)

unfoldable pub table_first : Words → ℕ
table_first t = nat_abs (word t 3)

unfoldable pub table_lines : Words → ℕ
table_lines t = nat_abs (word t 4)

-- "n choice counts"
unfoldable pub table_count : Words → ℕ → ℕ
table_count t s = nat_abs (word t (5 + s))

-- "then left and right columns as in a book, for n states": line i
unfoldable pub table_left : Words → ℕ → ℤ
table_left t i = word t (5 + table_states t + i)

unfoldable pub table_right : Words → ℕ → ℤ
table_right t i = word t (5 + table_states t + table_lines t + i)

unfoldable pub table_line : Words → ℕ → Line
table_line t i = record { left = table_left t i; right = table_right t i }

-- r of the action (choice) whose first line is line j, and the line after its lines
unfoldable pub table_branches : Words → ℕ → ℕ
table_branches t j = nat_abs (table_left t j)

unfoldable pub table_after : Words → ℕ → ℕ
table_after t j = j + 1 + table_branches t j

-- the line after c actions from line j on
unfoldable pub table_skip : Words → ℕ → ℕ → ℕ
table_skip t j zero = j
table_skip t j (suc c) = table_after t (table_skip t j c)

-- the first line of state s, of its action c, and of its closing: "after those lines n closing lines"
unfoldable pub table_state_line : Words → ℕ → ℕ
table_state_line t zero = 0
table_state_line t (suc s) = table_skip t (table_state_line t s) (table_count t s)

unfoldable pub table_action_line : Words → ℕ → ℕ → ℕ
table_action_line t s c = table_skip t (table_state_line t s) c

unfoldable pub closing_line : Words → ℕ → ℕ
closing_line t s = table_state_line t (table_states t) + s

-- ---- the content

-- action c of state s: its reward and its lines
unfoldable pub read_entry : Words → ℕ → Entry
read_entry t j = record { amount = table_right t j; lines = map (table_line t) (up_from (j + 1) (table_branches t j)) }

unfoldable pub table_entry : Words → ℕ → ℕ → Entry
table_entry t s c = read_entry t (table_action_line t s c)

unfoldable pub table_state : Words → ℕ → List Entry
table_state t s = map (table_entry t s) (up_from 0 (table_count t s))

-- "the closing reward on the right"
unfoldable pub closing_reward : Words → ℕ → ℤ
closing_reward t s = table_right t (closing_line t s)

-- ---- 25: "sizes missing, n not 1 to 16, the first state not 0 to n - 1, D, H or L not allowed, or length not 5 + n + 2L"

unfoldable pub sizes_given : Words → Bool
sizes_given t =
    leb 5 (length t) && inside (pos 1) (pos 16) (word t 2) && (le_z (pos 0) (word t 3) && lt_z (word t 3) (word t 2))
    && inside (pos 1) (pos 100) (word t 0) && inside (pos 1) (pos 8) (word t 1) && inside (pos 1) (pos 2048) (word t 4)
    && eqb (length t) (5 + table_states t + 2 * table_lines t)

-- ---- 26

-- "a choice count not 1 to 8"
unfoldable pub count_given : Words → ℕ → Bool
count_given t s = inside (pos 1) (pos 8) (word t (5 + s))

-- a test of each action, handed its first line
unfoldable pub every_entry : (Words → ℕ → Bool) → Words → Bool
every_entry test t = all (table_states t) (λ (s : ℕ). all (table_count t s) (λ (c : ℕ). test t (table_action_line t s c)))

-- "an r below 1"
unfoldable pub some_branch : Words → ℕ → Bool
some_branch t j = le_z (pos 1) (table_left t j)

-- "lines that don't fit"
unfoldable pub lines_fit : Words → ℕ → Bool
lines_fit t j = leb (table_after t j) (table_lines t)

-- "or don't use exactly L"
unfoldable pub all_used : Words → Bool
all_used t = eqb (closing_line t (table_states t)) (table_lines t)

-- "a choice whose weights don't add to D": the sum is of signed words, whatever each of them is
abbrev pub sum_z : ℕ → (ℕ → ℤ) → ℤ
sum_z zero f = pos 0
sum_z (suc n) f = sum_z n f +ℤ f n

unfoldable pub weights_add : Words → ℕ → Bool
weights_add t j =
    inside (pos (table_scale t)) (pos (table_scale t)) (sum_z (table_branches t j) (λ (i : ℕ). table_right t (j + 1 + i)))

-- "a closing line without its 0"
unfoldable pub closing_bare : Words → ℕ → Bool
closing_bare t s = inside (pos 0) (pos 0) (table_left t (closing_line t s))

-- "a reward beyond 100,000 either way": of an amount, and of the action or closing whose first line is line j
abbrev pub amount_inside : ℤ → Bool
amount_inside z = inside (negsuc 99999) (pos 100000) z

unfoldable pub reward_inside : Words → ℕ → Bool
reward_inside t j = amount_inside (table_right t j)

unfoldable pub lines_given : Words → Bool
lines_given t =
    all (table_states t) (count_given t) && every_entry some_branch t && (every_entry lines_fit t && all_used t) && every_entry weights_add t
    && all (table_states t) (closing_bare t)
    && (every_entry reward_inside t && all (table_states t) (λ (s : ℕ). reward_inside t (closing_line t s)))

abbrev pub table_questions : List (Question Words)
table_questions = record { number = 25; asks = sizes_given } ∷ record { number = 26; asks = lines_given } ∷ []
