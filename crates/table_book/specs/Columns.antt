-- The words of the book of a planners' table, part by part, as they are taken from the table.
-- Assumes nothing.
use Rattle.std.specs.Prelude.{ℕ, zero, suc, ◌+◌, ◌*◌, ◌-◌, ◌≤◌, ◌≡◌, Bool, true, false, List, [], ◌∷◌, ◌++◌, map, ℤ, pos, neg_ℤ, nat_abs, take, drop, replicate}
use Rattle.model.specs.Lists.{up_from, for_each}
use Rattle.model.specs.Model.{Words}
use Rattle.reward_table.specs.Table.{table_horizon, table_states, table_first, table_left, table_right, table_state_line}

-- ---- the right column, each reward negated; `rest` is how many lines of the action before are left

-- the word on the right of a line
abbrev pub turned : ℕ → ℤ → ℤ
turned zero x = neg_ℤ x
turned (suc n) x = x

-- how many are left after a line
abbrev pub rest_after : ℕ → ℤ → ℕ
rest_after zero left = nat_abs left
rest_after (suc n) left = n

-- of k lines from line j on
abbrev pub turned_from : Words → ℕ → ℕ → ℕ → List ℤ
turned_from t rest j zero = []
turned_from t rest j (suc k) = turned rest (table_right t j) ∷ turned_from t (rest_after rest (table_left t j)) (suc j) k

-- the rewards among them can be negated in a word
abbrev pub Turnable : Words → ℕ → ℕ → ℕ → Type 0
Turnable t rest j zero = Unit {0}
Turnable t rest j (suc k) = (rest ≡ 0 → nat_abs (table_right t j) ≤ 100000) × Turnable t (rest_after rest (table_left t j)) (suc j) k

-- ---- the parts

-- the left or the right column of k lines from line j on
abbrev pub column_from : Words → Bool → ℕ → ℕ → List ℤ
column_from t false j k = map (table_left t) (up_from j k)
column_from t true j k = turned_from t 0 j k

abbrev pub repeated : ℕ → List ℤ → List ℤ
repeated m xs = for_each (λ (ys : List ℤ). ys) (replicate m xs)

-- the lines of the table's first state, of the book, and its states
unfoldable pub first_lines : Words → ℕ
first_lines t = table_state_line t (table_first t + 1) - table_state_line t (table_first t)

unfoldable pub book_lines : Words → ℕ
book_lines t = first_lines t + (table_horizon t - 1) * table_state_line t (table_states t) + table_states t

unfoldable pub book_column : Words → Bool → List ℤ
book_column t right =
    column_from t right (table_state_line t (table_first t)) (first_lines t)
    ++ repeated (table_horizon t - 1) (column_from t right 0 (table_state_line t (table_states t)))
    ++ column_from t right (table_state_line t (table_states t)) (table_states t)

unfoldable pub book_counts : Words → List ℤ
book_counts t =
    take 1 (drop (5 + table_first t) t) ++ repeated (table_horizon t - 1) (take (table_states t) (drop 5 t)) ++ replicate (table_states t) (pos 1)

unfoldable pub book_sizes : ℕ → ℕ → ℕ → ℕ → List ℤ
book_sizes d h n lines = pos d ∷ pos h ∷ pos lines ∷ pos 1 ∷ replicate h (pos n)
