-- Request 2.10, "At most m hill climbs": the first listed policy none of whose sample paths takes more than m marked actions.
-- Assumes nothing.
use Rattle.std.specs.Prelude.{ℕ, suc, ◌+◌, Bool, ◌&&◌, cond, List, eqb, leb, ltb, length, get_or}
use Rattle.model.specs.Lists.{sum_to, every, first_where}
use Rattle.model.specs.Model.{Words, state_count, action_count}
use Rattle.model.specs.Policy.{Policy}
use Rattle.model.specs.Path.{Path, path_sum, of_taken, paths}
use Rattle.model.specs.Order.{ranking}

-- what the caller gives: the marks, and m
pub record Limit : Type 0 where
  pub marks : List ℕ
  pub most : ℕ

abbrev pub limit_of : List ℕ → ℕ → Limit
limit_of marks m = record { marks = marks; most = m }

-- "one byte per choice, 1 or 0, in book order": how many actions the states before state p have, closed ones and depots too
unfoldable pub first_mark : Words → ℕ → ℕ
first_mark ws p = sum_to p (action_count ws)

-- the mark of action c of state p; an action that the state does not have has none
unfoldable pub mark_of : Words → List ℕ → ℕ → ℕ → ℕ
mark_of ws marks p c = cond (ltb c (action_count ws p)) (get_or marks (first_mark ws p + c) 0) 0

-- how many marked actions a path of a policy takes
unfoldable pub marked_on : Words → List ℕ → Policy → Path → ℕ
marked_on ws marks bs path = path_sum (of_taken (mark_of ws marks) bs) path

-- "none of whose days makes more than m marked choices"
unfoldable pub keeps_limit : Words → Limit → Policy → Bool
keeps_limit ws limit bs = every (λ (path : Path). leb (marked_on ws limit.marks bs path) limit.most) (paths ws bs)

-- a mark is "1 or 0"
abbrev pub is_mark : ℕ → Bool
is_mark b = leb b 1

-- "m from 0 to 9"
abbrev pub highest_limit : ℕ
highest_limit = 9

-- 29: "marks of the wrong length or value, or m out of range"
unfoldable pub limit_allowed : Words → Limit → Bool
limit_allowed ws limit =
    eqb (length limit.marks) (first_mark ws (state_count ws)) && every is_mark limit.marks && leb limit.most highest_limit

-- the answer:
pub data Kept : Type 0 where
  kept_at : ℕ → Kept  -- "the rank of the first listed plan none of whose days makes more than m marked choices"
  none_listed : Kept  -- "none in the list", "if k = K"
  none_in_book : Kept  -- "none in the book", "if k is less"

-- how many listed policies stand above the first that keeps the limit
unfoldable pub above_kept : Words → ℕ → Limit → ℕ
above_kept ws k limit = first_where (keeps_limit ws limit) (ranking ws k)

unfoldable pub first_kept : Words → ℕ → Limit → Kept
first_kept ws k limit =
    cond (ltb (above_kept ws k limit) (length (ranking ws k))) (kept_at (suc (above_kept ws k limit)))
    (cond (ltb (length (ranking ws k)) k) none_in_book none_listed)

-- ---- as the call gives it: which of the three in the order of the sentences, and the rank, 0 where there is none

abbrev pub kept_number : Kept → ℕ
kept_number (kept_at j) = 1
kept_number none_listed = 2
kept_number none_in_book = 3

abbrev pub kept_rank : Kept → ℕ
kept_rank (kept_at j) = j
kept_rank none_listed = 0
kept_rank none_in_book = 0
