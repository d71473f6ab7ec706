-- The rules of document 01 before stops: its questions 9 and 12 and its days, and the cost, the list and the record that rest on those days.
-- No contract cites these definitions.
-- Assumes nothing.
use Rattle.std.specs.Prelude.{ℕ, zero, suc, ◌+◌, Bool, ◌&&◌, ◌||◌, cond, List, [], ◌∷◌, ◌++◌, map, ℤ, pos, eqb, length, take}
use Rattle.model.specs.Lists.{all, for_each, sorted}
use Rattle.model.specs.Bytes.{bytes, signed_bytes}
use Rattle.model.specs.Model.{Words, Transition, Action, scale, horizon, right, branches}
use Rattle.model.specs.Questions.{Question, first_no, inside, every_action, weight_sum, book_questions}
use Rattle.model.specs.Policy.{Policy, policies}
use Rattle.model.specs.Path.{Path, total_cost, taken}
use Rattle.model.specs.Order.{before}
use Rattle.branch_limit.specs.Former.{lines_within, former_most}

-- ---- the questions

-- 9: "r from 1 to 16 before stage H"
abbrev pub base_lines : Words → Bool
base_lines ws = lines_within 1 former_most ws

-- 12: "Is every weight from 1 to D, and does each choice's sum to exactly D (before stage H)?"
unfoldable pub base_weights : Words → ℕ → ℕ → Bool
base_weights ws n j =
    all (branches ws j) (λ (i : ℕ). inside (pos 1) (pos (scale ws)) (right ws (j + 1 + i)))
    && (eqb n (horizon ws) || eqb (weight_sum ws j) (scale ws))

-- a question of a book: 9 and 12 ask these, every other what it asks
abbrev pub base_question : Question Words → Question Words
base_question q =
    cond (eqb q.number 9) (record { number = 9; asks = base_lines })
    (cond (eqb q.number 12) (record { number = 12; asks = every_action base_weights }) q)

-- the number of the first "no" of the questions 1 to 13, or 0
unfoldable pub base_number : Words → ℕ
base_number ws = first_no (map base_question book_questions) ws

-- ---- the days

-- "A day of a plan is one post per stage, from post 0, each next post on a line of the choice made.": from state p with m stages still to come
abbrev pub base_paths_from : (ℕ → Action) → ℕ → ℕ → List Path
base_paths_from taken zero p = (record { state = p; cost = (taken p).cost; weight = 1 } ∷ []) ∷ []
base_paths_from taken (suc m) p =
    for_each
    (λ (t : Transition). map (λ (path : Path). record { state = p; cost = (taken p).cost; weight = t.weight } ∷ path) (base_paths_from taken m t.next))
    (taken p).transitions

unfoldable pub base_paths : Words → Policy → List Path
base_paths ws bs = base_paths_from (taken ws bs) (horizon ws) 0

-- ---- what rests on them, as in model/specs

unfoldable pub base_cost : Words → Policy → ℤ
base_cost ws bs = total_cost (base_paths ws bs)

unfoldable pub base_ranking : Words → ℕ → List Policy
base_ranking ws k = take k (sorted (before (base_cost ws)) (policies ws))

unfoldable pub base_costs : Words → ℕ → List ℤ
base_costs ws k = map (base_cost ws) (base_ranking ws k)

unfoldable pub base_record : Words → ℕ → List ℕ
base_record ws k =
    bytes 4 (length ws) ++ bytes 4 k ++ bytes 4 (length (base_ranking ws k)) ++ for_each (signed_bytes 4) ws
    ++ (for_each (signed_bytes 8) (base_costs ws k) ++ for_each (λ (p : Policy). p) (base_ranking ws k))
