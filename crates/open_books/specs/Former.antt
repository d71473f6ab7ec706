-- The rules before request 2.7: a cost marks nothing, so a policy may take every action, and 28 is not asked. All else is as in crate model.
-- No contract cites these definitions.
-- Assumes nothing.
use Rattle.std.specs.Prelude.{ℕ, ◌+◌, ◌*◌, ◌^◌, Bool, ◌&&◌, cond, List, [], ◌∷◌, ◌++◌, map, ℤ, pos, negsuc, nat_abs, eqb, leb, length, take, drop}
use Rattle.model.specs.Lists.{max_to, up_from, for_each, same, sorted}
use Rattle.model.specs.Bytes.{bytes, signed_bytes}
use Rattle.model.specs.Model.{Words, scale, horizon, state_count, action_count, right, action_line, action}
use Rattle.model.specs.Questions.{Question, first_no, and_then, inside, every_action, book_questions}
use Rattle.model.specs.Policy.{Policy, fits, policies_from}
use Rattle.model.specs.Path.{policy_cost}
use Rattle.model.specs.Order.{comes_before}
use Rattle.model.specs.Record.{carried_k, carried_count, carried_book, list_start, count_questions, head_questions, tail_questions}
use Rattle.model.specs.Calls.{if_accepted, first_cost}

-- ---- the questions

-- 10: "costs from -100,000 to 100,000"
unfoldable pub former_cost : Words → ℕ → ℕ → Bool
former_cost ws n j = inside (negsuc 99999) (pos 100000) (right ws j)

-- 13: "largest cost without its sign"
unfoldable pub former_largest : Words → ℕ
former_largest ws =
    max_to (state_count ws) (λ (p : ℕ). max_to (action_count ws p) (λ (c : ℕ). nat_abs (right ws (action_line ws p c))))

unfoldable pub former_bounded : Words → Bool
former_bounded ws = leb (scale ws ^ horizon ws * (horizon ws + 1) * former_largest ws) 4000000000000000000

-- a question of a book: 10 and 13 ask these, every other what it asks
abbrev pub former_question : Question Words → Question Words
former_question q =
    cond (eqb q.number 10) (record { number = 10; asks = every_action former_cost })
    (cond (eqb q.number 13) (record { number = 13; asks = former_bounded }) q)

-- the number of the first "no" of the questions 1 to 13, or 0: "The least cost asks 1 to 13 alone."
unfoldable pub former_number : Words → ℕ
former_number ws = first_no (map former_question book_questions) ws

-- "1 to 14"
unfoldable pub former_asked : Words → ℕ → ℕ
former_asked ws k = and_then (former_number ws) (first_no count_questions k)

-- ---- the policies

-- "its choice (one of that post's, counted from 0)"
abbrev pub former_options : Words → ℕ → List ℕ
former_options ws p = up_from 0 (action_count ws p)

unfoldable pub former_plan : Words → Policy → Bool
former_plan ws bs = fits (action ws) (former_options ws) (state_count ws) 0 (0 ∷ []) bs

unfoldable pub former_policies : Words → List Policy
former_policies ws = policies_from (action ws) (former_options ws) (state_count ws) 0 (0 ∷ [])

-- ---- what rests on them, as in model/specs

unfoldable pub former_value_number : Words → Policy → ℕ
former_value_number ws bs = and_then (former_number ws) (first_no (record { number = 17; asks = former_plan ws } ∷ []) bs)

unfoldable pub former_ranking : Words → ℕ → List Policy
former_ranking ws k = take k (sorted (comes_before ws) (former_policies ws))

unfoldable pub former_costs : Words → ℕ → List ℤ
former_costs ws k = map (policy_cost ws) (former_ranking ws k)

unfoldable pub former_least : Words → ℤ
former_least ws = if_accepted (former_number ws) (first_cost (former_costs ws 1)) (pos 0)

unfoldable pub former_list : Words → ℕ → List ℕ
former_list ws k = for_each (signed_bytes 8) (former_costs ws k) ++ for_each (λ (p : Policy). p) (former_ranking ws k)

unfoldable pub former_record : Words → ℕ → List ℕ
former_record ws k =
    bytes 4 (length ws) ++ bytes 4 k ++ bytes 4 (length (former_ranking ws k)) ++ for_each (signed_bytes 4) ws ++ former_list ws k

-- 21: "Are costs, plans and k those that ranking gives?"
abbrev pub former_tail : Question (List ℕ) → Question (List ℕ)
former_tail q =
    cond (eqb q.number 21)
    (record {
      number = 21;
      asks = λ bs. eqb (carried_count bs) (length (former_ranking (carried_book bs) (carried_k bs)))
          && same (drop (list_start bs) bs) (former_list (carried_book bs) (carried_k bs));
    })
    q

unfoldable pub former_accept_number : List ℕ → ℕ
former_accept_number bs =
    and_then (first_no head_questions bs) (and_then (former_asked (carried_book bs) (carried_k bs)) (first_no (map former_tail tail_questions) bs))
