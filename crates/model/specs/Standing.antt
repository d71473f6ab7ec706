-- Request 2.8, "Where is my plan?": what is said of a policy, by the list of its model and K.
-- Assumes nothing.
use Rattle.std.specs.Prelude.{ℕ, suc, ◌-◌, cond, List, [], ℤ, pos, ◌-ℤ◌, ltb, length, get_or}
use Rattle.std.specs.Int.Signed.{lt_z}
use Rattle.model.specs.Lists.{same, first_where}
use Rattle.model.specs.Model.{Words}
use Rattle.model.specs.Policy.{Policy}
use Rattle.model.specs.Path.{policy_cost}
use Rattle.model.specs.Order.{first_difference, ranking}

-- "it says one of":
pub data Answer : Type 0 where
  is_rank : ℕ → Answer  -- "it is rank j, from 1"
  costs_more : ℤ → Answer  -- "it costs more than the last listed, by this exact amount"
  takes_higher : ℕ → Answer  -- "it costs the same as the last listed, and at this post, the first where they differ, takes the higher choice"

-- how many entries of a list stand above a policy: all of them where it is not there
abbrev pub place_in : List Policy → Policy → ℕ
place_in ps bs = first_where (λ (p : Policy). same p bs) ps

-- "the last listed"
abbrev pub last_of : List Policy → Policy
last_of ps = get_or ps (length ps - 1) []

-- of a policy that is not listed, by the last one that is and what both cost
abbrev pub beside_last : Policy → ℤ → Policy → ℤ → Answer
beside_last last lastCost bs cost = cond (lt_z lastCost cost) (costs_more (cost -ℤ lastCost)) (takes_higher (first_difference last bs))

-- the rank of a listed policy is one more than how many stand above it; of any other it is said why the last listed comes before it
unfoldable pub standing : Words → ℕ → Policy → Answer
standing ws k bs =
    cond (ltb (place_in (ranking ws k) bs) (length (ranking ws k))) (is_rank (suc (place_in (ranking ws k) bs)))
    (beside_last (last_of (ranking ws k)) (policy_cost ws (last_of (ranking ws k))) bs (policy_cost ws bs))

-- ---- as the call gives it: which of the three in the order of the sentence, and the rank, the amount or the post

abbrev pub answer_number : Answer → ℕ
answer_number (is_rank j) = 1
answer_number (costs_more z) = 2
answer_number (takes_higher p) = 3

abbrev pub answer_value : Answer → ℤ
answer_value (is_rank j) = pos j
answer_value (costs_more z) = z
answer_value (takes_higher p) = pos p
