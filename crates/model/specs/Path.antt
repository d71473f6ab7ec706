-- The sample paths of a policy (document 01: the days of a plan), and its cost: the sum over all of them of weight × cost. Sentences about days that stop
-- are those of request 2.1.
-- Assumes nothing.
use Rattle.std.specs.Prelude.{ℕ, zero, suc, ◌+◌, ◌*◌, ◌^◌, cond, List, [], ◌∷◌, ◌++◌, map, ℤ, pos, ◌+ℤ◌, ◌*ℤ◌, ltb, get_or}
use Rattle.model.specs.Lists.{for_each}
use Rattle.model.specs.Model.{Words, Transition, Action, weights_of, missing, scale, horizon, action}
use Rattle.model.specs.Policy.{Policy}

-- a step of a path: the state, the cost of the action taken there, and the weight of the transition taken, or of the stop (1 at the last stage)
pub record Step : Type 0 where
  pub state : ℕ
  pub cost : ℤ
  pub weight : ℕ

-- "A day of a plan is one post per stage, from post 0, each next post on a line of the choice made." "A day may stop": it then ends before stage H
abbrev pub Path : Type 0
Path = List Step

-- "Its weight is the product of those lines' weights; its cost is the sum of the H + 1 choices' costs." Of a day that stops, "its cost counts the
-- choices made"
abbrev pub path_weight : Path → ℕ
path_weight [] = 1
path_weight (s ∷ ss) = s.weight * path_weight ss

abbrev pub path_cost : Path → ℤ
path_cost [] = pos 0
path_cost (s ∷ ss) = s.cost +ℤ path_cost ss

-- the sum over the steps of a path of a number for each state: every action taken counts, the last one too, at stage H or where the path stops
abbrev pub path_sum : (ℕ → ℕ) → Path → ℕ
path_sum here [] = 0
path_sum here (s ∷ ss) = here s.state + path_sum here ss

-- "A day may stop after a choice before stage H whose weights add to less than D: its weight takes the missing part there and D for each later stage
-- before H": the rest of a path that stops after action a of state p, where m later stages are before H; none where the weights add to D
abbrev pub stops_after : ℕ → ℕ → ℕ → Action → List Path
stops_after D m p a =
    cond (ltb (weights_of a.transitions) D)
    ((record { state = p; cost = a.cost; weight = missing D a * D ^ m } ∷ []) ∷ []) []

-- the paths from state p with m stages still to come, where `taken` is the action at each state
abbrev pub paths_from : ℕ → (ℕ → Action) → ℕ → ℕ → List Path
paths_from D taken zero p = (record { state = p; cost = (taken p).cost; weight = 1 } ∷ []) ∷ []
paths_from D taken (suc m) p =
    for_each
    (λ (t : Transition). map (λ (path : Path). record { state = p; cost = (taken p).cost; weight = t.weight } ∷ path) (paths_from D taken m t.next))
    (taken p).transitions
    ++ stops_after D m p (taken p)

-- "A plan's cost is the sum over all its days of weight × cost."
abbrev pub total_cost : List Path → ℤ
total_cost [] = pos 0
total_cost (path ∷ paths) = pos (path_weight path) *ℤ path_cost path +ℤ total_cost paths

abbrev pub total_weight : List Path → ℕ
total_weight [] = 0
total_weight (path ∷ paths) = path_weight path + total_weight paths

-- the byte of a policy at state p, and the action that it takes there
abbrev pub byte_at : Policy → ℕ → ℕ
byte_at bs p = get_or bs p 255

-- the number of the action that a policy takes at state p, where `number q c` is that of action c of state q
abbrev pub of_taken : (ℕ → ℕ → ℕ) → Policy → ℕ → ℕ
of_taken number bs p = number p (byte_at bs p)

unfoldable pub taken : Words → Policy → ℕ → Action
taken ws bs p = action ws p (byte_at bs p)

unfoldable pub paths : Words → Policy → List Path
paths ws bs = paths_from (scale ws) (taken ws bs) (horizon ws) 0

unfoldable pub policy_cost : Words → Policy → ℤ
policy_cost ws bs = total_cost (paths ws bs)
