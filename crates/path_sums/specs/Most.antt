-- The most over paths of the sum over a path's steps of a number for each state (of the action taken there). The most is that of a recursion
-- from the last states to the first, where each state has a path: that is so where D is at least 1. For any actions.
-- Assumes nothing.
use Rattle.std.specs.Prelude.{List, [], ◌∷◌, ℕ, zero, suc, ◌+◌, max}
use Rattle.model.specs.Model.{Transition, Action}
use Rattle.model.specs.Path.{Path, path_sum}

-- ---- over paths

module _ (here : ℕ → ℕ) where
  -- the most over paths, 0 where there is none
  abbrev pub most_of : List Path → ℕ
  most_of [] = 0
  most_of (x ∷ xs) = max (path_sum here x) (most_of xs)

-- ---- by a recursion

-- the most of v at the next states, 0 where there is none
abbrev pub most_next : (ℕ → ℕ) → List Transition → ℕ
most_next v [] = 0
most_next v (t ∷ ts) = max (v t.next) (most_next v ts)

-- the most from state p on, with m stages still to come, where `taken` is the action at each state
abbrev pub most_to_go : (ℕ → ℕ) → (ℕ → Action) → ℕ → ℕ → ℕ
most_to_go here taken zero p = here p
most_to_go here taken (suc m) p = here p + most_next (most_to_go here taken m) (taken p).transitions
