-- The recursions of source document 000, times D to the power of the stages still to come, so that every figure is whole. No entry point's contract
-- rests on them: laws say that they agree with the sum over paths and with the first policy.
-- Assumes nothing.
use Rattle.std.specs.Prelude.{ℕ, zero, suc, ◌^◌, Bool, true, false, not, List, [], ◌∷◌, ℤ, pos, ◌+ℤ◌, ◌*ℤ◌}
use Rattle.std.proofs.Math.Option.{Option, none, some}
use Rattle.std.specs.Int.Signed.{le_z}
use Rattle.model.specs.Lists.{is_empty, keep, every}
use Rattle.model.specs.Model.{Words, Transition, Action, scale, togo, action, options}

-- the sum over transitions of weight × the cost-to-go `v` of the next state
abbrev pub expected : (ℕ → ℤ) → List Transition → ℤ
expected v [] = pos 0
expected v (t ∷ ts) = pos t.weight *ℤ v t.next +ℤ expected v ts

-- an action's cost against D^m, and what is expected after it; nothing comes after a stop, so what its weights leave of D adds nothing
abbrev pub action_cost : ℕ → ℕ → (ℕ → ℤ) → Action → ℤ
action_cost D m v a = pos (D ^ m) *ℤ a.cost +ℤ expected v a.transitions

-- equation (4): the cost-to-go of state p with m stages still to come, where `taken` is the action at each state
abbrev pub cost_to_go : ℕ → (ℕ → Action) → ℕ → ℕ → ℤ
cost_to_go D taken zero p = (taken p).cost
cost_to_go D taken (suc m) p = action_cost D (suc m) (cost_to_go D taken m) (taken p)

-- the first of x, ys at which f is least
abbrev pub pick : Bool → ℕ → ℕ → ℕ
pick true x y = x
pick false x y = y

module _ (f : ℕ → ℤ) where
  abbrev pub first_least : ℕ → List ℕ → ℕ
  first_least x [] = x
  first_least x (y ∷ ys) = pick (le_z (f x) (f (first_least y ys))) x (first_least y ys)

  -- the first of a list at which f is least; 255 for the empty list
  abbrev pub best_of : List ℕ → ℕ
  best_of [] = 255
  best_of (x ∷ xs) = first_least x xs

  -- the least f of a list, if the list has an element
  abbrev pub least_of : List ℕ → Option ℤ
  least_of [] = none
  least_of (x ∷ xs) = some (f (first_least x xs))

module _ (D : ℕ) (act : ℕ → ℕ → Action) (opts : ℕ → List ℕ) where
  -- the cost of taking action c at state p and a best action ever after
  abbrev pub through : ℕ → ℕ → ℕ → ℤ
  through zero p c = (act p c).cost
  through (suc m) p c = action_cost D (suc m) (λ q. through m q (best_of (through m q) (opts q))) (act p c)

  -- equation (5): the least cost-to-go of state p with m stages still to come
  abbrev pub least_to_go : ℕ → ℕ → ℤ
  least_to_go m p = through m p (best_of (through m p) (opts p))

-- Request 2.7: "The least cost of a post may therefore not exist". The options of state p, with m stages still to come, from which a policy goes on:
-- those that lead only to states with such an option
module _ (act : ℕ → ℕ → Action) (opts : ℕ → List ℕ) where
  abbrev pub feasible_from : ℕ → ℕ → List ℕ
  feasible_from zero p = opts p
  feasible_from (suc m) p =
      keep (λ (c : ℕ). every (λ (t : Transition). not (is_empty (feasible_from m t.next))) (act p c).transitions) (opts p)

-- of a model: the feasible actions of state p, and its least cost-to-go where it has one
unfoldable pub feasible : Words → ℕ → List ℕ
feasible ws p = feasible_from (action ws) (options ws) (togo ws p) p

unfoldable pub least_at : Words → ℕ → Option ℤ
least_at ws p = least_of (through (scale ws) (action ws) (feasible ws) (togo ws p) p) (feasible ws p)
