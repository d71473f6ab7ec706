-- What each step on the way through the policies gives.
-- Assumes nothing.
use Rattle.std.specs.Prelude.{◌≡◌, Bool, true, false, List, [], ◌∷◌, ◌++◌, ℕ, ◌-◌, ◌≤◌, ◌<◌, T, length, get_or, take, Option, Some, None}
use Rattle.std.proofs.Math.Option.{none, some}
use Rattle.model.specs.Model.{Words, state_count, action}
use Rattle.model.specs.Policy.{Policy, onward, is_policy, policies}
use Rattle.model.specs.Recursion.{feasible}
use Rattle.laws.specs.Policies.{reached_from}
use Rattle.sets.specs.Sets.{has, SetOf}
use Rattle.next_policy.specs.Next.{first_of, lowest_from}
use Rattle.next_policy.specs.Books.{lowest_policy, next_policy, higher_at}
use Rattle.enumerate.specs.declared.Raise.{Raise}

-- the first feasible action of state p above the byte of bs there, 255 where there is none
pub record HigherIs (ws : Words) (bs : Policy) (p c : ℕ) : Type 0 where
  pub absent : c ≡ 255 → higher_at ws bs p ≡ none
  pub there : (c ≡ 255 → ⊥) → higher_at ws bs p ≡ some c

-- the last state that has a higher action, and the first of these actions
pub record Last (ws : Words) (bs : Policy) (r : Raise) : Type 0 where
  pub inside : r.state < state_count ws
  pub higher : higher_at ws bs r.state ≡ some r.action
  pub after : (q : ℕ) → r.state < q → q < state_count ws → higher_at ws bs q ≡ none

-- no state has one
abbrev pub NoHigher : Words → Policy → Type 0
NoHigher ws bs = (q : ℕ) → q < state_count ws → higher_at ws bs q ≡ none

abbrev pub RaiseIs : Words → Policy → Option Raise → Type 0
RaiseIs ws bs (Some r) = Last ws bs r
RaiseIs ws bs None = NoHigher ws bs

-- the lowest byte of state p, reached or not
abbrev pub lowest_at : Words → ℕ → Bool → ℕ
lowest_at ws p true = first_of (feasible ws p)
lowest_at ws p false = 255

-- the same, where the set has the states known to be reached
abbrev pub Lowest : Words → ℕ → ℕ → ℕ → Type 0
Lowest ws p known c = c ≡ lowest_at ws p (has known p)

-- the states known to be reached before and after byte c at state p
abbrev pub Onward : Words → ℕ → ℕ → ℕ → ℕ → Type 0
Onward ws p c known after = (qs : List ℕ) → SetOf known qs → SetOf after (onward (action ws) p c qs)

-- the states that the bytes before state p reach
abbrev pub reached_before : Words → Policy → ℕ → List ℕ
reached_before ws bs p = reached_from (action ws) 0 (0 ∷ []) (take p bs)

abbrev pub ReachedBefore : Words → Policy → ℕ → ℕ → Type 0
ReachedBefore ws bs p set = SetOf set (reached_before ws bs p)

-- the same for each state before n, at its number
abbrev pub ReachTo : Words → Policy → ℕ → List ℕ → Type 0
ReachTo ws bs n reach = (p : ℕ) → p < n → ReachedBefore ws bs p (get_or reach p 0)

-- the bytes before state `from`, then the lowest ones
abbrev pub filled_from : Words → Policy → ℕ → Policy
filled_from ws bs from =
    take from bs ++ lowest_from (action ws) (feasible ws) (state_count ws - from) from (reached_before ws bs from)

-- these bytes are filled in, with the states reached before each of the states; those of the states before `from` were there
pub record Filled (ws : Words) (from : ℕ) (bs cs : Policy) (reach reach' : List ℕ) : Type 0 where
  pub bytes : cs ≡ filled_from ws bs from
  pub long : length reach' ≡ 64
  pub sets : ReachTo ws bs from reach → ReachTo ws cs (state_count ws) reach'

-- a policy with the states reached before each of the states
pub record Stands (ws : Words) (bs : Policy) (reach : List ℕ) : Type 0 where
  pub is : T (is_policy ws bs)
  pub long : length reach ≡ 64
  pub sets : ReachTo ws bs (state_count ws) reach

pub record IsFirst (ws : Words) (bs : Policy) (reach : List ℕ) : Type 0 where
  pub lowest : bs ≡ lowest_policy ws
  pub stands : Stands ws bs reach

-- cs follows bs, or nothing does
pub record Followed (ws : Words) (bs : Policy) (goes_on : Bool) (cs : Policy) (reach : List ℕ) : Type 0 where
  pub ends : goes_on ≡ false → next_policy ws bs ≡ none
  pub follows : goes_on ≡ true → next_policy ws bs ≡ some cs
  pub stands : goes_on ≡ true → Stands ws cs reach

-- how many policies there are, counted to one more than `most`
pub record CountIs (ws : Words) (most n : ℕ) : Type 0 where
  pub all : n ≤ most → n ≡ length (policies ws)
  pub more : most < n → most < length (policies ws)
