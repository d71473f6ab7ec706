-- The bytes of a policy, by an action for each state: one walk over the states in order settles which of them are reached.
-- Assumes nothing.
use Rattle.std.specs.Prelude.{◌≡◌, cond, ◌⊎◌, List, [], ◌∷◌, ◌++◌, ℕ, zero, suc, ◌-◌, ◌<◌, eqb, ltb, length, take, drop}
use Rattle.model.specs.Lists.{is_in}
use Rattle.model.specs.Model.{Words, Action, state_count, action}
use Rattle.model.specs.Policy.{Policy, onward}
use Rattle.model.specs.Path.{byte_at}
use Rattle.laws.specs.Members.{In}
use Rattle.laws.specs.Greedy.{byte_of}
use Rattle.accepted.specs.Options.{Feasible, Alive}
use Rattle.sets.specs.Sets.{has, SetOf}
use Rattle.build.specs.Best.{best_at}

module _ (act : ℕ → ℕ → Action) (choose : ℕ → ℕ) where
  -- the bytes of the n states from p on, where `reach` are the states known to be reached
  abbrev pub walk_by : ℕ → ℕ → List ℕ → Policy
  walk_by zero p reach = []
  walk_by (suc n) p reach =
      byte_of (is_in p reach) (choose p) ∷ walk_by n (suc p) (onward act p (byte_of (is_in p reach) (choose p)) reach)

-- before state r the actions of f, at r action c, and after r the actions of g
unfoldable pub split_by : (ℕ → ℕ) → ℕ → ℕ → (ℕ → ℕ) → ℕ → ℕ
split_by f r c g s = cond (ltb s r) (f s) (cond (eqb s r) c (g s))

-- the bytes bs before state r, action c at r, and first best actions after it
abbrev pub chosen : Words → Policy → ℕ → ℕ → ℕ → ℕ
chosen ws bs r c = split_by (byte_at bs) r c (best_at ws)

-- the byte of state s is there, and is a feasible action of the state or 255
abbrev pub ActionOrNone : Words → Policy → ℕ → Type 0
ActionOrNone ws bs s = (s < length bs) × ((byte_at bs s ≡ 255) ⊎ Feasible ws s (byte_at bs s))

-- each byte before state r is
abbrev pub Usable : Words → Policy → ℕ → Type 0
Usable ws bs r = (s : ℕ) → s < r → ActionOrNone ws bs s

-- of state s, whose action is a: its byte, and the set of states known to be reached before and after its next states are among them
pub record Stepped (act : ℕ → ℕ → Action) (s a byte before after : ℕ) : Type 0 where
  pub byte_is : byte ≡ byte_of (has before s) a
  pub reached : (qs : List ℕ) → SetOf before qs → SetOf after (onward act s byte qs)

-- the set of the states that the first s bytes of bs reach, and a policy goes on from each: whoever acts by these bytes walks over the other states from there
pub record Walked (ws : Words) (bs : Policy) (s set : ℕ) : Type 0 where
  pub reach : List ℕ
  pub set_is : SetOf set reach
  pub alive : (q : ℕ) → In q reach → Alive ws q
  pub rest : (f : ℕ → ℕ) → ((p : ℕ) → p < s → f p ≡ byte_at bs p)
      → walk_by (action ws) f (state_count ws) 0 (0 ∷ []) ≡ take s bs ++ walk_by (action ws) f (state_count ws - s) s reach

-- the bytes of a walk
pub record Own (ws : Words) (bs : Policy) : Type 0 where
  pub by : ℕ → ℕ
  pub own : bs ≡ walk_by (action ws) by (state_count ws) 0 (0 ∷ [])

-- the first s states of the walk bs are passed
pub record Passed (ws : Words) (bs : Policy) (s set : ℕ) : Type 0 where
  pub walked : Walked ws bs s set
  pub long : length bs ≡ state_count ws
  pub by : ℕ → ℕ
  pub left : drop s bs ≡ walk_by (action ws) by (state_count ws - s) s walked.reach
