-- The table of action costs and least costs-to-go, and the choice among actions.
-- Assumes nothing.
use Rattle.std.specs.Prelude.{◌≡◌, cond, ◌⊎◌, List, ℕ, ◌+◌, ◌*◌, ◌≤◌, ◌<◌, ℤ, pos, eqb, length, get_or}
use Rattle.std.specs.Int.Signed.{le_z}
use Rattle.model.specs.Model.{Words, scale, state_count, togo, action_count, action}
use Rattle.model.specs.Recursion.{action_cost, pick, through, least_to_go, feasible}
use Rattle.accepted.specs.Options.{Feasible, Alive}
use Rattle.costs.specs.Terms.{value_at, Bounded}

-- an action number, or 255 for none
abbrev pub Chosen : ℕ → Type 0
Chosen c = (c ≡ 255) ⊎ (c < 8)

-- the better of two, the first where they are equal
abbrev pub better : (ℕ → ℤ) → ℕ → ℕ → ℕ
better f x y = cond (eqb x 255) y (cond (eqb y 255) x (pick (le_z (f x) (f y)) x y))

-- the entries of state p
abbrev pub row_of : List ℤ → ℕ → ℕ → ℤ
row_of q p c = get_or q (8 * p + c) (pos 0)

-- v has the costs-to-go of the next states of each action of state p from which a policy goes on, within the bound of question 13
abbrev pub RowBounded : Words → ℕ → List ℤ → Type 0
RowBounded ws p v = (c : ℕ) → Feasible ws p c → Bounded ws p c v

-- row p is filled for the feasible ones of the first n actions, and every other row is as before
pub record FilledTo (ws : Words) (p n : ℕ) (v q r : List ℤ) : Type 0 where
  pub long : length r ≡ 512
  pub row : (c : ℕ) → c < n → Feasible ws p c → row_of r p c ≡ action_cost (scale ws) (togo ws p) (value_at v) (action ws p c)
  pub other : (s c : ℕ) → (s ≡ p → ⊥) → c < 8 → row_of r s c ≡ row_of q s c

abbrev pub Filled : Words → ℕ → List ℤ → List ℤ → List ℤ → Type 0
Filled ws p v q r = FilledTo ws p (action_count ws p) v q r

-- the table of the states from n on: a cost-to-go stands where there is one
pub record TableFrom (ws : Words) (n : ℕ) (q v : List ℤ) : Type 0 where
  pub rows : length q ≡ 512
  pub long : length v ≡ 64
  pub through_is : (p c : ℕ) → n ≤ p → p < state_count ws → Feasible ws p c
      → row_of q p c ≡ through (scale ws) (action ws) (feasible ws) (togo ws p) p c
  pub least_is : (p : ℕ) → n ≤ p → Alive ws p → value_at v p ≡ least_to_go (scale ws) (action ws) (feasible ws) (togo ws p) p

abbrev pub TableOf : Words → List ℤ → List ℤ → Type 0
TableOf ws q v = TableFrom ws 0 q v
