-- Sums of weighted costs, and what a cost-to-go can be at most.
-- Assumes nothing.
use Rattle.std.specs.Prelude.{List, [], ◌∷◌, ℕ, ◌+◌, ◌*◌, ◌^◌, ◌≤◌, ℤ, pos, nat_abs, get_or}
use Rattle.model.specs.Model.{Words, scale, togo, Transition, action}
use Rattle.model.specs.Questions.{largest_cost}
use Rattle.laws.specs.Members.{AtNexts}

-- the sum of weight × cost-to-go, each without its sign
abbrev pub abs_expected : (ℕ → ℤ) → List Transition → ℕ
abs_expected v [] = 0
abs_expected v (t ∷ ts) = t.weight * nat_abs (v t.next) + abs_expected v ts

-- the cost-to-go of state q, of those that an array holds
abbrev pub value_at : List ℤ → ℕ → ℤ
value_at v q = get_or v q (pos 0)

-- the largest that a cost-to-go of state q can be without its sign
unfoldable pub most : Words → ℕ → ℕ
most ws q = scale ws ^ togo ws q * (togo ws q + 1) * largest_cost ws

-- the costs-to-go of the next states of action c of state p are no larger
abbrev pub Bounded : Words → ℕ → ℕ → List ℤ → Type 0
Bounded ws p c v = AtNexts (λ q. nat_abs (value_at v q) ≤ most ws q) (action ws p c).transitions
