-- The costs-to-go of a state by those of its next states, as a pass from the last state to the first meets them.
-- Assumes nothing.
use mathlib.Core.Path.{◌≡◌, refl, sym, ap, ◌∙◌, subst}
use mathlib.Core.List.{List}
use Prim.Native.Nat.{ℕ, ◌+◌, ◌^◌, ◌≤◌, ◌<◌}
use native.Mathlib.Omega.{arith}
use lib.IntN.{ℤ, pos, ◌+ℤ◌, ◌*ℤ◌}
use lib.ListN.{length, set}
use lib.Seq.{get_or-set_same, get_or-set_other}
use mathlib.Core.Logic.{◌⊎◌, inl, inr}
use native.Mathlib.Nat.{eq-or-lt_of_le}
use Rattle.model.specs.Model.{Words, Transition, scale, togo, action}
use Rattle.model.specs.Questions.{book_number}
use Rattle.model.specs.Policy.{Policy}
use Rattle.model.specs.Path.{byte_at, taken}
use Rattle.model.specs.Recursion.{action_cost, cost_to_go, through, least_to_go, feasible}
use Rattle.laws.specs.ToGo.{expected-same, by_stage}
use Rattle.laws.specs.Members.{AtNexts, every_both}
use Rattle.accepted.specs.Options.{Feasible, Alive}
use Rattle.accepted.specs.Shape.{shape, nexts_alive}
use Rattle.accepted.specs.Demands.{least-most}
use Rattle.costs.specs.Terms.{value_at, most, Bounded}

module _ (ws : Words) (ok : book_number ws ≡ 0) where
  -- the cost-to-go of a policy
  pub policy_step : (bs : Policy) (p : ℕ) → cost_to_go (scale ws) (taken ws bs) (togo ws p) p
      ≡ action_cost (scale ws) (togo ws p) (λ q. cost_to_go (scale ws) (taken ws bs) (togo ws q) q) (taken ws bs p)
  unfolding taken
  policy_step bs p =
      by_stage (scale ws) (togo ws) (cost_to_go (scale ws) (taken ws bs)) p (action ws p (byte_at bs p)) ((shape ws ok).step p (byte_at bs p))
      (λ m. cost_to_go (scale ws) (taken ws bs) m p) refl (λ m. refl)

  -- the cost of an action and a best action ever after
  pub through_step : (p c : ℕ) → through (scale ws) (action ws) (feasible ws) (togo ws p) p c
      ≡ action_cost (scale ws) (togo ws p) (λ q. least_to_go (scale ws) (action ws) (feasible ws) (togo ws q) q) (action ws p c)
  through_step p c =
      by_stage (scale ws) (togo ws) (least_to_go (scale ws) (action ws) (feasible ws)) p (action ws p c) ((shape ws ok).step p c)
      (λ m. through (scale ws) (action ws) (feasible ws) m p c) refl (λ m. refl)

  -- an array that holds the cost-to-go u of each state of a set from p on
  abbrev pub Holds : (ℕ → Type 0) → (ℕ → ℤ) → ℕ → List ℤ → Type 0
  Holds P u p v = (q : ℕ) → p ≤ q → P q → value_at v q ≡ u q

  -- the cost of an action that leads to states of the set, by such an array
  pub by_array : (P : ℕ → Type 0) (u : ℕ → ℤ) (p c : ℕ) (v : List ℤ) → AtNexts P (action ws p c).transitions → Holds P u (p + 1) v
      → action_cost (scale ws) (togo ws p) (value_at v) (action ws p c) ≡ action_cost (scale ws) (togo ws p) u (action ws p c)
  by_array P u p c v n h =
      ap (λ (y : ℤ). pos (scale ws ^ togo ws p) *ℤ (action ws p c).cost +ℤ y)
      (expected-same (value_at v) u (action ws p c).transitions
      (every_both {P = λ t. p < t.next} {Q = λ t. P t.next} (λ t l i. h t.next (omega arith) i) (action ws p c).transitions
      ((shape ws ok).later p c) n))

  -- bounds of what it holds
  pub least_bounded : (p c : ℕ) (v : List ℤ) → Feasible ws p c
      → Holds (Alive ws) (λ q. least_to_go (scale ws) (action ws) (feasible ws) (togo ws q) q) (p + 1) v → Bounded ws p c v
  unfolding most
  least_bounded p c v i h =
      every_both {P = λ (t : Transition). p < t.next} {Q = λ (t : Transition). Alive ws t.next}
      (λ n l a. rw (h n.next (omega arith) a) (least-most ws ok (togo ws n.next) n.next))
      (action ws p c).transitions ((shape ws ok).later p c) (nexts_alive ws ok p c i)

  -- one state more
  pub holds_more : (P : ℕ → Type 0) (u : ℕ → ℤ) (p : ℕ) (v : List ℤ) (y : ℤ) → p < length v → (P p → y ≡ u p) → Holds P u (p + 1) v
      → Holds P u p (set v p y)
  holds_more P u p v y l e h q a b = go (eq-or-lt_of_le a)
    where
      go : (p ≡ q) ⊎ (p < q) → value_at (set v p y) q ≡ u q
      go (inl k) = subst (λ (n : ℕ). value_at (set v p y) n ≡ u n) k (get_or-set_same v p y (pos 0) l ∙ e (subst P (sym k) b))
      go (inr k) = get_or-set_other v p q y (pos 0) (λ r. absurd (omega arith)) ∙ h q (omega arith) b
