-- The costs-to-go of the states that a policy reaches, state by state.
-- Assumes nothing.
use mathlib.Core.Path.{◌≡◌, refl, sym, ◌∙◌, subst}
use mathlib.Core.Bool.{Bool, true, false}
use mathlib.Core.Logic.{◌⊎◌, inl, inr}
use mathlib.Core.List.{List}
use Prim.Native.Nat.{ℕ, ◌+◌, ◌≤◌, ◌<◌}
use native.Mathlib.Omega.{arith}
use native.Mathlib.Nat.{eq-or-lt_of_le}
use lib.Dec.{T}
use lib.IntN.{ℤ}
use Rattle.model.specs.Lists.{is_in}
use Rattle.model.specs.Model.{Words, Transition, scale, togo, state_count, action}
use Rattle.model.specs.Questions.{book_number}
use Rattle.model.specs.Policy.{Policy, is_policy}
use Rattle.model.specs.Path.{byte_at, taken, policy_cost}
use Rattle.model.specs.Recursion.{action_cost, cost_to_go}
use Rattle.laws.specs.Members.{In, AtNexts, nexts_at, every_both, true-T, is_in_in, in_is_in}
use Rattle.accepted.specs.Options.{Option}
use Rattle.accepted.specs.Shape.{shape, togo_start}
use Rattle.accepted.specs.Demands.{reached, start_reached, nexts-reached, policy-bytes, other_byte, to_go_most, cost_recursion}
use Rattle.costs.specs.Terms.{value_at, most, Bounded}
use Rattle.costs.proofs.ToGo.{policy_step, by_array}

-- the state is reached, and its cost-to-go
abbrev pub Reached : Words → Policy → ℕ → Type 0
Reached ws bs q = In q (reached ws bs)

abbrev pub value : Words → Policy → ℕ → ℤ
value ws bs q = cost_to_go (scale ws) (taken ws bs) (togo ws q) q

-- the array has those of the states reached from p on
abbrev pub Has : Words → Policy → ℕ → List ℤ → Type 0
Has ws bs p v = (q : ℕ) → p ≤ q → Reached ws bs q → value_at v q ≡ value ws bs q

module _ (ws : Words) (ok : book_number ws ≡ 0) (bs : Policy) (t : T (is_policy ws bs)) where
  module _ (p : ℕ) (l : p < state_count ws) where
    -- the byte says whether the state is reached
    is_reached : (byte_at bs p ≡ 255 → ⊥) → Reached ws bs p
    is_reached n = go (is_in p (reached ws bs)) refl
      where
        go : (c : Bool) → is_in p (reached ws bs) ≡ c → Reached ws bs p
        go true e = is_in_in p (reached ws bs) (true-T e)
        go false e = absurd (n (((policy-bytes ws ok bs).0 t).at_other p l (λ i. subst T e (in_is_in p (reached ws bs) i))))

    pub not-reached : byte_at bs p ≡ 255 → Reached ws bs p → ⊥
    not-reached e i = other_byte ws ok p l (subst (Option ws p) e (((policy-bytes ws ok bs).0 t).at_reached p l i))

    pub acts : (byte_at bs p ≡ 255 → ⊥) → Option ws p (byte_at bs p)
    acts n = ((policy-bytes ws ok bs).0 t).at_reached p l (is_reached n)

    nexts_are : (byte_at bs p ≡ 255 → ⊥) → AtNexts (Reached ws bs) (action ws p (byte_at bs p)).transitions
    unfolding taken
    nexts_are n = nexts_at (Reached ws bs) (action ws p (byte_at bs p)).transitions (λ q j. nexts-reached ws ok bs t p q (is_reached n) j)

    module _ (v : List ℤ) (h : Has ws bs (p + 1) v) where
      pub bounded : (byte_at bs p ≡ 255 → ⊥) → Bounded ws p (byte_at bs p) v
      unfolding most
      bounded n =
          every_both {P = λ (s : Transition). p < s.next} {Q = λ (s : Transition). Reached ws bs s.next}
          (λ s k i. rw (h s.next (omega arith) i) (to_go_most ws ok bs t (togo ws s.next) s.next))
          (action ws p (byte_at bs p)).transitions ((shape ws ok).later p (byte_at bs p)) (nexts_are n)

      -- the cost-to-go by that of the next states
      pub step : (byte_at bs p ≡ 255 → ⊥) → action_cost (scale ws) (togo ws p) (value_at v) (action ws p (byte_at bs p)) ≡ value ws bs p
      unfolding taken
      step n = by_array ws ok (Reached ws bs) (value ws bs) p (byte_at bs p) v (nexts_are n) h ∙ sym (policy_step ws ok bs p)

      -- a state that is not reached needs none
      pub skip : byte_at bs p ≡ 255 → Has ws bs p v
      skip e q a i = go (eq-or-lt_of_le a)
        where
          go : (p ≡ q) ⊎ (p < q) → value_at v q ≡ value ws bs q
          go (inl k) = absurd (not-reached e (subst (Reached ws bs) (sym k) i))
          go (inr k) = h q (omega arith) i

  -- that of state 0 is the cost
  pub whole : (v : List ℤ) → Has ws bs 0 v → value_at v 0 ≡ policy_cost ws bs
  whole v h = h 0 (omega arith) (start_reached ws ok bs) ∙ rw (togo_start ws ok) (sym (cost_recursion ws ok bs t))
