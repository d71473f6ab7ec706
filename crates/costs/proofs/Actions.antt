-- The cost of an action with what is expected after it stays within the bound of question 13.
-- Assumes nothing.
use mathlib.Core.Path.{◌≡◌, refl, subst}
use mathlib.Core.Logic.{◌⊎◌}
use mathlib.Core.List.{List, [], ◌∷◌}
use Prim.Native.Nat.{ℕ, zero, suc, ◌+◌, ◌*◌, ◌^◌, ◌≤◌}
use native.Mathlib.Nat.{pow-suc, le_trans, mul-le-mul_left, mul-le-mul_right}
use native.Mathlib.Omega.{arith}
use lib.IntN.{ℤ, nat_abs}
use Rattle.model.specs.Model.{Words, scale, togo}
use Rattle.model.specs.Model.{Transition, weights_of, action}
use Rattle.model.specs.Questions.{largest_cost, book_number}
use Rattle.laws.specs.Members.{AtNexts, every_both}
use Rattle.accepted.specs.Options.{Option}
use Rattle.accepted.specs.Shape.{shape, weights_bound, cost_bound}
use Rattle.accepted.specs.Demands.{most-fits}
use Rattle.costs.specs.Terms.{abs_expected, most}

-- a sum of weighted costs without their signs, by a bound of the costs
abs_bound : (v : ℕ → ℤ) (B : ℕ) (ts : List Transition) → AtNexts (λ q. nat_abs (v q) ≤ B) ts → abs_expected v ts ≤ weights_of ts * B
abs_bound v B [] h = omega arith
abs_bound v B (t ∷ ts) h = omega (arith, mul-le-mul_left t.weight h.0, abs_bound v B ts h.1)

-- no transition: nothing is expected
abs_none : (v : ℕ → ℤ) (ts : List Transition) → AtNexts (λ q. ⊥) ts → abs_expected v ts ≡ 0
abs_none v [] h = refl
abs_none v (t ∷ ts) h = absurd h.0

module _ (ws : Words) (ok : book_number ws ≡ 0) (p c : ℕ) where
  abbrev ts : List Transition
  ts = (action ws p c).transitions

  abbrev D : ℕ
  D = scale ws

  abbrev C : ℕ
  C = largest_cost ws

  nexts : (v : ℕ → ℤ) → AtNexts (λ q. nat_abs (v q) ≤ most ws q) ts → (m : ℕ) → togo ws p ≡ suc m → AtNexts (λ q. nat_abs (v q) ≤ D ^ m * (m + 1) * C) ts
  unfolding most
  nexts v h m e =
      every_both {P = λ t. togo ws p ≡ suc (togo ws t.next)} {Q = λ t. nat_abs (v t.next) ≤ most ws t.next}
      (λ t s b. subst (λ (k : ℕ). nat_abs (v t.next) ≤ D ^ k * (k + 1) * C) (omega arith) b) ts ((shape ws ok).step p c) h

  pub within_most : (v : ℕ → ℤ) → (c ≡ 255) ⊎ Option ws p c → AtNexts (λ q. nat_abs (v q) ≤ most ws q) ts
      → D ^ togo ws p * nat_abs (action ws p c).cost + abs_expected v ts ≤ most ws p
  unfolding most
  within_most v o h = go (togo ws p) refl
    where
      go : (m : ℕ) → togo ws p ≡ m → D ^ togo ws p * nat_abs (action ws p c).cost + abs_expected v ts ≤ D ^ togo ws p * (togo ws p + 1) * C
      go zero e =
          let none : abs_expected v ts ≡ 0
          = abs_none v ts (every_both {P = λ t. togo ws p ≡ suc (togo ws t.next)} {Q = λ t. togo ws p ≡ suc (togo ws t.next)} (λ t a b. omega arith) ts ((shape ws ok).step p c) ((shape ws ok).step p c)) in
          rw (none, e) (omega (arith, mul-le-mul_left (D ^ 0) (cost_bound ws ok p c o)))
      go (suc m) e =
          let expect : abs_expected v ts ≤ D * (D ^ m * (m + 1) * C)
          = le_trans (abs_bound v (D ^ m * (m + 1) * C) ts (nexts v h m e)) (mul-le-mul_right (D ^ m * (m + 1) * C) (weights_bound ws ok p c)) in
          rw (e, pow-suc D m) (omega (arith, expect, mul-le-mul_left (D ^ m * D) (cost_bound ws ok p c o)))

  pub most_small_lem : (q : ℕ) → most ws q ≤ 4000000000000000000
  unfolding most togo
  most_small_lem q = most-fits ws ok (togo ws q) (omega arith)
