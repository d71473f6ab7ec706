-- How large a cost-to-go can be: with costs of at most C without their sign and weights that add to at most D for each action, at most
-- D^m × (m + 1) × C, where m stages are still to come.
-- Assumes nothing.
use Rattle.std.specs.Prelude.{◌≡◌, ◌⊎◌, List, [], ◌∷◌, ℕ, zero, suc, ◌+◌, ◌*◌, ◌^◌, ◌≤◌, ℤ, pos, nat_abs, ◌+ℤ◌, ◌*ℤ◌}
use Rattle.std.proofs.Common.{le_trans, add-le-add, mul-le-mul_left, mul-le-mul_right, pow-suc, arith}
use Rattle.std.proofs.Math.Nat.{pow-zero}
use Rattle.model.specs.Model.{Transition, Action, weights_of}
use Rattle.model.specs.Recursion.{expected, action_cost, cost_to_go, best_of, through, least_to_go}
use Rattle.laws.specs.Int.{abs_add, abs_mul}
use Rattle.laws.specs.Members.{In}
use Rattle.laws.specs.Best.{best_cases}

-- a weight times an integer, and such a product with another integer added
weighted : (w : ℕ) (z : ℤ) (B : ℕ) → nat_abs z ≤ B → nat_abs (pos w *ℤ z) ≤ w * B
weighted w z B h = rw (abs_mul (pos w) z) (mul-le-mul_left w h)

weighted_sum : (w : ℕ) (z r : ℤ) (B R : ℕ) → nat_abs z ≤ B → nat_abs r ≤ R → nat_abs (pos w *ℤ z +ℤ r) ≤ w * B + R
weighted_sum w z r B R h k = le_trans (abs_add (pos w *ℤ z) r) (add-le-add (weighted w z B h) k)

-- what is expected of transitions is at most the sum of their weights times a bound of v
expected_bound : (v : ℕ → ℤ) (B : ℕ) → ((q : ℕ) → nat_abs (v q) ≤ B) → (ts : List Transition) → nat_abs (expected v ts) ≤ weights_of ts * B
expected_bound v B h [] = omega arith
expected_bound v B h (t ∷ ts) =
    omega (arith, weighted_sum t.weight (v t.next) (expected v ts) B (weights_of ts * B) (h t.next) (expected_bound v B h ts))

module _ (D C : ℕ) where
  -- the bound with m stages still to come
  abbrev most : ℕ → ℕ
  most m = D ^ m * (m + 1) * C

  most-zero : C ≡ most 0
  most-zero = rw (pow-zero D) (omega arith)

  most-suc : (m : ℕ) → D ^ suc m * C + D * most m ≡ most (suc m)
  most-suc m = rw (pow-suc D m) (omega arith)

  -- of an action, by a bound of v at the states one stage on
  action_bound : (m : ℕ) (v : ℕ → ℤ) (a : Action) → ((q : ℕ) → nat_abs (v q) ≤ D ^ m * (m + 1) * C)
      → nat_abs a.cost ≤ C → weights_of a.transitions ≤ D → nat_abs (action_cost D (suc m) v a) ≤ D ^ suc m * (suc m + 1) * C
  action_bound m v a h c w =
      rw (← most-suc m) (weighted_sum (D ^ suc m) a.cost (expected v a.transitions) C (D * most m) c
      (le_trans (expected_bound v (most m) h a.transitions) (mul-le-mul_right (most m) w)))

  -- of the cost-to-go of the actions taken
  pub to_go_bound : (taken : ℕ → Action) → ((p : ℕ) → nat_abs (taken p).cost ≤ C) → ((p : ℕ) → weights_of (taken p).transitions ≤ D)
      → (m p : ℕ) → nat_abs (cost_to_go D taken m p) ≤ D ^ m * (m + 1) * C
  to_go_bound taken c w zero p = rw (← most-zero) (c p)
  to_go_bound taken c w (suc m) p = action_bound m (cost_to_go D taken m) (taken p) (to_go_bound taken c w m) (c p) (w p)

  module _ (act : ℕ → ℕ → Action) (opts : ℕ → List ℕ) where
    -- an action of the list, or none
    abbrev pub Taken : ℕ → ℕ → Type 0
    Taken p a = (a ≡ 255) ⊎ In a (opts p)

    module _ (c : (p a : ℕ) → Taken p a → nat_abs (act p a).cost ≤ C) (w : (p a : ℕ) → weights_of (act p a).transitions ≤ D) where
      -- of taking action a at state p and a best action ever after
      pub through_bound : (m p a : ℕ) → Taken p a → nat_abs (through D act opts m p a) ≤ D ^ m * (m + 1) * C
      through_bound zero p a t = rw (← most-zero) (c p a t)
      through_bound (suc m) p a t =
          action_bound m (least_to_go D act opts m) (act p a)
          (λ q. through_bound m q (best_of (through D act opts m q) (opts q)) (best_cases (through D act opts m q) (opts q))) (c p a t) (w p a)

      -- of the least cost-to-go
      pub least_bound : (m p : ℕ) → nat_abs (least_to_go D act opts m p) ≤ D ^ m * (m + 1) * C
      least_bound m p = through_bound m p (best_of (through D act opts m p) (opts p)) (best_cases (through D act opts m p) (opts p))
