-- The cost-to-go of a state by those of its next states: it depends on those alone, and with no stage to come there are none.
-- Assumes nothing.
use Rattle.std.specs.Prelude.{◌≡◌, refl, List, [], ◌∷◌, ℕ, zero, suc, ◌^◌, ◌≤◌, ◌<◌, ℤ, pos, ◌+ℤ◌, ◌*ℤ◌}
use Rattle.std.proofs.Common.{ap, ap₂, ◌∙◌, arith}
use Rattle.std.proofs.Math.Path.{fun_ext}
use Rattle.std.proofs.Math.Nat.{pow-zero}
use Rattle.model.specs.Model.{Transition, Action}
use Rattle.model.specs.Recursion.{expected, action_cost, best_of, through, least_to_go}
use Rattle.laws.specs.Int.{is, dif_eq, ring}
use Rattle.laws.specs.Members.{every_imp, AtNexts}

pub expected-same : (v u : ℕ → ℤ) (ts : List Transition) → AtNexts (λ q. v q ≡ u q) ts → expected v ts ≡ expected u ts
expected-same v u [] h = refl
expected-same v u (t ∷ ts) h = ap₂ (λ (x y : ℤ). pos t.weight *ℤ x +ℤ y) h.0 (expected-same v u ts h.1)

pub expected-none : (v : ℕ → ℤ) (togo : ℕ → ℕ) (ts : List Transition) → AtNexts (λ q. 0 ≡ suc (togo q)) ts → expected v ts ≡ pos 0
expected-none v togo [] h = refl
expected-none v togo (t ∷ ts) h = absurd (omega arith)

-- a figure x of action a at state p, by figures u of the states one stage on, at the stages that p and its next states have to come
pub by_stage : (D : ℕ) (togo : ℕ → ℕ) (u : ℕ → ℕ → ℤ) (p : ℕ) (a : Action) → AtNexts (λ q. togo p ≡ suc (togo q)) a.transitions
    → (x : ℕ → ℤ) → x 0 ≡ a.cost → ((m : ℕ) → x (suc m) ≡ action_cost D (suc m) (u m) a)
    → x (togo p) ≡ action_cost D (togo p) (λ q. u (togo q) q) a
by_stage D togo u p a step x first more = go (togo p) step
  where
    v : ℕ → ℤ
    v q = u (togo q) q

    last : (c : ℤ) → c ≡ pos 1 *ℤ c +ℤ pos 0
    last c = rw (is c) (simp ring (dif_eq _ _ _ _ (omega arith)))

    one_on : (m q : ℕ) → m ≡ togo q → u m q ≡ v q
    one_on m q e = ap (λ (i : ℕ). u i q) e

    go : (m : ℕ) → AtNexts (λ q. m ≡ suc (togo q)) a.transitions → x m ≡ action_cost D m v a
    go zero h = first ∙ rw (pow-zero D, expected-none v togo a.transitions h) (last a.cost)
    go (suc m) h =
        more m
        ∙ ap (λ (z : ℤ). pos (D ^ suc m) *ℤ a.cost +ℤ z)
        (expected-same (u m) v a.transitions (every_imp (λ t e. one_on m t.next (omega arith)) a.transitions h))

-- ---- lists of actions that are the same after state r

module _ (D : ℕ) (act : ℕ → ℕ → Action) (later : (p c : ℕ) → AtNexts (λ q. p < q) (act p c).transitions)
    (os all : ℕ → List ℕ) (r : ℕ) (after : (s : ℕ) → r < s → os s ≡ all s) where
  least_from : (m q : ℕ) → r < q → through D act os m q ≡ through D act all m q → least_to_go D act os m q ≡ least_to_go D act all m q
  least_from m q l e = ap₂ (λ (g : ℕ → ℤ) (xs : List ℕ). g (best_of g xs)) e (after q l)

  -- the cost of an action at r or after it, with best actions ever after
  pub through_same : (m q : ℕ) → r ≤ q → through D act os m q ≡ through D act all m q
  through_same zero q l = refl
  through_same (suc m) q l =
      fun_ext (λ c. ap (λ (z : ℤ). pos (D ^ suc m) *ℤ (act q c).cost +ℤ z)
      (expected-same (least_to_go D act os m) (least_to_go D act all m) (act q c).transitions
      (every_imp (λ t k. least_from m t.next (omega arith) (through_same m t.next (omega arith))) (act q c).transitions (later q c))))

  -- the least cost-to-go after r
  pub least-same : (m q : ℕ) → r < q → least_to_go D act os m q ≡ least_to_go D act all m q
  least-same m q l = least_from m q l (through_same m q (omega arith))
