-- One entry more of the table of next states, and one state more.
-- Assumes nothing.
use mathlib.Core.Path.{◌≡◌, sym, ◌∙◌, subst}
use mathlib.Core.Logic.{◌⊎◌, inl, inr}
use mathlib.Core.List.{List}
use Prim.Native.Nat.{ℕ, ◌+◌, ◌*◌, ◌≤◌, ◌<◌}
use native.Mathlib.Nat.{eq-or-lt_of_le}
use native.Mathlib.Omega.{arith}
use lib.ListN.{get_or, set, length-set}
use lib.Seq.{get_or-set_same, get_or-set_other}
use Rattle.model.specs.Model.{Words, action_count, action}
use Rattle.model.specs.Policy.{nexts}
use Rattle.accepted.specs.Options.{Feasible, option_below, to_option}
use Rattle.sets.specs.Sets.{SetOf}
use Rattle.nexts.specs.Nexts.{NextsTo}

module _ (ws : Words) where
  -- action m of state n is none that a policy can take
  pub one_skipped : (n m : ℕ) (t : List ℕ) → NextsTo ws n m t → (Feasible ws n m → ⊥) → NextsTo ws n (m + 1) t
  one_skipped n m t f never = record { long = f.long; before = f.before; row = λ c h k. go c k (eq-or-lt_of_le (le c h)) }
    where
      le : (c : ℕ) → c < m + 1 → c ≤ m
      le c h = omega arith

      go : (c : ℕ) → Feasible ws n c → (c ≡ m) ⊎ (c < m) → SetOf (get_or t (8 * n + c) 0) (nexts (action ws n c).transitions)
      go c k (inl e) = absurd (never (subst (Feasible ws n) e k))
      go c k (inr l) = f.row c l k

  -- action m of state n
  pub one_more : (n m : ℕ) (t : List ℕ) (y : ℕ) → n < 64 → m < 8 → ((p c : ℕ) → p < n → Feasible ws p c → c < 8) → NextsTo ws n m t
      → SetOf y (nexts (action ws n m).transitions) → NextsTo ws n (m + 1) (set t (8 * n + m) y)
  one_more n m t y hn hm few f s = record {
    long = length-set t (8 * n + m) y ∙ f.long;
    before = λ p c h k.
        subst (λ (z : ℕ). SetOf z (nexts (action ws p c).transitions))
        (sym (get_or-set_other t (8 * n + m) (8 * p + c) y 0 (λ e. absurd (apart p c h k e)))) (f.before p c h k);
    row = λ c h k. row c k (eq-or-lt_of_le (le c h));
  }
    where
      apart : (p c : ℕ) → p < n → Feasible ws p c → 8 * p + c ≡ 8 * n + m → ⊥
      apart p c h k e = omega (arith, few p c h k)

      le : (c : ℕ) → c < m + 1 → c ≤ m
      le c h = omega arith

      row : (c : ℕ) → Feasible ws n c → (c ≡ m) ⊎ (c < m) → SetOf (get_or (set t (8 * n + m) y) (8 * n + c) 0) (nexts (action ws n c).transitions)
      row c i (inl k) =
          rw k (subst (λ (z : ℕ). SetOf z (nexts (action ws n m).transitions)) (sym (get_or-set_same t (8 * n + m) y 0 (omega (arith, f.long)))) s)
      row c i (inr l) =
          subst (λ (z : ℕ). SetOf z (nexts (action ws n c).transitions))
          (sym (get_or-set_other t (8 * n + m) (8 * n + c) y 0 (λ e. absurd (omega arith)))) (f.row c l i)

  -- state n has all its entries
  pub state_more : (n : ℕ) (t : List ℕ) → NextsTo ws n (action_count ws n) t → NextsTo ws (n + 1) 0 t
  state_more n t f = record { long = f.long; before = λ p c h k. go p c (eq-or-lt_of_le (le p h)) k; row = λ c h k. absurd (omega arith) }
    where
      le : (p : ℕ) → p < n + 1 → p ≤ n
      le p h = omega arith

      go : (p c : ℕ) → (p ≡ n) ⊎ (p < n) → Feasible ws p c → SetOf (get_or t (8 * p + c) 0) (nexts (action ws p c).transitions)
      go p c (inl e) k =
          let i : Feasible ws n c = subst (λ (q : ℕ). Feasible ws q c) e k in
          rw e (f.row c (option_below ws n (to_option ws n c i)) i)
      go p c (inr l) k = f.before p c l k
