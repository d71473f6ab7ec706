-- The rows of the table, filled one entry at a time and one state at a time.
-- Assumes nothing.
use mathlib.Core.Path.{◌≡◌, refl, sym, ap, ◌∙◌, subst}
use mathlib.Core.Logic.{◌⊎◌, inl, inr}
use mathlib.Core.List.{List}
use Prim.Native.Nat.{ℕ, ◌+◌, ◌*◌, ◌≤◌, ◌<◌}
use native.Mathlib.Nat.{eq-or-lt_of_le}
use native.Mathlib.Omega.{arith}
use lib.IntN.{ℤ, pos}
use lib.ListN.{length, set, length-set}
use lib.Seq.{get_or-set_same, get_or-set_other}
use Rattle.model.specs.Lists.{up_from}
use Rattle.model.specs.Model.{Words, scale, state_count, togo, action_count, action}
use Rattle.model.specs.Questions.{book_number}
use Rattle.model.specs.Recursion.{action_cost, best_of, through, least_to_go, feasible}
use Rattle.laws.specs.Members.{in_every}
use Rattle.laws.specs.Best.{best_in}
use Rattle.accepted.specs.Facts.{accepted}
use Rattle.accepted.specs.Options.{Feasible, Alive, option_below, to_option, feasible_small}
use Rattle.accepted.specs.Shape.{nexts_alive}
use Rattle.sets.specs.Sets.{free}
use Rattle.feasible.specs.Barred.{Leaves}
use Rattle.costs.specs.Terms.{value_at}
use Rattle.costs.proofs.ToGo.{through_step, by_array, holds_more}
use Rattle.table.specs.Table.{row_of, FilledTo, Filled, TableFrom}
use Rattle.table.proofs.Better.{best-same}

pub filled_none : (ws : Words) (p : ℕ) (v q : List ℤ) → length q ≡ 512 → FilledTo ws p 0 v q q
filled_none ws p v q l = record { long = l; row = λ c h i. absurd (omega arith); other = λ s c n h. refl }

-- one entry more
pub filled_more : (ws : Words) (p n : ℕ) (v q r : List ℤ) (y : ℤ) → p < 64 → n < 8 → FilledTo ws p n v q r
    → y ≡ action_cost (scale ws) (togo ws p) (value_at v) (action ws p n) → FilledTo ws p (n + 1) v q (set r (8 * p + n) y)
filled_more ws p n v q r y hp hn f e =
    record {
      long = length-set r (8 * p + n) y ∙ f.long;
      row = λ c h i. row c i (eq-or-lt_of_le (le c h));
      other = λ s c d h. get_or-set_other r (8 * p + n) (8 * s + c) y (pos 0) (λ k. absurd (d (same s c h k))) ∙ f.other s c d h;
    }
  where
    le : (c : ℕ) → c < n + 1 → c ≤ n
    le c h = omega arith

    same : (s c : ℕ) → c < 8 → 8 * s + c ≡ 8 * p + n → s ≡ p
    same s c h k = omega arith

    row : (c : ℕ) → Feasible ws p c → (c ≡ n) ⊎ (c < n) → row_of (set r (8 * p + n) y) p c ≡ action_cost (scale ws) (togo ws p) (value_at v) (action ws p c)
    row c i (inl k) =
        ap (row_of (set r (8 * p + n) y) p) k ∙ get_or-set_same r (8 * p + n) y (pos 0) (omega (arith, f.long)) ∙ e
        ∙ ap (λ (d : ℕ). action_cost (scale ws) (togo ws p) (value_at v) (action ws p d)) (sym k)
    row c i (inr l) = get_or-set_other r (8 * p + n) (8 * p + c) y (pos 0) (λ k. absurd (omega arith)) ∙ f.row c l i

-- one action more that no policy can take
pub filled_skip : (ws : Words) (p n : ℕ) (v q r : List ℤ) → FilledTo ws p n v q r → (Feasible ws p n → ⊥) → FilledTo ws p (n + 1) v q r
filled_skip ws p n v q r f never =
    record { long = f.long; row = λ c h i. row c i (eq-or-lt_of_le (le c h)); other = f.other }
  where
    le : (c : ℕ) → c < n + 1 → c ≤ n
    le c h = omega arith

    row : (c : ℕ) → Feasible ws p c → (c ≡ n) ⊎ (c < n) → row_of r p c ≡ action_cost (scale ws) (togo ws p) (value_at v) (action ws p c)
    row c i (inl k) = absurd (never (subst (Feasible ws p) k i))
    row c i (inr l) = f.row c l i

-- ---- one state more

module _ (ws : Words) (ok : book_number ws ≡ 0) (p : ℕ) (hp : p < state_count ws) (q v r : List ℤ) (t : TableFrom ws (p + 1) q v)
    (f : Filled ws p v q r) where
  abbrev least : ℕ → ℤ
  least s = least_to_go (scale ws) (action ws) (feasible ws) (togo ws s) s

  abbrev cost : ℕ → ℕ → ℤ
  cost s = through (scale ws) (action ws) (feasible ws) (togo ws s) s

  -- the row has the costs of the state's feasible actions
  row_is : (c : ℕ) → Feasible ws p c → row_of r p c ≡ cost p c
  row_is c i =
      f.row c (option_below ws p (to_option ws p c i)) i
      ∙ by_array ws ok (Alive ws) least p c v (nexts_alive ws ok p c i) (λ s a b. t.least_is s a b)
      ∙ sym (through_step ws ok p c)

  module _ (off best : ℕ) (lv : Leaves ws p off) (b : best ≡ best_of (row_of r p) (free off (up_from 0 (action_count ws p)))) where
    best_is : best ≡ best_of (cost p) (feasible ws p)
    best_is =
        b ∙ ap (best_of (row_of r p)) lv
        ∙ best-same (row_of r p) (cost p) (feasible ws p) (in_every (λ c. row_of r p c ≡ cost p c) (feasible ws p) row_is)

    best-feasible : Alive ws p → Feasible ws p best
    best-feasible a = subst (Feasible ws p) (sym best_is) (best_in (cost p) (feasible ws p) a.some.0 a.some.1)

    -- its best entry is the least cost-to-go
    pub row-least : Alive ws p → row_of r p best ≡ least p
    row-least a = row_is best (best-feasible a) ∙ ap (cost p) best_is

    -- and there is one where a policy goes on
    pub row_some : Alive ws p → best < 8
    row_some a = feasible_small ws ok p hp (best-feasible a)

  row : (s c : ℕ) → (p ≡ s) ⊎ (p < s) → s < state_count ws → Feasible ws s c → row_of r s c ≡ cost s c
  row s c (inl k) b i = subst (λ (n : ℕ). Feasible ws n c → row_of r n c ≡ cost n c) k (row_is c) i
  row s c (inr k) b i = f.other s c (λ z. omega arith) (feasible_small ws ok s b i) ∙ t.through_is s c (omega arith) b i

  pub table_more : (y : ℤ) → (Alive ws p → y ≡ least p) → TableFrom ws p r (set v p y)
  table_more y e =
      record {
        rows = f.long;
        long = length-set v p y ∙ t.long;
        through_is = λ s c a b i. row s c (eq-or-lt_of_le a) b i;
        least_is = holds_more ws ok (Alive ws) least p v y (omega (arith, t.long, (accepted ws ok).sizes.s_high)) e (λ s a b. t.least_is s a b);
      }

  -- a state from which no policy goes on has no entry
  pub table_none : (Alive ws p → ⊥) → TableFrom ws p r v
  table_none never =
      record {
        rows = f.long;
        long = t.long;
        through_is = λ s c a b i. row s c (eq-or-lt_of_le a) b i;
        least_is = λ s a b. later s b (eq-or-lt_of_le a);
      }
    where
      later : (s : ℕ) → Alive ws s → (p ≡ s) ⊎ (p < s) → value_at v s ≡ least s
      later s b (inl k) = absurd (never (subst (Alive ws) (sym k) b))
      later s b (inr k) = t.least_is s (omega arith) b
