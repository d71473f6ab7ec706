-- The first policies of a model in the order of their bytes, and the first k of these by cost.
-- Assumes nothing.
use Rattle.std.specs.Prelude.{◌≡◌, Bool, not, ◌&&◌, ℕ, zero, suc, ◌+◌, ◌≤◌, T, ltb, ℤ, pos, ◌≤ℤ◌, get_or}
use Rattle.std.proofs.Math.Path.{refl, ap, ap₂}
use Rattle.std.proofs.Common.{sym, ◌∙◌, subst, suc-add, arith, ltb-true, ltb-false, length-take, take_all, take_at}
use Rattle.std.proofs.Math.Bool.{true, false, cond}
use mathlib.Core.List.{List, [], ◌∷◌, ◌++◌, map}
use Rattle.std.proofs.Math.Option.{some}
use Rattle.std.specs.Int.Signed.{lt_z, ≤ℤ_refl}
use Rattle.std.proofs.Math.ListN.{length, get_elem?, take, length-map}
use Rattle.std.proofs.Math.Seq.{take-nil}
use Rattle.model.specs.Lists.{first_where, sorted}
use Rattle.model.specs.Model.{Words}
use Rattle.model.specs.Questions.{book_number}
use Rattle.model.specs.Policy.{Policy, is_policy, policies}
use Rattle.model.specs.Path.{policy_cost}
use Rattle.model.specs.Order.{lower, comes_before, ranking}
use Rattle.laws.specs.Members.{In, Every, every_in, in_every, true-T}
use Rattle.laws.specs.Sorting.{Rises, Total, in_take, apart_take, in_sorted, at_in, listed_after}
use Rattle.laws.specs.Entries.{some_at, get_d_at, map_at}
use Rattle.laws.specs.Ascent.{bytes_strict}
use Rattle.laws.specs.Order.{before-cost}
use Rattle.accepted.specs.Demands.{policies_are, policies_ascend, policies_once, order_strict, order_total, order_decided, policy-bytes}
use Rattle.best_kept.specs.Placed.{Ascends}
use Rattle.best_kept.specs.Insertion.{insert_at, Ordered, first_more}
use Rattle.best_kept.specs.Holding.{Holds}

-- the first k of the first j policies
unfoldable pub best_of_first : Words → ℕ → ℕ → List Policy
best_of_first ws k j = take k (sorted (comes_before ws) (take j (policies ws)))

-- they stand in the slices
abbrev pub Through : Words → ℕ → ℕ → ℕ → List ℤ → List ℤ → List ℕ → List ℕ → Type 0
Through ws k j n costs₀ costs plans₀ plans = Holds (policy_cost ws) (best_of_first ws k j) n costs₀ costs plans₀ plans

-- ---- lists

module _ {A : Type 0} where
  take_more : (xs : List A) (j : ℕ) (x : A) → get_elem? xs j ≡ some x → take (j + 1) xs ≡ take j xs ++ (x ∷ [])
  take_more [] j x e = let z : ◌≡◌ {A = ℕ} 0 1 = cc in absurd (omega arith)
  take_more (y ∷ ys) zero x e = let q : y ≡ x = cc in rw q
  take_more (y ∷ ys) (suc j) x e = rw suc-add (ap (λ (l : List A). y ∷ l) (take_more ys j x e))

  -- in a list that rises, what stands before an entry is before it
  rises_before : (lt : A → A → Bool) (xs : List A) → Rises lt xs → (j : ℕ) (x : A) → get_elem? xs j ≡ some x → Every (λ a. T (lt a x)) (take j xs)
  rises_before lt [] r j x e = let z : ◌≡◌ {A = ℕ} 0 1 = cc in absurd (omega arith)
  rises_before lt (y ∷ ys) r zero x e = tt
  rises_before lt (y ∷ ys) r (suc j) x e = (every_in (λ z. T (lt y z)) ys r.0 x (at_in ys j x e), rises_before lt ys r.1 j x e)

-- ---- one policy more

module _ (ws : Words) (x : Policy) where
  -- among policies with lower bytes the cost alone says which it comes before
  where_cost : (ps : List Policy) → Every (λ p. lower x p ≡ false) ps
      → first_where (comes_before ws x) ps ≡ first_where (lt_z (policy_cost ws x)) (map (policy_cost ws) ps)
  unfolding comes_before
  where_cost [] h = refl
  where_cost (p ∷ ps) h =
      ap₂ (λ (t : Bool) (n : ℕ). cond t 0 (suc n)) (test (lt_z (policy_cost ws x) (policy_cost ws p)) refl) (where_cost ps h.1)
    where
      never : (t : Bool) → (not t && false) ≡ false
      never true = refl
      never false = refl

      test : (t : Bool) → lt_z (policy_cost ws x) (policy_cost ws p) ≡ t → comes_before ws x p ≡ lt_z (policy_cost ws x) (policy_cost ws p)
      test true e = rw e
      test false e = rw (e, h.0) (never (lt_z (policy_cost ws p) (policy_cost ws x)))

module _ (ws : Words) (ok : book_number ws ≡ 0) (k j : ℕ) where
  abbrev first : List Policy
  first = take j (policies ws)

  abbrev best : List Policy
  best = best_of_first ws k j

  of_first : (p : Policy) → In p best → In p first
  unfolding best_of_first
  of_first p i = in_sorted (comes_before ws) p first (in_take k p (sorted (comes_before ws) first) i)

  -- each is a policy
  are_policies : (p : Policy) → In p best → T (is_policy ws p)
  are_policies p i = (policies_are ws ok p).0 (in_take j p (policies ws) (of_first p i))

  -- their costs ascend
  pub best_ascends : Ascends (map (policy_cost ws) best)
  unfolding best_of_first comes_before
  best_ascends a b l h = go (some_at best a (omega (arith, long))) (some_at best b (omega (arith, long))) (ltb a b) refl
    where
      long : length (map (policy_cost ws) best) ≡ length best
      long = length-map best (policy_cost ws)

      value : (n : ℕ) (p : Policy) → get_elem? best n ≡ some p → get_or (map (policy_cost ws) best) n (pos 0) ≡ policy_cost ws p
      value n p e = get_d_at (map (policy_cost ws) best) n (pos 0) (policy_cost ws p) (map_at (policy_cost ws) best n p e)

      total : Total (comes_before ws) first
      total y z i m = order_decided ws ok y z (in_take j y (policies ws) i) (in_take j z (policies ws) m)

      go : (p : Policy) × (get_elem? best a ≡ some p) → (q : Policy) × (get_elem? best b ≡ some q) → (t : Bool) → ltb a b ≡ t
          → get_or (map (policy_cost ws) best) a (pos 0) ≤ℤ get_or (map (policy_cost ws) best) b (pos 0)
      go p q true e =
          rw (value a p.0 p.1, value b q.0 q.1)
          (before-cost (policy_cost ws) p.0 q.0
          (listed_after (comes_before ws) (order_strict ws ok) k first (apart_take j (policies ws) (policies_once ws ok)) total a b p.0 q.0
          (ltb-true a b e) p.1 q.1))
      go p q false e = let z : a ≡ b = omega (arith, ltb-false a b e) in rw z (≤ℤ_refl _)

  module _ (x : Policy) (at : get_elem? (policies ws) j ≡ some x) where
    is : T (is_policy ws x)
    is = (policies_are ws ok x).0 (at_in (policies ws) j x at)

    lower-bytes : Every (λ p. T (lower p x)) first
    lower-bytes = rises_before lower (policies ws) (policies_ascend ws ok) j x at

    -- bytes that are lower are not higher
    not_higher : (p : Policy) → T (lower p x) → lower x p ≡ false
    not_higher p h = go (lower x p) refl
      where
        go : (t : Bool) → lower x p ≡ t → lower x p ≡ false
        go true e = absurd (subst T (bytes_strict.irrefl x) (bytes_strict.trans x p x (true-T e) h))
        go false e = e

    ordered : Every (λ p. Ordered (comes_before ws) (order_strict ws ok) p x) first
    ordered =
        in_every _ first
        (λ p i. order_total ws ok p x ((policies_are ws ok p).0 (in_take j p (policies ws) i)) is
        (λ e. subst T (bytes_strict.irrefl x) (subst (λ (q : Policy). T (lower q x)) e (every_in _ first lower-bytes p i))))

    -- the first k with it
    pub best-more : best_of_first ws k (j + 1) ≡ take k (insert_at (first_where (lt_z (policy_cost ws x)) (map (policy_cost ws) best)) x best)
    unfolding best_of_first
    best-more =
        ap (λ (ps : List Policy). take k (sorted (comes_before ws) ps)) (take_more (policies ws) j x at)
        ∙ first_more (comes_before ws) (order_strict ws ok) k first x ordered
        ∙ ap (λ (n : ℕ). take k (insert_at n x best))
        (where_cost ws x best (in_every _ best (λ p i. not_higher p (every_in _ first lower-bytes p (of_first p i)))))

    -- all have the same number of bytes
    pub best_wide : Every (λ (p : Policy). length p ≡ length x) best
    best_wide =
        in_every _ best
        (λ p i. ((policy-bytes ws ok p).0 (are_policies p i)).long ∙ sym ((policy-bytes ws ok x).0 is).long)

-- none at first, and the list at the end
pub best_none : (ws : Words) (k : ℕ) → best_of_first ws k 0 ≡ []
unfolding best_of_first
best_none ws k = take-nil k

pub best-all : (ws : Words) (k j : ℕ) → length (policies ws) ≤ j → best_of_first ws k j ≡ ranking ws k
unfolding best_of_first ranking
best-all ws k j l = ap (λ (ps : List Policy). take k (sorted (comes_before ws) ps)) (take_all j (policies ws) l)

-- as many as asked for, at most
pub best_few : (ws : Words) (k j : ℕ) → length (best_of_first ws k j) ≤ k
unfolding best_of_first
best_few ws k j = omega (arith, length-take k (sorted (comes_before ws) (take j (policies ws))))

-- the costs in the slice ascend
pub held_ascends : (ws : Words) → book_number ws ≡ 0 → (k j n : ℕ) (costs₀ costs : List ℤ) (plans₀ plans : List ℕ)
    → Holds (policy_cost ws) (best_of_first ws k j) n costs₀ costs plans₀ plans → Ascends (take n costs)
held_ascends ws ok k j n costs₀ costs plans₀ plans h =
    subst Ascends
    (sym (ap (take n) h.costs_are
    ∙ take_at (map (policy_cost ws) (best_of_first ws k j)) _ n (length-map (best_of_first ws k j) (policy_cost ws) ∙ sym h.count)))
    (best_ascends ws ok k j)
