-- Reach weights. `taken` is the action at each state. The reach weight of a state is the sum, over all ways from state 0 to it, of the product of the
-- weights on the way. Next states are later states, so one pass through the states in order computes all reach weights. If the actions before state r
-- stay, and after r the cost-to-go stays at every state with a weight, a change of the cost-to-go of r changes that of state 0 by the reach weight of
-- r times as much.
-- Assumes nothing.
use Rattle.std.specs.Prelude.{◌≡◌, refl, Bool, true, false, cond, ◌⊎◌, ◌↔◌, ℕ, zero, suc, ◌+◌, ◌*◌, ◌-◌, ◌^◌, ◌≤◌, ◌<◌, eqb, ℤ, ◌+ℤ◌, ◌-ℤ◌, ◌*ℤ◌, ◌≤ℤ◌, take, drop}
use Rattle.std.proofs.Common.{sym, ap₂, ◌∙◌, subst, inr, eq-or-lt_of_le, add-zero, zero-add, add-suc, suc-add, mul-pos, mul-le-mul_right, pow-suc, arith, eqb-true, eq-eqb, ne_eqb}
use Rattle.std.proofs.Math.Path.{ap}
use Rattle.std.proofs.Math.Logic.{inl}
use mathlib.Core.List.{List, [], ◌∷◌}
use Rattle.std.proofs.Math.IntN.{pos, +ℤ_assoc, +ℤ_comm, -ℤ-+ℤ_cancel, zero-*ℤ}
use Rattle.std.specs.Int.Signed.{≤ℤ_refl}
use Rattle.model.specs.Lists.{is_in}
use Rattle.model.specs.Model.{Transition, Action, weights_of}
use Rattle.model.specs.Policy.{Policy, nexts, allowed, onward}
use Rattle.model.specs.Path.{byte_at}
use Rattle.model.specs.Recursion.{expected, action_cost, cost_to_go}
use Rattle.laws.specs.Int.{up, dn, is, dif_eq, ring, eq_in, le_in, le_out, ints, sum_is, scale_mono, ≤ℤ-trans}
use Rattle.laws.specs.Members.{true-T, In, in_one, in_++, ++-in, Every, every_imp, is_in_in, AtNexts}
use Rattle.laws.specs.ToGo.{expected-none, by_stage}
use Rattle.laws.specs.Policies.{IsPolicy, reached_from, reached_mono, Reads, reads}

-- ---- reach weights

-- x more at state q
unfoldable pub add_to : ℕ → ℕ → (ℕ → ℕ) → ℕ → ℕ
add_to q x W s = W s + cond (eqb s q) x 0

-- x more times its weight at the next state of each transition
unfoldable pub spread : ℕ → List Transition → (ℕ → ℕ) → ℕ → ℕ
spread x [] W s = W s
spread x (t ∷ ts) W s = spread x ts (add_to t.next (x * t.weight) W) s

-- the weights before the pass comes to state p: 1 at state 0 to begin with; then each state in turn adds to its next states
unfoldable pub weights_before : (ℕ → Action) → ℕ → ℕ → ℕ
weights_before taken zero s = add_to 0 1 (λ q. 0) s
weights_before taken (suc p) s = spread (weights_before taken p p) (taken p).transitions (weights_before taken p) s

-- the reach weight of state r by a policy
abbrev pub reach_weight : (ℕ → ℕ → Action) → Policy → ℕ → ℕ
reach_weight act bs r = weights_before (λ p. act p (byte_at bs p)) r r

add_at : (q x : ℕ) (W : ℕ → ℕ) → add_to q x W q ≡ W q + x
unfolding add_to
add_at q x W = rw (eq-eqb q q refl)

add_off : (q x : ℕ) (W : ℕ → ℕ) (s : ℕ) → (s ≡ q → ⊥) → add_to q x W s ≡ W s
unfolding add_to
add_off q x W s n = rw (ne_eqb s q n) (omega arith)

spread_off : (x : ℕ) (ts : List Transition) (W : ℕ → ℕ) (s : ℕ) → AtNexts (λ q. s ≡ q → ⊥) ts → spread x ts W s ≡ W s
unfolding spread
spread_off x [] W s h = refl
spread_off x (t ∷ ts) W s h =
    spread_off x ts (add_to t.next (x * t.weight) W) s h.1 ∙ add_off t.next (x * t.weight) W s h.0

-- they depend only on the actions of the states before p
pub weights-same : (taken taken' : ℕ → Action) (p : ℕ) → ((q : ℕ) → q < p → taken' q ≡ taken q) → weights_before taken' p ≡ weights_before taken p
unfolding weights_before
weights-same taken taken' zero h = refl
weights-same taken taken' (suc p) h =
    ap₂ (λ (a : Action) (W : ℕ → ℕ). spread (W p) a.transitions W) (h p (omega arith)) (weights-same taken taken' p (λ q l. h q (omega arith)))

-- before the pass comes to state p, the weights of the states up to p are settled
pub weights_settled : (taken : ℕ → Action) → ((p : ℕ) → AtNexts (λ q. p < q) (taken p).transitions)
    → (p s : ℕ) → s ≤ p → weights_before taken p s ≡ weights_before taken s s
unfolding weights_before
weights_settled taken later zero s l = let e : s ≡ 0 = omega arith in rw e
weights_settled taken later (suc p) s l = go (eq-or-lt_of_le l) (λ k. weights_settled taken later p s k)
  where
    go : (s ≡ suc p) ⊎ (s < suc p) → (s ≤ p → weights_before taken p s ≡ weights_before taken s s)
        → weights_before taken (suc p) s ≡ weights_before taken s s
    go (inl e) ih = rw e
    go (inr k) ih =
        spread_off (weights_before taken p p) (taken p).transitions (weights_before taken p) s
        (every_imp (λ t m. let n : s ≡ t.next → ⊥ = omega arith in n) (taken p).transitions (later p))
        ∙ ih (omega arith)

-- ---- sums of integers

more_here : (w x : ℕ) (z t : ℤ) → pos (w + x) *ℤ z +ℤ t ≡ pos w *ℤ z +ℤ t +ℤ pos x *ℤ z
more_here w x z t = rw (is z, is t) (simp ring (dif_eq _ _ _ _ (omega arith)))

no_more : (x : ℕ) (t : ℤ) → t ≡ t +ℤ pos x *ℤ pos 0
no_more x t = rw (is t) (simp ring (dif_eq _ _ _ _ (omega arith)))

one_more : (x w : ℕ) (t z e : ℤ) → t +ℤ pos (x * w) *ℤ z +ℤ pos x *ℤ e ≡ t +ℤ pos x *ℤ (pos w *ℤ z +ℤ e)
one_more x w t z e = rw (is t, is z, is e) (simp ring (dif_eq _ _ _ _ (omega arith)))

once : (z : ℤ) → pos 0 +ℤ pos 1 *ℤ z ≡ z
once z = rw (is z) (simp ring (dif_eq _ _ _ _ (omega arith)))

moved : (a b c : ℤ) → a +ℤ b +ℤ c ≡ c +ℤ a +ℤ b
moved a b c = rw (is a, is b, is c) (simp ring (dif_eq _ _ _ _ (omega arith)))

cancel_out : (w : ℕ) (t u o e : ℤ) → t +ℤ pos w *ℤ (o +ℤ e) ≡ u +ℤ pos w *ℤ e → t +ℤ pos w *ℤ o ≡ u
cancel_out w t u o e h = linear (pos w *ℤ o) (pos w *ℤ e) (ap (λ (z : ℤ). t +ℤ z) (sym apart) ∙ h)
  where
    apart : pos w *ℤ (o +ℤ e) ≡ pos w *ℤ o +ℤ pos w *ℤ e
    apart = rw (is o, is e) (simp ring (dif_eq _ _ _ _ (omega arith)))

    linear : (y z : ℤ) → t +ℤ (y +ℤ z) ≡ u +ℤ z → t +ℤ y ≡ u
    linear y z k = eq_in (omega (arith, ap up k, ap dn k, sum_is t (y +ℤ z), sum_is y z, sum_is u z, sum_is t y))

cancel_both : (a b u x y : ℤ) → a +ℤ (u +ℤ y) ≡ b +ℤ (x +ℤ y) → a +ℤ u ≡ b +ℤ x
cancel_both a b u x y k =
    eq_in (omega (arith, ap up k, ap dn k, sum_is a (u +ℤ y), sum_is b (x +ℤ y), sum_is u y, sum_is x y, sum_is a u, sum_is b x))

by_difference : (w : ℕ) (a b x y : ℤ) → a +ℤ pos w *ℤ x ≡ b +ℤ pos w *ℤ y → a ≡ b +ℤ pos w *ℤ (y -ℤ x)
by_difference w a b x y h = sym (cancel_out w b a (y -ℤ x) x (ap (λ (z : ℤ). b +ℤ pos w *ℤ z) (-ℤ-+ℤ_cancel y x) ∙ sym h))

falls : (t s x y : ℤ) → t +ℤ x ≡ s +ℤ y → y ≤ℤ x → t ≤ℤ s
falls t s x y e h = omega (ints, le_in, ap up e, ap dn e, sum_is t x, sum_is s y)

-- ---- sums over states

-- the sum of f over the n states from p on
abbrev sum_from : ℕ → ℕ → (ℕ → ℤ) → ℤ
sum_from p zero f = pos 0
sum_from p (suc n) f = f p +ℤ sum_from (suc p) n f

sum_same : (f g : ℕ → ℤ) (n p : ℕ) → ((s : ℕ) → p ≤ s → s < p + n → f s ≡ g s) → sum_from p n f ≡ sum_from p n g
sum_same f g zero p h = refl
sum_same f g (suc n) p h =
    ap₂ ◌+ℤ◌ (h p (omega arith) (omega arith)) (sum_same f g n (suc p) (λ s a b. h s (omega arith) (omega arith)))

sum-zero : (v : ℕ → ℤ) (n p : ℕ) → sum_from p n (λ s. pos 0 *ℤ v s) ≡ pos 0
sum-zero v zero p = refl
sum-zero v (suc n) p = ap₂ ◌+ℤ◌ (zero-*ℤ (v p)) (sum-zero v n (suc p))

-- where no term is negative, the sum is not, and each term is at most the sum
sum_nonneg : (g : ℕ → ℕ) (n p : ℕ) → pos 0 ≤ℤ sum_from p n (λ s. pos (g s))
sum_nonneg g zero p = ≤ℤ_refl (pos 0)
sum_nonneg g (suc n) p =
    let ih = sum_nonneg g n (suc p) in omega (ints, le_in, sum_is (pos (g p)) (sum_from (suc p) n (λ s. pos (g s))))

term_le : (g : ℕ → ℕ) (n p s : ℕ) → p ≤ s → s < p + n → pos (g s) ≤ℤ sum_from p n (λ s. pos (g s))
term_le g zero p s a b = absurd (omega arith)
term_le g (suc n) p s a b = go (eq-or-lt_of_le a) (λ l. term_le g n (suc p) s l (omega arith))
  where
    rest : ℤ
    rest = sum_from (suc p) n (λ s. pos (g s))

    go : (p ≡ s) ⊎ (p < s) → (p < s → pos (g s) ≤ℤ rest) → pos (g s) ≤ℤ (pos (g p) +ℤ rest)
    go (inl e) ih = let h = sum_nonneg g n (suc p) in rw (← e) (omega (ints, le_in, sum_is (pos (g p)) rest))
    go (inr l) ih = let h : pos (g s) ≤ℤ rest = ih l in omega (ints, le_in, sum_is (pos (g p)) rest)

-- ---- the sum over states of weight × v

module _ (v : ℕ → ℤ) where
  -- the term of a state
  abbrev times : (ℕ → ℕ) → ℕ → ℤ
  times W s = pos (W s) *ℤ v s

  add_sum : (q x : ℕ) (W : ℕ → ℕ) (n p : ℕ) → p ≤ q → q < p + n
      → sum_from p n (times (add_to q x W)) ≡ sum_from p n (times W) +ℤ pos x *ℤ v q
  add_sum q x W zero p a b = absurd (omega arith)
  add_sum q x W (suc n) p a b = go (eq-or-lt_of_le a) (λ l. add_sum q x W n (suc p) l (omega arith))
    where
      go : (p ≡ q) ⊎ (p < q) → (p < q → sum_from (suc p) n (times (add_to q x W)) ≡ sum_from (suc p) n (times W) +ℤ pos x *ℤ v q)
          → sum_from p (suc n) (times (add_to q x W)) ≡ sum_from p (suc n) (times W) +ℤ pos x *ℤ v q
      go (inl e) ih =
          ap₂ (λ (m : ℕ) (z : ℤ). pos m *ℤ v p +ℤ z) (subst (λ (s : ℕ). add_to q x W s ≡ W s + x) (sym e) (add_at q x W))
          (sum_same (times (add_to q x W)) (times W) n (suc p) (λ s k l. ap (λ (m : ℕ). pos m *ℤ v s) (add_off q x W s (omega arith))))
          ∙ more_here (W p) x (v p) (sum_from (suc p) n (times W))
          ∙ ap (λ (s : ℕ). sum_from p (suc n) (times W) +ℤ pos x *ℤ v s) e
      go (inr l) ih =
          ap₂ (λ (m : ℕ) (z : ℤ). pos m *ℤ v p +ℤ z) (add_off q x W p (omega arith)) (ih l)
          ∙ sym (+ℤ_assoc (times W p) (sum_from (suc p) n (times W)) (pos x *ℤ v q))

  spread-sum : (x n p : ℕ) (ts : List Transition) (W : ℕ → ℕ) → AtNexts (λ q. p ≤ q) ts → AtNexts (λ q. q < p + n) ts
      → sum_from p n (times (spread x ts W)) ≡ sum_from p n (times W) +ℤ pos x *ℤ expected v ts
  unfolding spread
  spread-sum x n p [] W a b = no_more x (sum_from p n (times W))
  spread-sum x n p (t ∷ ts) W a b =
      spread-sum x n p ts (add_to t.next (x * t.weight) W) a.1 b.1
      ∙ ap (λ (z : ℤ). z +ℤ pos x *ℤ expected v ts) (add_sum t.next (x * t.weight) W n p a.0 b.0)
      ∙ one_more x t.weight (sum_from p n (times W)) (v t.next) (expected v ts)

  module _ (taken : ℕ → Action) (S : ℕ) (later : (p : ℕ) → AtNexts (λ q. p < q) (taken p).transitions)
      (inside : (p : ℕ) → AtNexts (λ q. q < S) (taken p).transitions) where
    -- over the n states from p on, before the pass comes to p
    abbrev total : ℕ → ℕ → ℤ
    total p n = sum_from p n (times (weights_before taken p))

    total_start : 0 < S → total 0 S ≡ v 0
    unfolding weights_before
    total_start h =
        add_sum 0 1 (λ q. 0) S 0 (omega arith) (omega arith)
        ∙ rw (sum-zero v S 0) (once (v 0))

    -- what the pass does at state p: its own term is replaced by those of its transitions
    total_step : (p n : ℕ) → p + suc n ≡ S
        → total (suc p) n +ℤ pos (weights_before taken p p) *ℤ v p
        ≡ total p (suc n) +ℤ pos (weights_before taken p p) *ℤ expected v (taken p).transitions
    unfolding weights_before
    total_step p n e =
        ap (λ (z : ℤ). z +ℤ pos (weights_before taken p p) *ℤ v p)
        (spread-sum (weights_before taken p p) n (suc p) (taken p).transitions (weights_before taken p) (later p)
        (every_imp (λ t l. omega arith) (taken p).transitions (inside p)))
        ∙ moved (sum_from (suc p) n (times (weights_before taken p))) (pos (weights_before taken p p) *ℤ expected v (taken p).transitions)
        (pos (weights_before taken p p) *ℤ v p)

-- ---- the cost-to-go of a state by those of its next states

module _ (D : ℕ) (togo : ℕ → ℕ) where
  -- the cost-to-go of state s by the actions taken
  abbrev go_cost : (ℕ → Action) → ℕ → ℤ
  go_cost taken s = cost_to_go D taken (togo s) s

  to_go_is : (taken : ℕ → Action) (p : ℕ) → AtNexts (λ q. togo p ≡ suc (togo q)) (taken p).transitions
      → go_cost taken p ≡ action_cost D (togo p) (go_cost taken) (taken p)
  to_go_is taken p step = by_stage D togo (cost_to_go D taken) p (taken p) step (λ m. cost_to_go D taken m p) refl (λ m. refl)

  -- ---- a change of one state's cost-to-go

  module _ (S : ℕ) (taken : ℕ → Action) (step : (p : ℕ) → AtNexts (λ q. togo p ≡ suc (togo q)) (taken p).transitions)
      (later : (p : ℕ) → AtNexts (λ q. p < q) (taken p).transitions) (inside : (p : ℕ) → AtNexts (λ q. q < S) (taken p).transitions) where
    abbrev sum_of : (ℕ → ℤ) → ℕ → ℕ → ℤ
    sum_of v = total v taken S later inside

    -- what the pass does at state p, where v is the cost-to-go by the action taken there
    settled : (v : ℕ → ℤ) (p n : ℕ) (own : ℤ) → p + suc n ≡ S → v p ≡ own +ℤ expected v (taken p).transitions
        → sum_of v (suc p) n +ℤ pos (weights_before taken p p) *ℤ own ≡ sum_of v p (suc n)
    settled v p n own e k =
        cancel_out (weights_before taken p p) (sum_of v (suc p) n) (sum_of v p (suc n)) own (expected v (taken p).transitions)
        (ap (λ (z : ℤ). sum_of v (suc p) n +ℤ pos (weights_before taken p p) *ℤ z) (sym k) ∙ total_step v taken S later inside p n e)

    -- the sum over the states from p on of weight × v, before the pass comes to p: all of v 0 is left at the start, and nothing at the end. What the
    -- pass takes from it at a state is the weight there times what v has of its own there
    abbrev pub left_of : (ℕ → ℤ) → ℕ → ℤ
    left_of v p = sum_of v p (S - p)

    pub left_start : (v : ℕ → ℤ) → 0 < S → left_of v 0 ≡ v 0
    left_start v h = let e : S - 0 ≡ S = omega arith in rw e (total_start v taken S later inside h)

    pub left_step : (v : ℕ → ℤ) (p : ℕ) (own : ℤ) → p < S → v p ≡ own +ℤ expected v (taken p).transitions
        → left_of v (suc p) +ℤ pos (weights_before taken p p) *ℤ own ≡ left_of v p
    left_step v p own h k =
        let e : S - p ≡ suc (S - suc p) = omega arith in rw e (settled v p (S - suc p) own (omega arith) k)

    pub left-none : (v : ℕ → ℤ) (p : ℕ) → S ≤ p → left_of v p ≡ pos 0
    left-none v p h = let e : S - p ≡ 0 = omega arith in rw e

    pub left_nonneg : (g : ℕ → ℕ) (p : ℕ) → pos 0 ≤ℤ left_of (λ s. pos (g s)) p
    left_nonneg g p = sum_nonneg (λ s. weights_before taken p s * g s) (S - p) p

    module _ (taken' : ℕ → Action) (r : ℕ) (r< : r < S) (front : (p : ℕ) → p < r → taken' p ≡ taken p)
        (rest : (s : ℕ) → r < s → s < S → (weights_before taken r s ≡ 0) ⊎ (cost_to_go D taken' (togo s) s ≡ cost_to_go D taken (togo s) s)) where
      abbrev v : ℕ → ℤ
      v = go_cost taken

      abbrev v' : ℕ → ℤ
      v' = go_cost taken'

      moves : (p n : ℕ) → p ≤ r → p + n ≡ S → v' 0 +ℤ sum_of v p n ≡ v 0 +ℤ sum_of v' p n
      moves zero n l e =
          let q : n ≡ S = omega arith in
          rw q (ap (λ (z : ℤ). v' 0 +ℤ z) (total_start v taken S later inside (omega arith)) ∙ +ℤ_comm (v' 0) (v 0)
          ∙ ap (λ (z : ℤ). v 0 +ℤ z) (sym (total_start v' taken S later inside (omega arith))))
      moves (suc p) n l e =
          cancel_both (v' 0) (v 0) (sum_of v (suc p) n) (sum_of v' (suc p) n) (pos (weights_before taken p p) *ℤ own)
          (ap (λ (z : ℤ). v' 0 +ℤ z) (settled v p n own (omega arith) (to_go_is taken p (step p)))
          ∙ moves p (suc n) (omega arith) (omega arith)
          ∙ ap (λ (z : ℤ). v 0 +ℤ z) (sym (settled v' p n own (omega arith) to_go')))
        where
          own : ℤ
          own = pos (D ^ togo p) *ℤ (taken p).cost

          same : taken' p ≡ taken p
          same = front p (omega arith)

          to_go' : v' p ≡ own +ℤ expected v' (taken p).transitions
          to_go' =
              to_go_is taken' p (subst (λ (a : Action). AtNexts (λ q. togo p ≡ suc (togo q)) a.transitions) (sym same) (step p))
              ∙ ap (action_cost D (togo p) v') same

      -- a change of the cost-to-go of state r changes that of state 0 by the reach weight of r times as much
      reach_moves : cost_to_go D taken' (togo 0) 0 +ℤ pos (weights_before taken r r) *ℤ cost_to_go D taken (togo r) r
          ≡ cost_to_go D taken (togo 0) 0 +ℤ pos (weights_before taken r r) *ℤ cost_to_go D taken' (togo r) r
      reach_moves =
          cancel_both (v' 0) (v 0) (pos (weights_before taken r r) *ℤ v r) (pos (weights_before taken r r) *ℤ v' r) (after v)
          (moves r (suc n) (omega arith) (omega arith)
          ∙ ap (λ (z : ℤ). v 0 +ℤ (pos (weights_before taken r r) *ℤ v' r +ℤ z)) (sum_same (times v' W) (times v W) n (suc r) unmoved))
        where
          n : ℕ
          n = S - suc r

          W : ℕ → ℕ
          W = weights_before taken r

          -- the sum over the states after r
          after : (ℕ → ℤ) → ℤ
          after u = sum_from (suc r) n (times u W)

          unmoved : (s : ℕ) → suc r ≤ s → s < suc r + n → pos (W s) *ℤ v' s ≡ pos (W s) *ℤ v s
          unmoved s a b = go (rest s a (omega arith))
            where
              go : (W s ≡ 0) ⊎ (v' s ≡ v s) → pos (W s) *ℤ v' s ≡ pos (W s) *ℤ v s
              go (inl e) = rw e (zero-*ℤ (v' s) ∙ sym (zero-*ℤ (v s)))
              go (inr e) = rw e

      -- the same by the difference
      pub reach_moves_by : cost_to_go D taken' (togo 0) 0
          ≡ cost_to_go D taken (togo 0) 0 +ℤ pos (weights_before taken r r) *ℤ (cost_to_go D taken' (togo r) r -ℤ cost_to_go D taken (togo r) r)
      reach_moves_by = by_difference (weights_before taken r r) (v' 0) (v 0) (v r) (v' r) reach_moves

    -- ---- how large a reach weight can be

    module _ (small : (p : ℕ) → weights_of (taken p).transitions ≤ D) where
      abbrev power : ℕ → ℤ
      power s = pos (D ^ togo s)

      expected-power : (m : ℕ) (ts : List Transition) → AtNexts (λ q. suc m ≡ suc (togo q)) ts → expected power ts ≡ pos (weights_of ts * D ^ m)
      expected-power m [] h = ap pos (omega arith)
      expected-power m (t ∷ ts) h =
          let e : togo t.next ≡ m = omega arith in rw (expected-power m ts h.1, e) (ap pos (omega arith))

      power_le : (p : ℕ) → expected power (taken p).transitions ≤ℤ power p
      power_le p = go (togo p) (step p)
        where
          go : (m : ℕ) → AtNexts (λ q. m ≡ suc (togo q)) (taken p).transitions → expected power (taken p).transitions ≤ℤ pos (D ^ m)
          go zero h = rw (expected-none power togo (taken p).transitions h) (omega (ints, le_in))
          go (suc m) h =
              rw (expected-power m (taken p).transitions h, pow-suc) (omega (ints, le_in, mul-le-mul_right (D ^ m) (small p)))

      -- the sum over the states of weight × power never grows
      sum_le : 0 < S → (p n : ℕ) → p + n ≡ S → sum_of power p n ≤ℤ power 0
      sum_le some zero n e =
          let q : n ≡ S = omega arith in rw (q, total_start power taken S later inside some) (≤ℤ_refl (power 0))
      sum_le some (suc p) n e =
          ≤ℤ-trans
          (falls (sum_of power (suc p) n) (sum_of power p (suc n)) (pos (weights_before taken p p) *ℤ power p)
          (pos (weights_before taken p p) *ℤ expected power (taken p).transitions) (total_step power taken S later inside p n (omega arith))
          (scale_mono (weights_before taken p p) (power_le p)))
          (sum_le some p (suc n) (omega arith))

      -- a weight times D^(stages to go there) is at most D^(stages to go from state 0)
      pub reach_bound : (p s : ℕ) → p ≤ s → s < S → weights_before taken p s * D ^ togo s ≤ D ^ togo 0
      reach_bound p s a b =
          omega (
            arith,
            le_out (≤ℤ-trans (term_le (λ s. weights_before taken p s * D ^ togo s) (S - p) p s a (omega arith))
                (sum_le (omega arith) p (S - p) (omega arith))),
          )

-- ---- the states reached are those with a weight

add_to_lem : (q x : ℕ) (W : ℕ → ℕ) (s : ℕ) → 0 < add_to q x W s → ((s ≡ q) × (0 < x)) ⊎ (0 < W s)
unfolding add_to
add_to_lem q x W s = go (eqb s q) refl
  where
    go : (c : Bool) → eqb s q ≡ c → 0 < W s + cond c x 0 → ((s ≡ q) × (0 < x)) ⊎ (0 < W s)
    go true e h = either (W s) h
      where
        either : (w : ℕ) → 0 < w + x → ((s ≡ q) × (0 < x)) ⊎ (0 < w)
        either zero h = inl (eqb-true s q e, omega arith)
        either (suc w) h = inr (omega arith)
    go false e h = inr (omega arith)

add_grows : (q x : ℕ) (W : ℕ → ℕ) (s : ℕ) → W s ≤ add_to q x W s
unfolding add_to
add_grows q x W s = omega arith

spread_to : (x : ℕ) (ts : List Transition) (W : ℕ → ℕ) (s : ℕ) → 0 < spread x ts W s → ((0 < x) × In s (nexts ts)) ⊎ (0 < W s)
unfolding spread
spread_to x [] W s h = inr h
spread_to x (t ∷ ts) W s h = go (spread_to x ts (add_to t.next (x * t.weight) W) s h)
  where
    factor : (x w : ℕ) → 0 < x * w → 0 < x
    factor zero w h = omega arith
    factor (suc x) w h = omega arith

    here : ((s ≡ t.next) × (0 < x * t.weight)) ⊎ (0 < W s) → ((0 < x) × In s (nexts (t ∷ ts))) ⊎ (0 < W s)
    here (inl k) = inl (factor x t.weight k.1, inl k.0)
    here (inr k) = inr k

    go : ((0 < x) × In s (nexts ts)) ⊎ (0 < add_to t.next (x * t.weight) W s) → ((0 < x) × In s (nexts (t ∷ ts))) ⊎ (0 < W s)
    go (inl k) = inl (k.0, inr k.1)
    go (inr k) = here (add_to_lem t.next (x * t.weight) W s k)

spread_from : (x : ℕ) (ts : List Transition) (W : ℕ → ℕ) (s : ℕ) → Every (λ (t : Transition). 0 < t.weight) ts
    → ((0 < x) × In s (nexts ts)) ⊎ (0 < W s) → 0 < spread x ts W s
unfolding spread
spread_from x [] W s w (inl k) = absurd k.1
spread_from x [] W s w (inr k) = k
spread_from x (t ∷ ts) W s w k = spread_from x ts (add_to t.next (x * t.weight) W) s w.1 (go k)
  where
    here : s ≡ t.next → 0 < x → 0 < add_to t.next (x * t.weight) W s
    here e h = rw (e, add_at) (omega (arith, mul-pos h w.0))

    go : ((0 < x) × In s (nexts (t ∷ ts))) ⊎ (0 < W s) → ((0 < x) × In s (nexts ts)) ⊎ (0 < add_to t.next (x * t.weight) W s)
    go (inl (h, inl e)) = inr (here e h)
    go (inl (h, inr i)) = inl (h, i)
    go (inr h) = inr (omega (arith, add_grows t.next (x * t.weight) W s))

module _ (act : ℕ → ℕ → Action) where
  -- the states known to be reached after the first k bytes, and those found after them
  pub reached_on : (k p : ℕ) (reach : List ℕ) (bs : Policy)
      → reached_from act (p + k) (reached_from act p reach (take k bs)) (drop k bs) ≡ reached_from act p reach bs
  reached_on zero p reach bs = rw (add-zero p)
  reached_on (suc k) p reach [] = refl
  reached_on (suc k) p reach (b ∷ bs) = rw (add-suc, ← suc-add) (reached_on k (suc p) (onward act p b reach) bs)

  -- what is known to be reached after the first k bytes is reached
  pub known_reached : (k p : ℕ) (reach : List ℕ) (bs : Policy) (q : ℕ) → In q (reached_from act p reach (take k bs))
      → In q (reached_from act p reach bs)
  known_reached k p reach bs q i =
      rw (reached_on k p reach bs) at (reached_mono act (p + k) (reached_from act p reach (take k bs)) (drop k bs) q i)

  module _ (opts : ℕ → List ℕ) (positive : (p c : ℕ) → Every (λ (t : Transition). 0 < t.weight) (act p c).transitions)
      (bare : (p : ℕ) → (act p 255).transitions ≡ []) where
    module _ (f : ℕ → ℕ) where
      abbrev weights : ℕ → ℕ → ℕ
      weights = weights_before (λ q. act q (f q))

      -- before the pass comes to state p, the states from p on that have a weight are those of the list
      abbrev pub Agree : ℕ → List ℕ → Type 0
      Agree p reach = (s : ℕ) → p ≤ s → (0 < weights p s) ↔ In s reach

      -- one byte more, which is allowed there
      pub agree_next : (p : ℕ) (reach : List ℕ) (b : ℕ) → In b (allowed (opts p) (is_in p reach)) → f p ≡ b
          → Agree p reach → Agree (suc p) (onward act p b reach)
      unfolding weights_before
      agree_next p reach b h e g s l =
          rw e (
            λ k. to (spread_to (weights p p) ts (weights p) s k),
            λ i. spread_from (weights p p) ts (weights p) s (positive p b) (from (in_++ s (nexts ts) reach i)),
          )
        where
          ts : List Transition
          ts = (act p b).transitions

          Weighs : Type 0
          Weighs = ((0 < weights p p) × In s (nexts ts)) ⊎ (0 < weights p s)

          to : Weighs → In s (onward act p b reach)
          to (inl k) = ++-in s (nexts ts) reach (inl k.1)
          to (inr k) = ++-in s (nexts ts) reach (inr ((g s (omega arith)).0 k))

          fresh : (c : Bool) → is_in p reach ≡ c → In s (nexts ts) → Weighs
          fresh true c i = inl ((g p (omega arith)).1 (is_in_in p reach (true-T c)), i)
          fresh false c i =
              absurd (subst (λ (us : List Transition). In s (nexts us)) (ap (λ (x : ℕ). (act p x).transitions) (in_one (rw c at h)) ∙ bare p) i)

          from : In s (nexts ts) ⊎ In s reach → Weighs
          from (inl i) = fresh (is_in p reach) refl i
          from (inr i) = inr ((g s (omega arith)).1 i)

      agree_on : (k n p : ℕ) (reach : List ℕ) (bs : Policy) → IsPolicy act opts n p reach bs → Reads f p bs → Agree p reach → k ≤ n
          → Agree (p + k) (reached_from act p reach (take k bs))
      agree_on zero n p reach bs h r g l = rw (add-zero p) g
      agree_on (suc k) zero p reach bs h r g l = absurd (omega arith)
      agree_on (suc k) (suc n) p reach [] h r g l = absurd h
      agree_on (suc k) (suc n) p reach (b ∷ bs) h r g l =
          rw (add-suc, ← suc-add)
          (agree_on k n (suc p) (onward act p b reach) bs h.1 r.1 (agree_next p reach b h.0 r.0 g) (omega arith))

    pub agree_start : (f : ℕ → ℕ) → Agree f 0 (0 ∷ [])
    unfolding weights_before
    agree_start f s l = (λ h. to (add_to_lem 0 1 (λ q. 0) s h), λ i. rw (in_one i, add_at) (omega arith))
      where
        to : ((s ≡ 0) × (0 < 1)) ⊎ (0 < 0) → In s (0 ∷ [])
        to (inl k) = inl k.0
        to (inr k) = absurd (omega arith)

    module _ (S : ℕ) (bs : Policy) (policy : IsPolicy act opts S 0 (0 ∷ []) bs) where
      -- before the pass comes to state p, a state from p on has a weight exactly if it is known to be reached after the bytes of the states before p
      pub known_weight : (p : ℕ) → p ≤ S → (s : ℕ) → p ≤ s
          → (0 < weights_before (λ q. act q (byte_at bs q)) p s) ↔ In s (reached_from act 0 (0 ∷ []) (take p bs))
      known_weight p l =
          rw zero-add at (agree_on (byte_at bs) p S 0 (0 ∷ []) bs policy (reads bs) (agree_start (byte_at bs)) l)
