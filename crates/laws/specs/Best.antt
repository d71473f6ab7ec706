-- The least cost-to-go. Each state p has a list of the actions that a policy may take there, `opts p`: all of them; or one, where a policy's first
-- actions are held; or all but some. What is proved here is proved for any such lists: the least cost-to-go is at most every policy's, and a policy
-- has it exactly when it takes a best action at each state that it reaches.
-- Assumes nothing.
use Rattle.std.specs.Prelude.{◌≡◌, refl, Bool, true, false, ◌⊎◌, List, [], ◌∷◌, ℕ, zero, suc, ◌^◌, ◌≤◌, ◌<◌, ℤ, pos, ◌*ℤ◌, ◌≤ℤ◌, ◌<ℤ◌}
use Rattle.std.proofs.Common.{inl, inr, arith, subst, sym}
use Rattle.std.specs.Int.Signed.{le_z, le_z_yes, ≤ℤ_refl, clash_ℤ}
use Rattle.model.specs.Model.{Transition, Action}
use Rattle.model.specs.Recursion.{expected, action_cost, cost_to_go, pick, first_least, best_of, through, least_to_go}
use Rattle.laws.specs.Int.{le_z_no, <→≤, ≤ℤ-trans, +-mono, +-tight, scale_mono, scale_cancel}
use Rattle.laws.specs.Members.{true-T, false-T, In, Every, every_imp, every_both, Rising, below_in, AtNexts}

-- ---- the first of a list at which f is least

module _ (f : ℕ → ℤ) where
  -- z is x, where f x is at most f y, or else y
  data Picked (x y z : ℕ) : Type 0 where
    former : z ≡ x → f x ≤ℤ f y → Picked x y z
    latter : z ≡ y → f y <ℤ f x → Picked x y z

  picked : (x y : ℕ) → Picked x y (pick (le_z (f x) (f y)) x y)
  picked x y = go (le_z (f x) (f y)) refl
    where
      go : (b : Bool) → le_z (f x) (f y) ≡ b → Picked x y (pick b x y)
      go true e = former refl (le_z_yes (true-T e))
      go false e = latter refl (le_z_no (false-T e))

  least_in : (x : ℕ) (ys : List ℕ) → In (first_least f x ys) (x ∷ ys)
  least_in x [] = inl refl
  least_in x (y ∷ ys) = go (picked x (first_least f y ys)) (least_in y ys)
    where
      go : {w v : ℕ} → Picked x w v → In w (y ∷ ys) → In v (x ∷ (y ∷ ys))
      go (former e l) i = inl e
      go (latter e l) i = inr (subst (λ u. In u (y ∷ ys)) (sym e) i)

  least_le : (x : ℕ) (ys : List ℕ) {z : ℕ} → In z (x ∷ ys) → f (first_least f x ys) ≤ℤ f z
  least_le x [] (inl e) = rw e (≤ℤ_refl (f x))
  least_le x [] (inr i) = absurd i
  least_le x (y ∷ ys) {z} i = go (picked x (first_least f y ys)) i (λ j. least_le y ys j)
    where
      go : {w v : ℕ} → Picked x w v → (z ≡ x) ⊎ In z (y ∷ ys) → (In z (y ∷ ys) → f w ≤ℤ f z) → f v ≤ℤ f z
      go (former e l) (inl i) ih = rw (e, i) (≤ℤ_refl (f x))
      go (former e l) (inr i) ih = rw e (≤ℤ-trans l (ih i))
      go (latter e l) (inl i) ih = rw (e, i) (<→≤ l)
      go (latter e l) (inr i) ih = rw e (ih i)

  least_low : (x : ℕ) (ys : List ℕ) {z : ℕ} → Rising (x ∷ ys) → In z (x ∷ ys) → f z ≤ℤ f (first_least f x ys) → first_least f x ys ≤ z
  least_low x [] r (inl e) h = omega arith
  least_low x [] r (inr i) h = absurd i
  least_low x (y ∷ ys) {z} r i h = go (picked x (first_least f y ys)) i h (λ j k. least_low y ys r.1 j k)
    where
      go : {w v : ℕ} → Picked x w v → (z ≡ x) ⊎ In z (y ∷ ys) → f z ≤ℤ f v → (In z (y ∷ ys) → f z ≤ℤ f w → w ≤ z) → v ≤ z
      go (former e l) (inl i) h ih = omega arith
      go (former e l) (inr j) h ih = omega (arith, below_in (y ∷ ys) r.0 j)
      go (latter e l) (inl i) h ih = clash_ℤ l (rw (← i, ← e) h)
      go (latter e l) (inr j) h ih = rw e (ih j (rw e at h))

  -- the best of a list is one of its elements, f of it is at most f of every element, and another element as good is a higher one
  pub best_in : (xs : List ℕ) (z : ℕ) → In z xs → In (best_of f xs) xs
  best_in [] z i = absurd i
  best_in (x ∷ xs) z i = least_in x xs

  pub best_cases : (xs : List ℕ) → (best_of f xs ≡ 255) ⊎ In (best_of f xs) xs
  best_cases [] = inl refl
  best_cases (x ∷ xs) = inr (least_in x xs)

  pub best_le : (xs : List ℕ) {z : ℕ} → In z xs → f (best_of f xs) ≤ℤ f z
  best_le [] i = absurd i
  best_le (x ∷ xs) i = least_le x xs i

  pub best_low : (xs : List ℕ) {z : ℕ} → Rising xs → In z xs → f z ≤ℤ f (best_of f xs) → best_of f xs ≤ z
  best_low [] r i h = absurd i
  best_low (x ∷ xs) r i h = least_low x xs r i h

-- ---- an action, by two figures for the next states of which one is at most the other

module _ (v u : ℕ → ℤ) where
  expected_mono : (ts : List Transition) → AtNexts (λ q. v q ≤ℤ u q) ts → expected v ts ≤ℤ expected u ts
  expected_mono [] h = ≤ℤ_refl (pos 0)
  expected_mono (t ∷ ts) h =
      +-mono (pos t.weight *ℤ v t.next) (pos t.weight *ℤ u t.next) (expected v ts) (expected u ts)
      (scale_mono t.weight h.0) (expected_mono ts h.1)

  expected_tight : (ts : List Transition) → Every (λ (t : Transition). 0 < t.weight) ts → AtNexts (λ q. v q ≤ℤ u q) ts
      → expected u ts ≤ℤ expected v ts → AtNexts (λ q. u q ≤ℤ v q) ts
  expected_tight [] w h k = tt
  expected_tight (t ∷ ts) w h k =
      let both = +-tight (pos t.weight *ℤ v t.next) (pos t.weight *ℤ u t.next) (expected v ts) (expected u ts)
      (scale_mono t.weight h.0) (expected_mono ts h.1) k in
      (scale_cancel t.weight w.0 both.0, expected_tight ts w.1 h.1 both.1)

  module _ (D m : ℕ) (a : Action) (h : AtNexts (λ q. v q ≤ℤ u q) a.transitions) where
    abbrev own : ℤ
    own = pos (D ^ m) *ℤ a.cost

    action_mono : action_cost D m v a ≤ℤ action_cost D m u a
    action_mono = +-mono own own (expected v a.transitions) (expected u a.transitions) (≤ℤ_refl own) (expected_mono a.transitions h)

    -- the costs are equal only if the figures are equal at every next state: weights are at least 1
    action_tight : Every (λ (t : Transition). 0 < t.weight) a.transitions → action_cost D m u a ≤ℤ action_cost D m v a
        → AtNexts (λ q. u q ≤ℤ v q) a.transitions
    action_tight w k =
        let both = +-tight own own (expected v a.transitions) (expected u a.transitions) (≤ℤ_refl own) (expected_mono a.transitions h) k in
        expected_tight a.transitions w h both.1

-- ---- the least cost-to-go

-- f takes an action of the lists at p and at every state reached from there, with m stages still to come
abbrev pub Obeys : (ℕ → ℕ → Action) → (ℕ → List ℕ) → (ℕ → ℕ) → ℕ → ℕ → Type 0
Obeys act opts f zero p = In (f p) (opts p)
Obeys act opts f (suc m) p = In (f p) (opts p) × AtNexts (Obeys act opts f m) (act p (f p)).transitions

module _ (D : ℕ) (act : ℕ → ℕ → Action) (opts : ℕ → List ℕ) where
  -- f takes a best action at p and at every state reached from there, with m stages still to come
  abbrev pub Tight : (ℕ → ℕ) → ℕ → ℕ → Type 0
  Tight f zero p = through D act opts zero p (f p) ≤ℤ least_to_go D act opts zero p
  Tight f (suc m) p = (through D act opts (suc m) p (f p) ≤ℤ least_to_go D act opts (suc m) p) × AtNexts (Tight f m) (act p (f p)).transitions

  module _ (f : ℕ → ℕ) where
    abbrev least : ℕ → ℕ → ℤ
    least = least_to_go D act opts

    -- the cost-to-go by the actions that f takes
    abbrev to_go : ℕ → ℕ → ℤ
    to_go = cost_to_go D (λ p. act p (f p))

    -- the least cost-to-go is at most that of f
    pub least_below : (m p : ℕ) → Obeys act opts f m p → least_to_go D act opts m p ≤ℤ cost_to_go D (λ p. act p (f p)) m p
    least_below zero p h = best_le (through D act opts zero p) (opts p) h
    least_below (suc m) p h =
        ≤ℤ-trans (best_le (through D act opts (suc m) p) (opts p) h.0)
        (action_mono (least m) (to_go m) D (suc m) (act p (f p)) (every_imp (λ t. least_below m t.next) (act p (f p)).transitions h.1))

    -- where f costs no more than the least, it takes a best action at every state reached: weights are at least 1
    pub tight : ((p c : ℕ) → Every (λ (t : Transition). 0 < t.weight) (act p c).transitions)
        → (m p : ℕ) → Obeys act opts f m p → cost_to_go D (λ p. act p (f p)) m p ≤ℤ least_to_go D act opts m p → Tight f m p
    tight w zero p h k = k
    tight w (suc m) p h k = (
      ≤ℤ-trans (action_mono (least m) (to_go m) D (suc m) a under) k,
      every_both (λ t. tight w m t.next) a.transitions h.1 equal,
    )
      where
        a : Action
        a = act p (f p)

        under : AtNexts (λ q. least m q ≤ℤ to_go m q) a.transitions
        under = every_imp (λ t. least_below m t.next) a.transitions h.1

        equal : AtNexts (λ q. to_go m q ≤ℤ least m q) a.transitions
        equal =
            action_tight (least m) (to_go m) D (suc m) a under (w p (f p))
            (≤ℤ-trans k (best_le (through D act opts (suc m) p) (opts p) h.0))

    -- and where it takes a best action at every state reached, it costs no more than the least
    pub tight_least : (m p : ℕ) → Tight f m p → cost_to_go D (λ p. act p (f p)) m p ≤ℤ least_to_go D act opts m p
    tight_least zero p h = h
    tight_least (suc m) p h =
        ≤ℤ-trans
        (action_mono (to_go m) (least m) D (suc m) (act p (f p)) (every_imp (λ t. tight_least m t.next) (act p (f p)).transitions h.1))
        h.0
