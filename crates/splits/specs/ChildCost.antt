-- The cost of a child. A candidate's lists are the model's after state r, and its first policy f reaches r. The first policy of the child at r takes
-- the actions of f before r, the best of the other actions at r, and best actions of the model after r. So does f after r. So of r and the later
-- states that both reach, only r has another cost-to-go, and the costs of the two differ by the reach weight of r times that difference.
-- Assumes nothing.
use Rattle.std.specs.Prelude.{◌≡◌, refl, ◌⊎◌, ◌↔◌, List, [], ◌∷◌, ℕ, zero, suc, ◌≤◌, ◌<◌, ℤ, pos, ◌+ℤ◌, ◌-ℤ◌, ◌*ℤ◌}
use Rattle.std.proofs.Common.{sym, ap, ap₂, ◌∙◌, inl, inr, arith}
use Rattle.model.specs.Model.{Action}
use Rattle.model.specs.Policy.{Policy}
use Rattle.model.specs.Path.{byte_at}
use Rattle.model.specs.Recursion.{cost_to_go, best_of, through, least_to_go}
use Rattle.laws.specs.Members.{In}
use Rattle.laws.specs.ToGo.{through_same, least-same}
use Rattle.laws.specs.Policies.{IsPolicy, policy-length, reached_from, reads}
use Rattle.laws.specs.First.{Shape, Lists, cost_from0, first_policy, is_policy_lem, first_byte, first_to_go}
use Rattle.splits.specs.Parts.{without, split_eq, split_gt, Reaches, reaches_is, part-front}
use Rattle.splits.specs.Kbest.{child_at, child_lists}
use Rattle.splits.specs.Reach.{weights_before, reach_weight, weights-same, reach_moves_by}
use Rattle.splits.specs.Reach.{known_reached, known_weight}

-- ---- the first policy at each state that it reaches

module _ (D S : ℕ) (act : ℕ → ℕ → Action) (togo : ℕ → ℕ) (sh : Shape S act togo) (Alive : ℕ → Type 0) (opts : ℕ → List ℕ)
    (li : Lists Alive act opts) where
  abbrev G : Policy
  G = first_policy D S act togo opts

  policy : IsPolicy act opts S 0 (0 ∷ []) G
  policy = is_policy_lem D S act togo sh Alive opts li

  -- the states of the model that it reaches are those that it is known to reach after all its bytes
  reached_is : (q : ℕ) → Reaches act q 0 (0 ∷ []) G ↔ (In q (reached_from act 0 (0 ∷ []) G) × (q < S))
  reached_is q =
      let e = reaches_is act sh.later q 0 (0 ∷ []) G in
      let size = policy-length act opts S 0 (0 ∷ []) G policy in
      (λ i. let h = e.0 i in (h.0, omega (arith, h.2, size)), λ h. e.1 (h.0, omega arith, omega (arith, size)))

  -- its cost-to-go there is the least
  to_go_at : (q : ℕ) → Reaches act q 0 (0 ∷ []) G → cost_to_go D (λ p. act p (byte_at G p)) (togo q) q ≡ least_to_go D act opts (togo q) q
  to_go_at q i = first_to_go D S act togo sh Alive opts li q ((reached_is q).0 i)

  -- a state of the model that has a weight is reached
  weighs : (p s : ℕ) → p ≤ s → s < S → 0 < weights_before (λ q. act q (byte_at G q)) p s → Reaches act s 0 (0 ∷ []) G
  weighs p s a b h =
      (reached_is s).1 (known_reached act p 0 (0 ∷ []) G s ((known_weight act opts sh.positive sh.bare S G policy p (omega arith) s a).0 h), b)

-- ---- the child at a state

-- the lowest best action at r of those that are left there, where `all` are the lists of the model
abbrev pub next_best : ℕ → ℕ → (ℕ → ℕ → Action) → (ℕ → ℕ) → (ℕ → List ℕ) → (ℕ → List ℕ) → ℕ → ℕ
next_best D S act togo all os r = best_of (through D act all (togo r) r) (without (byte_at (first_policy D S act togo os) r) (os r))

module _ (D S : ℕ) (act : ℕ → ℕ → Action) (togo : ℕ → ℕ) (sh : Shape S act togo) (Alive : ℕ → Type 0) (all os : ℕ → List ℕ)
    (li : Lists Alive act os) (r : ℕ) (after : (s : ℕ) → r < s → os s ≡ all s) (reached : Reaches act r 0 (0 ∷ []) (first_policy D S act togo os))
    (some : (b : ℕ) × In b (without (byte_at (first_policy D S act togo os) r) (os r))) where
  -- the candidate's first policy, the child's lists and its first policy
  abbrev f : Policy
  f = first_policy D S act togo os

  abbrev ks : ℕ → List ℕ
  ks = child_at D S act togo os r

  abbrev k : Policy
  k = first_policy D S act togo ks

  ks_lists : Lists Alive act ks
  ks_lists = child_lists D S act togo sh Alive os li r some.0 some.1

  -- its lists are the model's after r too
  ks-after : (s : ℕ) → r < s → ks s ≡ all s
  ks-after s l = split_gt (byte_at f) r (without (byte_at f r) (os r)) os s l ∙ after s l

  f-policy : IsPolicy act os S 0 (0 ∷ []) f
  f-policy = is_policy_lem D S act togo sh Alive os li

  k-policy : IsPolicy act ks S 0 (0 ∷ []) k
  k-policy = is_policy_lem D S act togo sh Alive ks ks_lists

  front : ((q : ℕ) → 0 ≤ q → q < r → byte_at k q ≡ byte_at f q) × Reaches act r 0 (0 ∷ []) k
  front = part-front act os (byte_at f) r S 0 (0 ∷ []) f k f-policy (reads f) reached k-policy (byte_at k) (reads k)

  -- before r the child's first policy has the candidate's bytes
  pub child-front : (q : ℕ) → q < r
      → byte_at (first_policy D S act togo (child_at D S act togo os r)) q ≡ byte_at (first_policy D S act togo os) q
  child-front q l = front.0 q (omega arith) l

  -- ---- its cost

  abbrev v : ℕ → ℤ
  v s = cost_to_go D (λ p. act p (byte_at f p)) (togo s) s

  abbrev v' : ℕ → ℤ
  v' s = cost_to_go D (λ p. act p (byte_at k p)) (togo s) s

  r_inside : r < S
  r_inside = ((reached_is D S act togo sh Alive os li r).0 reached).1

  same-front : (p : ℕ) → p < r → act p (byte_at k p) ≡ act p (byte_at f p)
  same-front p l = ap (act p) (child-front p l)

  -- the costs-to-go at r
  f_at : v r ≡ through D act all (togo r) r (byte_at f r)
  f_at =
      to_go_at D S act togo sh Alive os li r reached
      ∙ ap (through D act os (togo r) r) (sym (first_byte D S act togo sh Alive os li r ((reached_is D S act togo sh Alive os li r).0 reached)))
      ∙ ap (λ (g : ℕ → ℤ). g (byte_at f r)) (through_same D act sh.later os all r after (togo r) r (omega arith))

  k_at : v' r ≡ through D act all (togo r) r (next_best D S act togo all os r)
  k_at =
      to_go_at D S act togo sh Alive ks ks_lists r front.1
      ∙ ap₂ (λ (g : ℕ → ℤ) (xs : List ℕ). g (best_of g xs)) (through_same D act sh.later ks all r ks-after (togo r) r (omega arith))
      (split_eq (byte_at f) r (without (byte_at f r) (os r)) os)

  -- and after r
  unmoved : (s : ℕ) → r < s → s < S → (weights_before (λ p. act p (byte_at f p)) r s ≡ 0) ⊎ (v' s ≡ v s)
  unmoved s l b = go (weights_before (λ p. act p (byte_at f p)) r s) refl
    where
      k-least : 0 < weights_before (λ p. act p (byte_at k p)) r s → v' s ≡ least_to_go D act all (togo s) s
      k-least h =
          to_go_at D S act togo sh Alive ks ks_lists s (weighs D S act togo sh Alive ks ks_lists r s (omega arith) b h)
          ∙ least-same D act sh.later ks all r ks-after (togo s) s l

      f-least : 0 < weights_before (λ p. act p (byte_at f p)) r s → v s ≡ least_to_go D act all (togo s) s
      f-least h =
          to_go_at D S act togo sh Alive os li s (weighs D S act togo sh Alive os li r s (omega arith) b h)
          ∙ least-same D act sh.later os all r after (togo s) s l

      same : weights_before (λ p. act p (byte_at k p)) r s ≡ weights_before (λ p. act p (byte_at f p)) r s
      same = ap (λ (W : ℕ → ℕ). W s) (weights-same (λ p. act p (byte_at f p)) (λ p. act p (byte_at k p)) r same-front)

      go : (w : ℕ) → weights_before (λ p. act p (byte_at f p)) r s ≡ w → (weights_before (λ p. act p (byte_at f p)) r s ≡ 0) ⊎ (v' s ≡ v s)
      go zero e = inl e
      go (suc w) e = inr (k-least (omega (arith, same)) ∙ sym (f-least (omega arith)))

  -- the same by the difference
  pub child-cost_by : cost_from0 D act togo (first_policy D S act togo (child_at D S act togo os r))
      ≡ cost_from0 D act togo (first_policy D S act togo os)
      +ℤ pos (reach_weight act (first_policy D S act togo os) r)
      *ℤ (through D act all (togo r) r (next_best D S act togo all os r)
      -ℤ through D act all (togo r) r (byte_at (first_policy D S act togo os) r))
  child-cost_by =
      rw (← f_at, ← k_at) (reach_moves_by D togo S (λ p. act p (byte_at f p)) (λ p. sh.step p (byte_at f p)) (λ p. sh.later p (byte_at f p))
      (λ p. sh.inside p (byte_at f p)) (λ p. act p (byte_at k p)) r r_inside same-front unmoved)
