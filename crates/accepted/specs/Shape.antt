-- The actions of an accepted book have the shape that the laws about policies ask for, its options are lists as they ask, and its costs and weights
-- are bounded as they ask.
-- Assumes nothing.
use Rattle.std.specs.Prelude.{◌≡◌, Bool, ◌&&◌, ◌||◌, cond, ◌⊎◌, ◌↔◌, [], ◌∷◌, map, T, eqb, ℤ, pos, negsuc}
use Rattle.std.proofs.Math.Path.{refl, sym, ap, subst}
use Rattle.std.proofs.Common.{◌∙◌, inl, inr, ⊎_elim, eq-or-lt_of_le, add-zero, zero-add}
use Rattle.std.proofs.Math.Bool.{true, false, not}
use Prim.Native.Nat.{ℕ, zero, suc, ◌+◌, ◌-◌, ◌≤◌, ◌<◌}
use native.Mathlib.Omega.{arith}
use borrow.Author.Tests.{ltb-true, leb-true, lt-ltb, ne_eqb, not-true}
use Rattle.std.proofs.Math.Dec.{leb, ltb}
use Rattle.std.proofs.Math.IntN.{nat_abs}
use Rattle.std.specs.Int.Signed.{le_z, lt_z}
use Rattle.model.specs.Lists.{all, sum_to, up_from, is_empty}
use Rattle.model.specs.Model.{Words, Transition, Action, weights_of, scale, horizon, stage_size, first_state, state_count, stage, togo, action_count, left, right}
use Rattle.model.specs.Model.{branches, action_line, transition_at, read_action, no_action, action, closed, options}
use Rattle.model.specs.Questions.{inside, next_before, nexts_allowed, weight_sum, weights_allowed, largest_cost, book_number}
use Rattle.model.specs.Policy.{Policy, policies_from, is_policy, policies, has_policy}
use Rattle.model.specs.Path.{byte_at}
use Rattle.model.specs.Recursion.{feasible}
use Rattle.laws.specs.Members.{T_true, true-T, false-T, same_test, In, Every, in_every, every_imp, every_both, in_map, up_from_in, AtNexts}
use Rattle.laws.specs.Policies.{IsPolicy, fits_is, policy_in, in_policy}
use Rattle.laws.specs.First.{Shape, Lists}
use Rattle.laws.specs.Kept.{some_in, in_some}
use Rattle.laws.specs.Feasible.{feasible_is, same-policies, goes_on_is}
use Rattle.laws.specs.Walks.{other_options}
use Rattle.questions.specs.Ranges.{and-true, all-at, sum_same, inside_range}
use Rattle.questions.specs.Stages.{OfStage, stage_is, of_stage, first_mono, first_step, first-zero}
use Rattle.accepted.specs.Facts.{Accepted, accepted}
use Rattle.accepted.specs.Options.{Option, Feasible, Alive, option_open, to_option, lists_rising}

-- a sum by its first term
sum-front : (n : ℕ) (f : ℕ → ℕ) → sum_to (suc n) f ≡ f 0 + sum_to n (λ (i : ℕ). f (suc i))
sum-front zero f = omega arith
sum-front (suc n) f = omega (arith, sum-front n f)

module _ (ws : Words) where
  -- what the test of a policy decides
  pub policy_is : (bs : Policy) → T (is_policy ws bs) ↔ IsPolicy (action ws) (options ws) (state_count ws) 0 (0 ∷ []) bs
  unfolding is_policy
  policy_is bs = fits_is (action ws) (options ws) (state_count ws) 0 (0 ∷ []) bs

  -- 28: the list of policies is not empty exactly if there is one
  pub has-policy : (has_policy ws ≡ true) ↔ ((bs : Policy) × IsPolicy (action ws) (options ws) (state_count ws) 0 (0 ∷ []) bs)
  unfolding has_policy policies
  has-policy = (
    λ e. let m = some_in (policies ws) (not-true (is_empty (policies ws)) e) in
        (m.0, in_policy (action ws) (options ws) (state_count ws) 0 (0 ∷ []) m.0 m.1),
    λ b. ap not (in_some (policies ws) b.0 (policy_in (action ws) (options ws) (state_count ws) 0 (0 ∷ []) b.0 b.1)),
  )

  -- ---- an action and its transitions, as read

  -- what holds of no action, and of action c of state p as it is read where the state has it, holds of `action ws p c`
  by_action : (P : Action → Type 0) (p c : ℕ) → P no_action
      → (p < state_count ws → c < action_count ws p → P (read_action ws (stage ws p) (action_line ws p c))) → P (action ws p c)
  unfolding action
  by_action P p c none some = go (ltb p (state_count ws)) refl (ltb c (action_count ws p)) refl
    where
      go : (a : Bool) → ltb p (state_count ws) ≡ a → (b : Bool) → ltb c (action_count ws p) ≡ b
          → P (cond (a && b) (read_action ws (stage ws p) (action_line ws p c)) no_action)
      go true e true k = some (ltb-true p (state_count ws) e) (ltb-true c (action_count ws p) k)
      go true e false k = none
      go false e b k = none

  pub action_is : (p c : ℕ) → p < state_count ws → c < action_count ws p → action ws p c ≡ read_action ws (stage ws p) (action_line ws p c)
  unfolding action
  action_is p c l k = rw (lt-ltb p (state_count ws) l, lt-ltb c (action_count ws p) k)

  pub action-none : (p c : ℕ) → (p < state_count ws → c < action_count ws p → ⊥) → action ws p c ≡ no_action
  action-none p c n = by_action (λ (a : Action). a ≡ no_action) p c refl (λ l k. absurd (n l k))

  -- what holds of each transition below line j holds of every transition of the action whose first line it is
  every_read : (P : Transition → Type 0) (n j : ℕ) → ((i : ℕ) → i < branches ws j → P (transition_at ws n (j + 1 + i)))
      → Every P (read_action ws n j).transitions
  unfolding read_action
  every_read P n j h =
      in_every P (map (transition_at ws n) (up_from (j + 1) (branches ws j)))
      (λ t m. let r = in_map (transition_at ws n) t (up_from (j + 1) (branches ws j)) m in subst P (sym r.1) (at r.0 r.2))
    where
      at : (k : ℕ) → In k (up_from (j + 1) (branches ws j)) → P (transition_at ws n k)
      at k i =
          let b = up_from_in (j + 1) (branches ws j) i in
          let e : j + 1 + (k - (j + 1)) ≡ k = omega arith in
          subst (λ (m : ℕ). P (transition_at ws n m)) e (h (k - (j + 1)) (omega arith))

  -- the weights of its transitions add to what question 12 adds
  weights_from : (n k r : ℕ) → weights_of (map (transition_at ws n) (up_from k r)) ≡ sum_to r (λ (i : ℕ). nat_abs (right ws (k + i)))
  unfolding transition_at
  weights_from n k zero = refl
  weights_from n k (suc r) =
      ap (λ (s : ℕ). nat_abs (right ws k) + s)
      (weights_from n (suc k) r
      ∙ sum_same r (λ (i : ℕ). nat_abs (right ws (suc k + i))) (λ (i : ℕ). nat_abs (right ws (k + suc i)))
      (λ i l. ap (λ (m : ℕ). nat_abs (right ws m)) (omega arith)))
      ∙ ap (λ (m : ℕ). nat_abs (right ws m) + sum_to r (λ (i : ℕ). nat_abs (right ws (k + suc i)))) (sym (add-zero k))
      ∙ sym (sum-front r (λ (i : ℕ). nat_abs (right ws (k + i))))

  pub weights_read : (n j : ℕ) → weights_of (read_action ws n j).transitions ≡ weight_sum ws j
  unfolding read_action weight_sum
  weights_read n j = weights_from n (j + 1) (branches ws j)

-- ---- question 11

-- a word above one that is at least -1, and below w
raised : (a z : ℤ) (w : ℕ) → le_z (negsuc 0) a ≡ true → lt_z a z ≡ true → lt_z z (pos w) ≡ true → (le_z (negsuc 0) z ≡ true) × (nat_abs z < w)
raised a (pos v) w h k l = (refl, ltb-true v w l)
raised (pos u) (negsuc m) w h k l = let z : ◌≡◌ {A = ℕ} 0 1 = cc in absurd (omega arith)
raised (negsuc u) (negsuc m) w h k l = absurd (omega (arith, leb-true u 0 h, ltb-true m u k))

module _ (ws : Words) (n j : ℕ) (e : nexts_allowed ws n j ≡ true) where
  next_tests : (i : ℕ) → i < branches ws j
      → (lt_z (next_before ws j i) (left ws (j + 1 + i)) ≡ true) × (lt_z (left ws (j + 1 + i)) (pos (stage_size ws (n + 1))) ≡ true)
  unfolding nexts_allowed
  next_tests i l =
      and-true (lt_z (next_before ws j i) (left ws (j + 1 + i))) (lt_z (left ws (j + 1 + i)) (pos (stage_size ws (n + 1))))
      (all-at (branches ws j)
      (λ (i : ℕ). lt_z (next_before ws j i) (left ws (j + 1 + i)) && lt_z (left ws (j + 1 + i)) (pos (stage_size ws (n + 1)))) e i l)

  next_range : (i : ℕ) → i < branches ws j → (le_z (negsuc 0) (left ws (j + 1 + i)) ≡ true) × (nat_abs (left ws (j + 1 + i)) < stage_size ws (n + 1))
  next_range zero l = let t = next_tests 0 l in raised (negsuc 0) (left ws (j + 1 + 0)) (stage_size ws (n + 1)) refl t.0 t.1
  next_range (suc i) l =
      let t = next_tests (suc i) l in
      raised (left ws (j + 1 + i)) (left ws (j + 1 + suc i)) (stage_size ws (n + 1)) (next_range i (omega arith)).0 t.0 t.1

-- ---- question 12

module _ (ws : Words) (n j : ℕ) (e : weights_allowed ws n j ≡ true) where
  weight_tests : (all (branches ws j) (λ (i : ℕ). inside (pos 1) (pos (scale ws)) (right ws (j + 1 + i))) ≡ true)
      × ((eqb n (horizon ws) || leb (weight_sum ws j) (scale ws)) ≡ true)
  unfolding weights_allowed
  weight_tests =
      and-true (all (branches ws j) (λ (i : ℕ). inside (pos 1) (pos (scale ws)) (right ws (j + 1 + i))))
      (eqb n (horizon ws) || leb (weight_sum ws j) (scale ws)) e

  weight_range : (i : ℕ) → i < branches ws j → (1 ≤ nat_abs (right ws (j + 1 + i))) × (nat_abs (right ws (j + 1 + i)) ≤ scale ws)
  weight_range i l =
      inside_range 1 (scale ws) (right ws (j + 1 + i))
      (all-at (branches ws j) (λ (i : ℕ). inside (pos 1) (pos (scale ws)) (right ws (j + 1 + i))) weight_tests.0 i l)

  weight_sum_lem : n < horizon ws → weight_sum ws j ≤ scale ws
  weight_sum_lem l = leb-true (weight_sum ws j) (scale ws) (rw (ne_eqb n (horizon ws) (λ q. omega arith)) at weight_tests.1)

pub no_weight : (ws : Words) (j : ℕ) → branches ws j ≡ 0 → weight_sum ws j ≡ 0
unfolding weight_sum
no_weight ws j e = rw e

-- ---- an accepted book

module _ (ws : Words) (ok : book_number ws ≡ 0) where
  facts : Accepted ws
  facts = accepted ws ok

  -- stage 0 has state 0 alone
  first_one : first_state ws 1 ≡ 1
  first_one = omega (arith, first_step ws 0, first-zero ws, facts.sizes.one)

  some_state : 0 < state_count ws
  unfolding state_count
  some_state = omega (arith, first_one, first_mono ws 1 (horizon ws + 1) (omega arith))

  -- from state 0 all stages with a decision are still to come
  pub togo_start : togo ws 0 ≡ horizon ws
  unfolding togo
  togo_start =
      omega (arith, stage_is ws 0 0 (record { within = omega arith; from = omega (arith, first-zero ws); to = omega (arith, first_one) }))

  -- a next state q of state p: it is later, it is a state of the model, and it is one stage on
  abbrev NextOf : ℕ → ℕ → Type 0
  NextOf p q = (p < q) × (q < state_count ws) × (togo ws p ≡ suc (togo ws q))

  stage_on : (p v : ℕ) → p < state_count ws → stage ws p < horizon ws → v < stage_size ws (stage ws p + 1)
      → NextOf p (first_state ws (stage ws p + 1) + v)
  unfolding state_count togo
  stage_on p v l h k = (
    omega (arith, here.to),
    omega (arith, next.to, first_mono ws (n + 1 + 1) (horizon ws + 1) (omega arith)),
    omega (arith, stage_is ws q (n + 1) next),
  )
    where
      n : ℕ
      n = stage ws p

      q : ℕ
      q = first_state ws (n + 1) + v

      here : OfStage ws p n
      here = of_stage ws p l

      next : OfStage ws q (n + 1)
      next = record { within = omega arith; from = omega arith; to = omega (arith, first_step ws (n + 1)) }

  -- an action with a transition is of a stage before stage H
  before_last : (p c i : ℕ) → p < state_count ws → c < action_count ws p → i < branches ws (action_line ws p c) → stage ws p < horizon ws
  before_last p c i l k b = go (eq-or-lt_of_le (of_stage ws p l).within)
    where
      go : (stage ws p ≡ horizon ws) ⊎ (stage ws p < horizon ws) → stage ws p < horizon ws
      go (inl e) = absurd (omega (arith, facts.branches-last p c l k e))
      go (inr h) = h

  next-states : (p c : ℕ) → AtNexts (NextOf p) (action ws p c).transitions
  unfolding transition_at
  next-states p c =
      by_action ws (λ (a : Action). AtNexts (NextOf p) a.transitions) p c tt
      (λ l k. every_read ws (λ (t : Transition). NextOf p t.next) (stage ws p) (action_line ws p c)
      (λ i b. stage_on p (nat_abs (left ws (action_line ws p c + 1 + i))) l (before_last p c i l k b)
      (next_range ws (stage ws p) (action_line ws p c) (facts.nexts-allowed p c l k) i b).1))

  weights_positive : (p c : ℕ) → Every (λ (t : Transition). 0 < t.weight) (action ws p c).transitions
  unfolding transition_at
  weights_positive p c =
      by_action ws (λ (a : Action). Every (λ (t : Transition). 0 < t.weight) a.transitions) p c tt
      (λ l k. every_read ws (λ (t : Transition). 0 < t.weight) (stage ws p) (action_line ws p c)
      (λ i b. (weight_range ws (stage ws p) (action_line ws p c) (facts.weights-allowed p c l k) i b).0))

  -- no state has an action 255
  no_action_lem : (p : ℕ) → (action ws p 255).transitions ≡ []
  no_action_lem p =
      by_action ws (λ (a : Action). a.transitions ≡ []) p 255 refl (λ l k. absurd (omega (arith, facts.counts_high p l)))

  pub shape : Shape (state_count ws) (action ws) (togo ws)
  shape = record {
    some_state = some_state;
    step = λ p c. every_imp (λ t h. h.2) (action ws p c).transitions (next-states p c);
    later = λ p c. every_imp (λ t h. h.0) (action ws p c).transitions (next-states p c);
    inside = λ p c. every_imp (λ t h. h.1) (action ws p c).transitions (next-states p c);
    positive = weights_positive;
    bare = no_action_lem;
  }

  -- ---- the actions from which a policy goes on

  -- a feasible action leads to states from which a policy goes on
  pub nexts_alive : (p c : ℕ) → Feasible ws p c → AtNexts (Alive ws) (action ws p c).transitions
  unfolding feasible
  nexts_alive p c i =
      every_both (λ t l g. record { state = l; some = g }) (action ws p c).transitions (shape.inside p c)
      ((feasible_is (state_count ws) (action ws) (togo ws) shape (options ws) p c).0 i).1

  -- an option that leads to such states alone is one
  pub alive_feasible : (p c : ℕ) → Option ws p c → AtNexts (Alive ws) (action ws p c).transitions → Feasible ws p c
  unfolding feasible
  alive_feasible p c o h =
      (feasible_is (state_count ws) (action ws) (togo ws) shape (options ws) p c).1 (o, every_imp (λ t a. a.some) (action ws p c).transitions h)

  pub lists : Alive ws 0 → Lists (Alive ws) (action ws) (feasible ws)
  lists first = record {
    rising = lists_rising ws;
    first_alive = first;
    some_action = λ p a. a.some;
    stays_alive = λ p c a o. nexts_alive p c o;
  }

  -- "no plan takes it": the policies that keep to feasible actions are the model's policies
  pub policies-feasible : policies ws ≡ policies_from (action ws) (feasible ws) (state_count ws) 0 (0 ∷ [])
  unfolding policies feasible
  policies-feasible = sym (same-policies (state_count ws) (action ws) (togo ws) shape (options ws) (state_count ws) 0 (0 ∷ []) (zero-add (state_count ws)))

  pub policy-feasible : (bs : Policy) → T (is_policy ws bs) ↔ IsPolicy (action ws) (feasible ws) (state_count ws) 0 (0 ∷ []) bs
  unfolding policies feasible
  policy-feasible bs = (
    λ t. in_policy (action ws) (feasible ws) (state_count ws) 0 (0 ∷ []) bs
        (subst (In bs) policies-feasible (policy_in (action ws) (options ws) (state_count ws) 0 (0 ∷ []) bs ((policy_is ws bs).0 t))),
    λ i. (policy_is ws bs).1
        (other_options (action ws) shape.later (feasible ws) (options ws) (state_count ws) bs (λ q r o. to_option ws q (byte_at bs q) o) i),
  )

  -- a policy goes on from state p exactly if there is a policy of the states from p on that reaches p
  pub alive_is : (p : ℕ) → p < state_count ws
      → Alive ws p ↔ ((bs : Policy) × IsPolicy (action ws) (options ws) (state_count ws - p) p (p ∷ []) bs)
  unfolding feasible
  alive_is p l =
      let g = goes_on_is (state_count ws) (action ws) (togo ws) shape (options ws) p l in
      (λ a. g.0 a.some, λ b. record { state = l; some = g.1 b })

  -- 28: the book has a policy exactly if one goes on from state 0
  pub has_alive : has_policy ws ≡ true → Alive ws 0
  has_alive e =
      let all : state_count ws - 0 ≡ state_count ws = omega arith in
      let b = (has-policy ws).0 e in
      (alive_is 0 some_state).1 (b.0, rw all b.1)

  pub alive_has : Alive ws 0 → has_policy ws ≡ true
  alive_has a =
      let all : state_count ws - 0 ≡ state_count ws = omega arith in
      let b = (alive_is 0 some_state).0 a in
      (has-policy ws).1 (b.0, rw all at b.1)

  pub has_is : has_policy ws ≡ not (is_empty (feasible ws 0))
  has_is =
      same_test (has_policy ws) (not (is_empty (feasible ws 0)))
      (λ t. let a = has_alive (T_true (has_policy ws) t) in false-T (in_some (feasible ws 0) a.some.0 a.some.1))
      (λ t. true-T (alive_has (record { state = some_state; some = some_in (feasible ws 0) (not-true (is_empty (feasible ws 0)) (T_true _ t)) })))

  -- "a choice's weights as adding to at most D": of any state and action
  pub weights_bound : (p c : ℕ) → weights_of (action ws p c).transitions ≤ scale ws
  weights_bound p c =
      by_action ws (λ (a : Action). weights_of a.transitions ≤ scale ws) p c (omega arith)
      (λ l k. rw (weights_read ws (stage ws p) (action_line ws p c)) (go l k (eq-or-lt_of_le (of_stage ws p l).within)))
    where
      go : p < state_count ws → c < action_count ws p → (stage ws p ≡ horizon ws) ⊎ (stage ws p < horizon ws)
          → weight_sum ws (action_line ws p c) ≤ scale ws
      go l k (inl e) = omega (arith, no_weight ws (action_line ws p c) (facts.branches-last p c l k e))
      go l k (inr h) = omega (arith, weight_sum_lem ws (stage ws p) (action_line ws p c) (facts.weights-allowed p c l k) h)

  -- and the cost of one that a policy may take, or of none, is at most the largest
  open_bound : (p c : ℕ) → closed (action ws p c).cost ≡ false → nat_abs (action ws p c).cost ≤ largest_cost ws
  unfolding read_action
  open_bound p c =
      by_action ws (λ (a : Action). closed a.cost ≡ false → nat_abs a.cost ≤ largest_cost ws) p c (λ e. omega arith)
      (λ l k e. rw e at (facts.cost_bounded p c l k))

  pub cost_bound : (p c : ℕ) → (c ≡ 255) ⊎ Option ws p c → nat_abs (action ws p c).cost ≤ largest_cost ws
  cost_bound p c (inl e) =
      subst (λ (b : ℕ). nat_abs (action ws p b).cost ≤ largest_cost ws) (sym e)
      (by_action ws (λ (a : Action). nat_abs a.cost ≤ largest_cost ws) p 255 (omega arith) (λ l k. absurd (omega (arith, facts.counts_high p l))))
  cost_bound p c (inr o) = open_bound p c (option_open ws p c o)

  -- of what a policy takes at any state
  pub cost-feasible : (p c : ℕ) → (c ≡ 255) ⊎ Feasible ws p c → nat_abs (action ws p c).cost ≤ largest_cost ws
  cost-feasible p c t = cost_bound p c (⊎_elim inl (λ i. inr (to_option ws p c i)) t)
