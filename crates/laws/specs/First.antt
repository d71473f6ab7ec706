-- The first of the policies that keep to given lists of actions: no policy of the lists is cheaper, none as cheap has lower bytes, and its cost is
-- the least cost-to-go. With `opts` all actions it is the model's first policy; with the actions of the first states held and some barred at one
-- state, the first of that part of the policies.
-- Assumes nothing.
use Rattle.std.specs.Prelude.{◌≡◌, refl, Bool, true, false, ◌⊎◌, List, [], ◌∷◌, ℕ, zero, suc, ◌+◌, ◌≤◌, ◌<◌, T, ℤ, ◌≤ℤ◌}
use Rattle.std.proofs.Common.{sym, ◌∙◌, subst, inl, inr, arith, eq-or-lt_of_le}
use Rattle.std.specs.Int.Signed.{≤ℤ_refl}
use Rattle.model.specs.Lists.{is_in}
use Rattle.model.specs.Model.{Transition, Action}
use Rattle.model.specs.Policy.{Policy, nexts, allowed, onward}
use Rattle.model.specs.Path.{byte_at}
use Rattle.model.specs.Recursion.{cost_to_go, best_of, through, least_to_go}
use Rattle.model.specs.Order.{lower}
use Rattle.laws.specs.Int.{≤ℤ-antisym}
use Rattle.laws.specs.Members.{T_true, true-T, In, in_one, Every, in_++, every_both, is_in_in, in_is_in, Rising, AtNexts, at_nexts}
use Rattle.laws.specs.Best.{best_in, Obeys, Tight, least_below, tight, tight_least}
use Rattle.laws.specs.Policies.{IsPolicy, reached_from, reached_mono, reached_late, reached-closed, Reads, reads}
use Rattle.laws.specs.Greedy.{byte_of, best, greedy, obeys_on, tight_on, lowest}

-- what the actions of a model of S states are: each leads to later states of the model, which are one stage on; weights are at least 1; and byte 255
-- stands for no action
pub record Shape (S : ℕ) (act : ℕ → ℕ → Action) (togo : ℕ → ℕ) : Type 0 where
  pub some_state : 0 < S
  pub step : (p c : ℕ) → AtNexts (λ q. togo p ≡ suc (togo q)) (act p c).transitions
  pub later : (p c : ℕ) → AtNexts (λ q. p < q) (act p c).transitions
  pub inside : (p c : ℕ) → AtNexts (λ q. q < S) (act p c).transitions
  pub positive : (p c : ℕ) → Every (λ (t : Transition). 0 < t.weight) (act p c).transitions
  pub bare : (p : ℕ) → (act p 255).transitions ≡ []

-- what lists of actions are: each rises; and `Alive` is a set of states that holds state 0, where each state of the set has an action in its list,
-- and each such action leads to states of the set. (Where every state has an action in its list, that may be all states.)
pub record Lists (Alive : ℕ → Type 0) (act : ℕ → ℕ → Action) (opts : ℕ → List ℕ) : Type 0 where
  pub rising : (p : ℕ) → Rising (opts p)
  pub first_alive : Alive 0
  pub some_action : (p : ℕ) → Alive p → (c : ℕ) × In c (opts p)
  pub stays_alive : (p c : ℕ) → Alive p → In c (opts p) → AtNexts Alive (act p c).transitions

-- the cost-to-go of a policy from state 0
abbrev pub cost_from0 : ℕ → (ℕ → ℕ → Action) → (ℕ → ℕ) → Policy → ℤ
cost_from0 D act togo bs = cost_to_go D (λ p. act p (byte_at bs p)) (togo 0) 0

-- the policy that takes the lowest best action at each of the S states that it reaches
abbrev pub first_policy : ℕ → ℕ → (ℕ → ℕ → Action) → (ℕ → ℕ) → (ℕ → List ℕ) → Policy
first_policy D S act togo opts = greedy D act opts togo S 0 (0 ∷ [])

-- ---- the states that a policy reaches

module _ (S : ℕ) (act : ℕ → ℕ → Action) (togo : ℕ → ℕ) (sh : Shape S act togo) (opts : ℕ → List ℕ) where
  -- of the S states
  abbrev Reached : Policy → ℕ → Type 0
  Reached bs q = In q (reached_from act 0 (0 ∷ []) bs) × (q < S)

  module _ (bs : Policy) (is : IsPolicy act opts S 0 (0 ∷ []) bs) where
    reached : Reached bs 0
    reached = (reached_mono act 0 (0 ∷ []) bs 0 (inl refl), sh.some_state)

    closed : (q : ℕ) → Reached bs q
        → In (byte_at bs q) (opts q) × AtNexts (λ r. In r (reached_from act 0 (0 ∷ []) bs)) (act q (byte_at bs q)).transitions
    closed q r = reached-closed act opts sh.later (byte_at bs) S 0 (0 ∷ []) bs is (reads bs) q r.0 (omega arith) (omega arith)

    stays : (q : ℕ) → Reached bs q → AtNexts (Reached bs) (act q (byte_at bs q)).transitions
    stays q r = every_both (λ t i l. (i, l)) (act q (byte_at bs q)).transitions (closed q r).1 (sh.inside q (byte_at bs q))

    -- a policy of the lists obeys them from state 0 on
    pub policy_obeys : (m : ℕ) → Obeys act opts (byte_at bs) m 0
    policy_obeys m = obeys_on act opts (byte_at bs) (Reached bs) stays (λ q r. (closed q r).0) m 0 reached

module _ (D S : ℕ) (act : ℕ → ℕ → Action) (togo : ℕ → ℕ) (sh : Shape S act togo) (Alive : ℕ → Type 0) (opts : ℕ → List ℕ)
    (li : Lists Alive act opts) where
  -- ---- it is a policy of the lists

  -- its byte at state p, and the states known to be reached after it
  abbrev byte : ℕ → List ℕ → ℕ
  byte p reach = byte_of (is_in p reach) (best D act opts togo p)

  abbrev after : ℕ → List ℕ → List ℕ
  after p reach = onward act p (byte p reach) reach

  alive_best : (p : ℕ) → Alive p → In (best D act opts togo p) (opts p)
  unfolding best
  alive_best p h = let c = li.some_action p h in best_in (through D act opts (togo p) p) (opts p) c.0 c.1

  greedy-policy : (n p : ℕ) (reach : List ℕ) → ((q : ℕ) → In q reach → Alive q) → IsPolicy act opts n p reach (greedy D act opts togo n p reach)
  greedy-policy zero p reach h = tt
  greedy-policy (suc n) p reach h = (
    byte_in (is_in p reach) refl,
    greedy-policy n (suc p) (after p reach) (λ q i. split q (in_++ q (nexts (act p (byte p reach)).transitions) reach i)),
  )
    where
      alive : is_in p reach ≡ true → Alive p
      alive e = h p (is_in_in p reach (true-T e))

      byte_in : (c : Bool) → is_in p reach ≡ c → In (byte p reach) (allowed (opts p) (is_in p reach))
      byte_in true e = rw e (alive_best p (alive e))
      byte_in false e = rw e (inl refl)

      fresh : (c : Bool) → is_in p reach ≡ c → (q : ℕ) → In q (nexts (act p (byte p reach)).transitions) → Alive q
      fresh true e q i =
          at_nexts Alive (act p (best D act opts togo p)).transitions
          (li.stays_alive p (best D act opts togo p) (alive e) (alive_best p (alive e))) q (rw e at i)
      fresh false e q i = absurd (subst (λ (ts : List Transition). In q (nexts ts)) (sh.bare p) (rw e at i))

      split : (q : ℕ) → In q (nexts (act p (byte p reach)).transitions) ⊎ In q reach → Alive q
      split q (inl i) = fresh (is_in p reach) refl q i
      split q (inr i) = h q i

  pub is_policy_lem : IsPolicy act opts S 0 (0 ∷ []) (first_policy D S act togo opts)
  is_policy_lem = greedy-policy S 0 (0 ∷ []) (λ q i. subst Alive (sym (in_one i)) li.first_alive)

  -- ---- it is the first

  abbrev G : Policy
  G = first_policy D S act togo opts

  greedy-best : (f : ℕ → ℕ) (n p : ℕ) (reach : List ℕ) → Reads f p (greedy D act opts togo n p reach)
      → (q : ℕ) → In q (reached_from act p reach (greedy D act opts togo n p reach)) → p ≤ q → q < p + n → f q ≡ best D act opts togo q
  greedy-best f zero p reach r q i a b = absurd (omega arith)
  greedy-best f (suc n) p reach r q i a b =
      go (eq-or-lt_of_le a) (λ k. greedy-best f n (suc p) (after p reach) r.1 q i k (omega arith))
    where
      here : In p reach ⊎ (p < p) → f p ≡ best D act opts togo p
      here (inl j) = r.0 ∙ rw (T_true (is_in p reach) (in_is_in p reach j))
      here (inr k) = absurd (omega arith)

      all : List ℕ
      all = reached_from act p reach (greedy D act opts togo (suc n) p reach)

      go : (p ≡ q) ⊎ (p < q) → (p < q → f q ≡ best D act opts togo q) → f q ≡ best D act opts togo q
      go (inl e) ih =
          subst (λ z. f z ≡ best D act opts togo z) e
          (here (reached_late act sh.later p reach (greedy D act opts togo (suc n) p reach) p (subst (λ z. In z all) (sym e) i)))
      go (inr k) ih = ih k

  -- it takes the lowest best action at each state that it reaches
  pub first_byte : (q : ℕ) → In q (reached_from act 0 (0 ∷ []) (first_policy D S act togo opts)) × (q < S)
      → byte_at (first_policy D S act togo opts) q ≡ best_of (through D act opts (togo q) q) (opts q)
  unfolding best
  first_byte q r = greedy-best (byte_at G) S 0 (0 ∷ []) (reads G) q r.0 (omega arith) (omega arith)

  -- and its cost-to-go there is the least
  pub first_to_go : (q : ℕ) → In q (reached_from act 0 (0 ∷ []) (first_policy D S act togo opts)) × (q < S)
      → cost_to_go D (λ p. act p (byte_at (first_policy D S act togo opts) p)) (togo q) q ≡ least_to_go D act opts (togo q) q
  first_to_go q r =
      ≤ℤ-antisym
      (tight_least D act opts (byte_at G) (togo q) q
      (tight_on act opts (byte_at G) R on D togo sh.step (λ q r. rw (first_byte q r) (≤ℤ_refl (least_to_go D act opts (togo q) q))) (togo q) q refl r))
      (least_below D act opts (byte_at G) (togo q) q
      (obeys_on act opts (byte_at G) R on (λ q r. (closed S act togo sh opts G is_policy_lem q r).0) (togo q) q r))
    where
      R : ℕ → Type 0
      R = Reached S act togo sh opts G

      on : (q : ℕ) → Reached S act togo sh opts G q → AtNexts (Reached S act togo sh opts G) (act q (byte_at G q)).transitions
      on = stays S act togo sh opts G is_policy_lem

  -- from state 0 it is the cost
  pub first-cost : cost_from0 D act togo (first_policy D S act togo opts) ≡ least_to_go D act opts (togo 0) 0
  first-cost = first_to_go 0 (reached S act togo sh opts G is_policy_lem)

  -- no policy is cheaper
  pub cheapest : (bs : Policy) → IsPolicy act opts S 0 (0 ∷ []) bs → cost_from0 D act togo (first_policy D S act togo opts) ≤ℤ cost_from0 D act togo bs
  cheapest bs is = rw first-cost (least_below D act opts (byte_at bs) (togo 0) 0 (policy_obeys S act togo sh opts bs is (togo 0)))

  -- and none that is as cheap has lower bytes
  pub comes_first : (bs : Policy) → IsPolicy act opts S 0 (0 ∷ []) bs
      → cost_from0 D act togo bs ≤ℤ cost_from0 D act togo (first_policy D S act togo opts)
      → (first_policy D S act togo opts ≡ bs) ⊎ T (lower (first_policy D S act togo opts) bs)
  comes_first bs is h =
      lowest D act opts togo sh.step li.rising sh.bare (byte_at bs) S 0 (0 ∷ []) bs is (reads bs)
      (λ q i. subst (λ z. Tight D act opts (byte_at bs) (togo z) z) (sym (in_one i)) bs_tight)
    where
      bs_tight : Tight D act opts (byte_at bs) (togo 0) 0
      bs_tight = tight D act opts (byte_at bs) sh.positive (togo 0) 0 (policy_obeys S act togo sh opts bs is (togo 0)) (rw first-cost at h)
