-- The policy that takes the lowest best action at each state that it reaches is no higher, in the order of the bytes, than any policy of the same
-- lists that takes a best action at each state that it reaches.
-- Assumes nothing.
use Rattle.std.specs.Prelude.{◌≡◌, Bool, ◌⊎◌, T, ℤ, ◌≤ℤ◌}
use Rattle.std.proofs.Math.Path.{refl}
use Rattle.std.proofs.Common.{ap, ◌∙◌, subst, arith, eq-or-lt_of_le, add-zero, add-suc, suc-add}
use Rattle.std.proofs.Math.Bool.{true, false}
use Rattle.std.proofs.Math.Logic.{inl, inr}
use mathlib.Core.List.{List, [], ◌∷◌}
use Prim.Native.Nat.{ℕ, zero, suc, ◌+◌, ◌≤◌, ◌<◌}
use Rattle.model.specs.Lists.{is_in}
use Rattle.model.specs.Model.{Transition, Action}
use Rattle.model.specs.Policy.{Policy, nexts, onward}
use Rattle.model.specs.Path.{byte_at}
use Rattle.model.specs.Recursion.{best_of, through, least_to_go}
use Rattle.model.specs.Order.{lower}
use Rattle.laws.specs.Members.{true-T, In, in_one, in_++, every_imp, every_both, is_in_in, Rising, AtNexts, at_nexts}
use Rattle.laws.specs.Best.{best_in, best_low, Obeys, Tight}
use Rattle.laws.specs.Policies.{IsPolicy, Reads}
use Rattle.laws.specs.Order.{lower_is}

-- ---- sets of states that a policy does not leave

module _ (act : ℕ → ℕ → Action) (opts : ℕ → List ℕ) (f : ℕ → ℕ) (R : ℕ → Type 0)
    (stays : (q : ℕ) → R q → AtNexts R (act q (f q)).transitions) where
  -- where f takes an action of the lists at each state of the set, it obeys them at every state reached from each
  pub obeys_on : ((q : ℕ) → R q → In (f q) (opts q)) → (m q : ℕ) → R q → Obeys act opts f m q
  obeys_on g zero q r = g q r
  obeys_on g (suc m) q r = (g q r, every_imp (λ t. obeys_on g m t.next) (act q (f q)).transitions (stays q r))

  -- and where it takes a best action at each, it does at every state reached from each
  pub tight_on : (D : ℕ) (togo : ℕ → ℕ) → ((p c : ℕ) → AtNexts (λ q. togo p ≡ suc (togo q)) (act p c).transitions)
      → ((q : ℕ) → R q → through D act opts (togo q) q (f q) ≤ℤ least_to_go D act opts (togo q) q)
      → (m q : ℕ) → togo q ≡ m → R q → Tight D act opts f m q
  tight_on D togo step g zero q e r = subst (λ (m : ℕ). through D act opts m q (f q) ≤ℤ least_to_go D act opts m q) e (g q r)
  tight_on D togo step g (suc m) q e r = (
    subst (λ (m : ℕ). through D act opts m q (f q) ≤ℤ least_to_go D act opts m q) e (g q r),
    every_both (λ t r s. tight_on D togo step g m t.next (omega arith) r) (act q (f q)).transitions (stays q r) (step q (f q)),
  )

-- ---- the policy

-- b where the state is reached, and else 255
abbrev pub byte_of : Bool → ℕ → ℕ
byte_of true b = b
byte_of false b = 255

best_cases : (f : ℕ → ℤ) (xs : List ℕ) → In (best_of f xs) xs ⊎ (best_of f xs ≡ 255)
best_cases f [] = inr refl
best_cases f (x ∷ xs) = inl (best_in f (x ∷ xs) x (inl refl))

module _ (D : ℕ) (act : ℕ → ℕ → Action) (opts : ℕ → List ℕ) (togo : ℕ → ℕ) where
  -- the lowest best action of state p
  unfoldable pub best : ℕ → ℕ
  best p = best_of (through D act opts (togo p) p) (opts p)

  -- the policy of the n states from p on, where `reach` are the states known to be reached
  abbrev pub greedy : ℕ → ℕ → List ℕ → Policy
  greedy zero p reach = []
  greedy (suc n) p reach =
      byte_of (is_in p reach) (best p) ∷ greedy n (suc p) (onward act p (byte_of (is_in p reach) (best p)) reach)

  -- each of its bytes is an action of the lists, or 255
  pub byte_cases : (n p : ℕ) (reach : List ℕ) (i : ℕ)
      → In (byte_at (greedy n p reach) i) (opts (p + i)) ⊎ (byte_at (greedy n p reach) i ≡ 255)
  unfolding best
  byte_cases zero p reach i = inr refl
  byte_cases (suc n) p reach zero = go (is_in p reach)
    where
      go : (c : Bool) → In (byte_of c (best p)) (opts (p + 0)) ⊎ (byte_of c (best p) ≡ 255)
      go true = rw (add-zero p) (best_cases (through D act opts (togo p) p) (opts p))
      go false = inr refl
  byte_cases (suc n) p reach (suc i) =
      rw (add-suc, ← suc-add) (byte_cases n (suc p) (onward act p (byte_of (is_in p reach) (best p)) reach) i)

  module _ (step : (p c : ℕ) → AtNexts (λ q. togo p ≡ suc (togo q)) (act p c).transitions) (rising : (p : ℕ) → Rising (opts p))
      (bare : (p : ℕ) → (act p 255).transitions ≡ []) where
    -- f takes a best action at p and at every state reached from there
    abbrev TightAt : (ℕ → ℕ) → ℕ → Type 0
    TightAt f p = Tight D act opts f (togo p) p

    tight_here : (f : ℕ → ℕ) (m p : ℕ) → Tight D act opts f m p → through D act opts m p (f p) ≤ℤ least_to_go D act opts m p
    tight_here f zero p h = h
    tight_here f (suc m) p h = h.0

    tight_next : (f : ℕ → ℕ) (p : ℕ) → TightAt f p → AtNexts (TightAt f) (act p (f p)).transitions
    tight_next f p h = go (togo p) refl h
      where
        one_on : (q m : ℕ) → m ≡ togo q → Tight D act opts f m q → TightAt f q
        one_on q m e k = subst (λ (i : ℕ). Tight D act opts f i q) e k

        go : (m : ℕ) → togo p ≡ m → Tight D act opts f m p → AtNexts (TightAt f) (act p (f p)).transitions
        go zero e h = every_imp (λ t s. absurd (omega arith)) (act p (f p)).transitions (step p (f p))
        go (suc m) e h = every_both (λ t s k. one_on t.next m (omega arith) k) (act p (f p)).transitions (step p (f p)) h.1

    -- a policy that takes a best action at each state that it reaches is that policy, or has higher bytes
    pub lowest : (f : ℕ → ℕ) (n p : ℕ) (reach : List ℕ) (bs : Policy) → IsPolicy act opts n p reach bs → Reads f p bs
        → ((q : ℕ) → In q reach → Tight D act opts f (togo q) q) → (greedy n p reach ≡ bs) ⊎ T (lower (greedy n p reach) bs)
    unfolding best
    lowest f zero p reach [] h r t = inl refl
    lowest f zero p reach (b ∷ bs) h r t = absurd h
    lowest f (suc n) p reach [] h r t = absurd h
    lowest f (suc n) p reach (b ∷ bs) h r t =
        join (byte_of (is_in p reach) (best p)) (eq-or-lt_of_le (head_low (is_in p reach) refl))
        (lowest f n (suc p) (onward act p b reach) bs h.1 r.1 onwards)
      where
        -- where p is reached, f takes a best action there
        at_p : is_in p reach ≡ true → TightAt f p
        at_p e = t p (is_in_in p reach (true-T e))

        head_low : (c : Bool) → is_in p reach ≡ c → byte_of (is_in p reach) (best p) ≤ b
        head_low true e =
            rw e (best_low (through D act opts (togo p) p) (opts p) (rising p) (rw e at h.0) (rw r.0 at (tight_here f (togo p) p (at_p e))))
        head_low false e = let b-is : b ≡ 255 = in_one (rw e at h.0) in rw e (omega arith)

        fresh : (c : Bool) → is_in p reach ≡ c → (q : ℕ) → In q (nexts (act p b).transitions) → TightAt f q
        fresh true e q j = at_nexts (TightAt f) (act p b).transitions (rw r.0 at (tight_next f p (at_p e))) q j
        fresh false e q j =
            absurd (subst (λ (ts : List Transition). In q (nexts ts)) (ap (λ (x : ℕ). (act p x).transitions) (in_one (rw e at h.0)) ∙ bare p) j)

        onwards : (q : ℕ) → In q (onward act p b reach) → TightAt f q
        onwards q i = go (in_++ q (nexts (act p b).transitions) reach i)
          where
            go : In q (nexts (act p b).transitions) ⊎ In q reach → TightAt f q
            go (inl j) = fresh (is_in p reach) refl q j
            go (inr j) = t q j

        -- the policy whose first byte is g
        from : ℕ → Policy
        from g = g ∷ greedy n (suc p) (onward act p g reach)

        join : (g : ℕ) → (g ≡ b) ⊎ (g < b) → (greedy n (suc p) (onward act p b reach) ≡ bs) ⊎ T (lower (greedy n (suc p) (onward act p b reach)) bs)
            → (from g ≡ b ∷ bs) ⊎ T (lower (from g) (b ∷ bs))
        join g (inl e) (inl i) = inl (rw (e, i))
        join g (inl e) (inr i) = inr (rw e ((lower_is (from b) (b ∷ bs)).1 (inr (refl, (lower_is (greedy n (suc p) (onward act p b reach)) bs).0 i))))
        join g (inr k) ih = inr ((lower_is (from g) (b ∷ bs)).1 (inl k))
