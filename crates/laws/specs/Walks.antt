-- What the walk through the states says of a policy: which states it reaches, and its byte at each. For any actions and options.
-- Assumes nothing.
use Rattle.std.specs.Prelude.{◌≡◌, refl, Bool, true, false, ◌⊎◌, List, [], ◌∷◌, ℕ, zero, suc, ◌+◌, ◌≤◌, ◌<◌, T, length}
use Rattle.std.proofs.Common.{sym, ap, ◌∙◌, subst, inl, inr, eq-or-lt_of_le, arith}
use Rattle.model.specs.Lists.{is_in}
use Rattle.model.specs.Model.{Transition, Action}
use Rattle.model.specs.Policy.{Policy, nexts, allowed, onward}
use Rattle.model.specs.Path.{byte_at}
use Rattle.laws.specs.Members.{T_true, true-T, In, in_one, in_++, is_in_in, in_is_in, AtNexts, at_nexts}
use Rattle.laws.specs.Policies.{IsPolicy, policy-length, reached_from, reached_mono, reached_late, Reads, reads}

module _ (act : ℕ → ℕ → Action) (opts : ℕ → List ℕ) (later : (p c : ℕ) → AtNexts (λ q. p < q) (act p c).transitions) where
  -- at its turn in the walk a state is known to be reached if it is reached at all
  known : (p : ℕ) (reach : List ℕ) (bs : Policy) → is_in p (reached_from act p reach bs) ≡ is_in p reach
  known p reach bs = go (is_in p reach) refl (is_in p (reached_from act p reach bs)) refl
    where
      never : is_in p reach ≡ false → In p reach ⊎ (p < p) → is_in p (reached_from act p reach bs) ≡ false
      never e (inl i) = absurd (subst T e (in_is_in p reach i))
      never e (inr l) = absurd (omega arith)

      go : (b : Bool) → is_in p reach ≡ b → (c : Bool) → is_in p (reached_from act p reach bs) ≡ c → is_in p (reached_from act p reach bs) ≡ is_in p reach
      go true e c k =
          T_true (is_in p (reached_from act p reach bs))
          (in_is_in p (reached_from act p reach bs) (reached_mono act p reach bs p (is_in_in p reach (true-T e))))
          ∙ sym e
      go false e true k =
          never e (reached_late act later p reach bs p (is_in_in p (reached_from act p reach bs) (true-T k))) ∙ sym e
      go false e false k = k ∙ sym e

  module _ (f : ℕ → ℕ) where
    -- the byte at q is one of those allowed there, by whether q is reached
    abbrev AllowedAt : List ℕ → ℕ → Type 0
    AllowedAt reached q = In (f q) (allowed (opts q) (is_in q reached))

    -- the bytes of a policy are allowed at each state
    pub policy-allowed : (n p : ℕ) (reach : List ℕ) (bs : Policy) → IsPolicy act opts n p reach bs → Reads f p bs
        → (q : ℕ) → p ≤ q → q < p + n → In (f q) (allowed (opts q) (is_in q (reached_from act p reach bs)))
    policy-allowed zero p reach bs h r q a l = absurd (omega arith)
    policy-allowed (suc n) p reach [] h r q a l = absurd h
    policy-allowed (suc n) p reach (b ∷ bs) h r q a l =
        go (eq-or-lt_of_le a) (λ k. policy-allowed n (suc p) (onward act p b reach) bs h.1 r.1 q k (omega arith))
      where
        all : List ℕ
        all = reached_from act p reach (b ∷ bs)

        go : (p ≡ q) ⊎ (p < q) → (p < q → AllowedAt all q) → AllowedAt all q
        go (inl e) ih = subst (AllowedAt all) e (rw (r.0, known p reach (b ∷ bs)) h.0)
        go (inr k) ih = ih k

    -- and bytes that are allowed at each state are a policy
    pub allowed-policy : (n p : ℕ) (reach : List ℕ) (bs : Policy) → length bs ≡ n → Reads f p bs
        → ((q : ℕ) → p ≤ q → q < p + n → In (f q) (allowed (opts q) (is_in q (reached_from act p reach bs)))) → IsPolicy act opts n p reach bs
    allowed-policy zero p reach [] e r h = tt
    allowed-policy zero p reach (b ∷ bs) e r h = absurd (omega arith)
    allowed-policy (suc n) p reach [] e r h = absurd (omega arith)
    allowed-policy (suc n) p reach (b ∷ bs) e r h = (
      rw (r.0, known p reach (b ∷ bs)) at (h p (omega arith) (omega arith)),
      allowed-policy n (suc p) (onward act p b reach) bs (omega arith) r.1 (λ q a l. h q (omega arith) (omega arith)),
    )

    -- q is a next state of a lower state that is reached
    abbrev Follows : List ℕ → ℕ → Type 0
    Follows reached q = (s : ℕ) × In s reached × (s < q) × In q (nexts (act s (f s)).transitions)

    -- a state that a policy reaches was known to be reached, or follows another
    pub reached_from_lem : ((p : ℕ) → (act p 255).transitions ≡ []) → (n p : ℕ) (reach : List ℕ) (bs : Policy)
        → IsPolicy act opts n p reach bs → Reads f p bs → (q : ℕ) → In q (reached_from act p reach bs)
        → In q reach ⊎ ((s : ℕ) × In s (reached_from act p reach bs) × (s < q) × In q (nexts (act s (f s)).transitions))
    reached_from_lem bare n p reach [] h r q i = inl i
    reached_from_lem bare zero p reach (b ∷ bs) h r q i = absurd h
    reached_from_lem bare (suc n) p reach (b ∷ bs) h r q i =
        go (reached_from_lem bare n (suc p) (onward act p b reach) bs h.1 r.1 q i)
      where
        all : List ℕ
        all = reached_from act p reach (b ∷ bs)

        here : (c : Bool) → is_in p reach ≡ c → In q (nexts (act p b).transitions) → In q reach ⊎ Follows all q
        here true e j = inr (
          p,
          reached_mono act p reach (b ∷ bs) p (is_in_in p reach (true-T e)),
          at_nexts (λ r. p < r) (act p b).transitions (later p b) q j,
          rw r.0 j,
        )
        here false e j =
            absurd (subst (λ (ts : List Transition). In q (nexts ts)) (ap (λ (x : ℕ). (act p x).transitions) (in_one (rw e at h.0)) ∙ bare p) j)

        split : In q (nexts (act p b).transitions) ⊎ In q reach → In q reach ⊎ Follows all q
        split (inl j) = here (is_in p reach) refl j
        split (inr j) = inl j

        go : In q (onward act p b reach) ⊎ Follows all q → In q reach ⊎ Follows all q
        go (inl j) = split (in_++ q (nexts (act p b).transitions) reach j)
        go (inr s) = inr s

-- bytes that are a policy by some options are one by others, if these have each byte of a state that is reached
pub other_options : (act : ℕ → ℕ → Action) (later : (p c : ℕ) → AtNexts (λ q. p < q) (act p c).transitions) (opts others : ℕ → List ℕ) (n : ℕ)
    (bs : Policy) → ((q : ℕ) → In q (reached_from act 0 (0 ∷ []) bs) → In (byte_at bs q) (opts q) → In (byte_at bs q) (others q))
    → IsPolicy act opts n 0 (0 ∷ []) bs → IsPolicy act others n 0 (0 ∷ []) bs
other_options act later opts others n bs h is =
    allowed-policy act others later (byte_at bs) n 0 (0 ∷ []) bs (policy-length act opts n 0 (0 ∷ []) bs is) (reads bs)
    (λ q a l. go q (is_in q all) refl (policy-allowed act opts later (byte_at bs) n 0 (0 ∷ []) bs is (reads bs) q a l))
  where
    all : List ℕ
    all = reached_from act 0 (0 ∷ []) bs

    go : (q : ℕ) (b : Bool) → is_in q all ≡ b → In (byte_at bs q) (allowed (opts q) b) → In (byte_at bs q) (allowed (others q) b)
    go q true e o = h q (is_in_in q all (true-T e)) o
    go q false e o = o
