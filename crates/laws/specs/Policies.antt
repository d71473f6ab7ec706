-- Policies as bytes, one for each state in order. `act p c` is action c of state p; `opts p` are the actions that a policy may take at p. The test
-- `fits` and the enumeration `policies_from` agree on what a policy is, and two policies that differ do so first at a state that both reach.
-- Assumes nothing.
use Rattle.std.specs.Prelude.{◌≡◌, refl, Bool, true, false, ◌⊎◌, ◌↔◌, List, [], ◌∷◌, ◌++◌, map, ℕ, zero, suc, ◌+◌, ◌≤◌, ◌<◌, T, length}
use Rattle.std.proofs.Common.{sym, ap, ap₂, ◌∙◌, subst, inl, inr, eq-or-lt_of_le, add-zero, add-suc, suc-add, arith}
use Rattle.std.proofs.Math.Path.{fun_ext}
use Rattle.std.proofs.Math.Decide.{ℕ_discrete}
use Rattle.model.specs.Lists.{is_in, for_each}
use Rattle.model.specs.Model.{Transition, Action}
use Rattle.model.specs.Policy.{Policy, nexts, allowed, onward, fits, policies_from}
use Rattle.model.specs.Path.{byte_at}
use Rattle.laws.specs.Members.{T_true, true-T, and_T, T_and, In, in_one, in_++, ++-in, in_for_each, for_each_in, in_map, map_in, is_in_in, in_is_in}
use Rattle.laws.specs.Members.{AtNexts, at_nexts, nexts_at}

-- byte b in front of each of the policies g b
abbrev begin_with : (ℕ → List Policy) → ℕ → List Policy
begin_with g b = map (λ (bs : Policy). b ∷ bs) (g b)

module _ (act : ℕ → ℕ → Action) (opts : ℕ → List ℕ) where
  -- the bytes are a policy of the n states from p on, where `reach` are the states known to be reached
  abbrev pub IsPolicy : ℕ → ℕ → List ℕ → Policy → Type 0
  IsPolicy zero p reach [] = Unit {0}
  IsPolicy zero p reach (b ∷ bs) = ⊥
  IsPolicy (suc n) p reach [] = ⊥
  IsPolicy (suc n) p reach (b ∷ bs) = In b (allowed (opts p) (is_in p reach)) × IsPolicy n (suc p) (onward act p b reach) bs

  -- the test decides it
  pub fits_is : (n p : ℕ) (reach : List ℕ) (bs : Policy) → T (fits act opts n p reach bs) ↔ IsPolicy n p reach bs
  fits_is zero p reach [] = (λ t. t, λ t. t)
  fits_is zero p reach (b ∷ bs) = (λ t. t, λ t. t)
  fits_is (suc n) p reach [] = (λ t. t, λ t. t)
  fits_is (suc n) p reach (b ∷ bs) =
      let ih = fits_is n (suc p) (onward act p b reach) bs in
      let os : List ℕ = allowed (opts p) (is_in p reach) in (
        λ t. let h = and_T (is_in b os) (fits act opts n (suc p) (onward act p b reach) bs) t in (is_in_in b os h.0, ih.0 h.1),
        λ h. T_and (is_in b os) (fits act opts n (suc p) (onward act p b reach) bs) (in_is_in b os h.0) (ih.1 h.1),
      )

  -- a policy has a byte for each state
  pub policy-length : (n p : ℕ) (reach : List ℕ) (bs : Policy) → IsPolicy n p reach bs → length bs ≡ n
  policy-length zero p reach [] h = refl
  policy-length zero p reach (b ∷ bs) h = absurd h
  policy-length (suc n) p reach [] h = absurd h
  policy-length (suc n) p reach (b ∷ bs) h = ap suc (policy-length n (suc p) (onward act p b reach) bs h.1)

  -- ---- the enumeration holds the policies and nothing else

  -- the policies of the n states after p, with byte b at p
  abbrev rest : ℕ → ℕ → List ℕ → ℕ → List Policy
  rest n p reach b = policies_from act opts n (suc p) (onward act p b reach)

  pub policy_in : (n p : ℕ) (reach : List ℕ) (bs : Policy) → IsPolicy n p reach bs → In bs (policies_from act opts n p reach)
  policy_in zero p reach [] h = inl refl
  policy_in zero p reach (b ∷ bs) h = absurd h
  policy_in (suc n) p reach [] h = absurd h
  policy_in (suc n) p reach (b ∷ bs) h =
      for_each_in (begin_with (rest n p reach)) (b ∷ bs) (allowed (opts p) (is_in p reach)) b h.0
      (map_in (λ (cs : Policy). b ∷ cs) bs (rest n p reach b) (policy_in n (suc p) (onward act p b reach) bs h.1))

  pub in_policy : (n p : ℕ) (reach : List ℕ) (bs : Policy) → In bs (policies_from act opts n p reach) → IsPolicy n p reach bs
  in_policy zero p reach bs (inl e) = subst (IsPolicy zero p reach) (sym e) tt
  in_policy zero p reach bs (inr i) = absurd i
  in_policy (suc n) p reach bs i =
      let f = in_for_each (begin_with (rest n p reach)) bs (allowed (opts p) (is_in p reach)) i in
      let g = in_map (λ (cs : Policy). f.0 ∷ cs) bs (rest n p reach f.0) f.2 in
      subst (IsPolicy (suc n) p reach) (sym g.1) (f.1, in_policy n (suc p) (onward act p f.0 reach) g.0 g.2)

-- ---- the policies rest on the options and the transitions, and not on the costs

module _ (act other : ℕ → ℕ → Action) (transitions : (p c : ℕ) → (other p c).transitions ≡ (act p c).transitions) (opts others : ℕ → List ℕ) where
  pub policies-same : (n p : ℕ) (reach : List ℕ) → ((q : ℕ) → q < p + n → others q ≡ opts q)
      → policies_from other others n p reach ≡ policies_from act opts n p reach
  policies-same zero p reach h = refl
  policies-same (suc n) p reach h =
      ap₂ (λ (g : ℕ → List Policy) (os : List ℕ). for_each (begin_with g) (allowed os (is_in p reach)))
      (fun_ext (λ b. ap (λ (ts : List Transition). policies_from other others n (suc p) (nexts ts ++ reach)) (transitions p b)
      ∙ policies-same n (suc p) (onward act p b reach) (λ q l. h q (omega arith))))
      (h p (omega arith))

-- ---- the states reached

module _ (act : ℕ → ℕ → Action) where
  -- the states known to be reached after the bytes of the states from p on
  abbrev pub reached_from : ℕ → List ℕ → Policy → List ℕ
  reached_from p reach [] = reach
  reached_from p reach (b ∷ bs) = reached_from (suc p) (onward act p b reach) bs

  -- what is known to be reached stays so
  pub reached_mono : (p : ℕ) (reach : List ℕ) (bs : Policy) (q : ℕ) → In q reach → In q (reached_from p reach bs)
  reached_mono p reach [] q i = i
  reached_mono p reach (b ∷ bs) q i =
      reached_mono (suc p) (onward act p b reach) bs q (++-in q (nexts (act p b).transitions) reach (inr i))

  module _ (later : (p c : ℕ) → AtNexts (λ q. p < q) (act p c).transitions) where
    -- what is found to be reached is a later state
    pub reached_late : (p : ℕ) (reach : List ℕ) (bs : Policy) (q : ℕ) → In q (reached_from p reach bs) → In q reach ⊎ (p < q)
    reached_late p reach [] q i = inl i
    reached_late p reach (b ∷ bs) q i = go (reached_late (suc p) (onward act p b reach) bs q i)
      where
        split : In q (nexts (act p b).transitions) ⊎ In q reach → In q reach ⊎ (p < q)
        split (inl j) = inr (at_nexts (λ r. p < r) (act p b).transitions (later p b) q j)
        split (inr j) = inl j

        go : In q (onward act p b reach) ⊎ (suc p < q) → In q reach ⊎ (p < q)
        go (inl j) = split (in_++ q (nexts (act p b).transitions) reach j)
        go (inr h) = inr (omega arith)

-- f has the bytes bs from state p on
abbrev pub Reads : (ℕ → ℕ) → ℕ → Policy → Type 0
Reads f p [] = Unit {0}
Reads f p (b ∷ bs) = (f p ≡ b) × Reads f (suc p) bs

reads_shift : (g : ℕ → ℕ) (p : ℕ) (bs : Policy) → Reads (λ q. g (suc q)) p bs → Reads g (suc p) bs
reads_shift g p [] r = tt
reads_shift g p (b ∷ bs) r = (r.0, reads_shift g (suc p) bs r.1)

-- a policy's bytes are those that `byte_at` reads
pub reads : (bs : Policy) → Reads (byte_at bs) 0 bs
reads [] = tt
reads (b ∷ bs) = (refl, reads_shift (byte_at (b ∷ bs)) 0 bs (reads bs))

module _ (act : ℕ → ℕ → Action) (opts : ℕ → List ℕ) where
  -- at each state that a policy reaches it takes one of the state's actions, and reaches all next states of that
  pub reached-closed : (later : (p c : ℕ) → AtNexts (λ q. p < q) (act p c).transitions)
      → (f : ℕ → ℕ) (n p : ℕ) (reach : List ℕ) (bs : Policy) → IsPolicy act opts n p reach bs → Reads f p bs
      → (q : ℕ) → In q (reached_from act p reach bs) → p ≤ q → q < p + n
      → In (f q) (opts q) × AtNexts (λ r. In r (reached_from act p reach bs)) (act q (f q)).transitions
  reached-closed later f zero p reach bs h r q i a l = absurd (omega arith)
  reached-closed later f (suc n) p reach [] h r q i a l = absurd h
  reached-closed later f (suc n) p reach (b ∷ bs) h r q i a l =
      go (eq-or-lt_of_le a) (λ k. reached-closed later f n (suc p) (onward act p b reach) bs h.1 r.1 q i k (omega arith))
    where
      all : List ℕ
      all = reached_from act (suc p) (onward act p b reach) bs

      Good : ℕ → Type 0
      Good q = In (f q) (opts q) × AtNexts (λ r. In r all) (act q (f q)).transitions

      here : In p reach ⊎ (p < p) → Good p
      here (inl j) =
          rw r.0 (
            rw (T_true (is_in p reach) (in_is_in p reach j)) at h.0,
            nexts_at (λ r. In r all) (act p b).transitions
                (λ q j. reached_mono act (suc p) (onward act p b reach) bs q (++-in q (nexts (act p b).transitions) reach (inl j))),
          )
      here (inr k) = absurd (omega arith)

      go : (p ≡ q) ⊎ (p < q) → (p < q → Good q) → Good q
      go (inl e) ih = subst Good e (here (reached_late act later p reach (b ∷ bs) p (subst (λ z. In z all) (sym e) i)))
      go (inr k) ih = ih k

-- ---- two policies that differ

module _ (act : ℕ → ℕ → Action) where
  -- at state p + index the bytes differ, before it they agree, and both reach it
  pub record FirstDifference (n p : ℕ) (reach : List ℕ) (bs cs : Policy) : Type 0 where
    pub index : ℕ
    pub inside : index < n
    pub agree : (j : ℕ) → j < index → byte_at bs j ≡ byte_at cs j
    pub disagree : byte_at bs index ≡ byte_at cs index → ⊥
    pub reached_by_one : In (p + index) (reached_from act p reach bs)
    pub reached_by_other : In (p + index) (reached_from act p reach cs)

  module _ (opts : ℕ → List ℕ) where
    -- two policies that differ do so first at a state that both reach
    pub differ : (n p : ℕ) (reach : List ℕ) (bs cs : Policy) → IsPolicy act opts n p reach bs → IsPolicy act opts n p reach cs
        → (bs ≡ cs → ⊥) → FirstDifference n p reach bs cs
    differ zero p reach [] [] h k d = absurd (d refl)
    differ zero p reach [] (c ∷ cs) h k d = absurd k
    differ zero p reach (b ∷ bs) cs h k d = absurd h
    differ (suc n) p reach [] cs h k d = absurd h
    differ (suc n) p reach (b ∷ bs) [] h k d = absurd k
    differ (suc n) p reach (b ∷ bs) (c ∷ cs) h k d = go (ℕ_discrete b c) (λ k. differ n (suc p) (onward act p b reach) bs cs h.1 k)
      where
        Rest : Type 0
        Rest = FirstDifference n (suc p) (onward act p b reach) bs cs

        after : Rest → FirstDifference (suc n) p reach (b ∷ bs) (b ∷ cs)
        after r = record {
          index = suc r.index;
          inside = omega arith;
          agree = before;
          disagree = r.disagree;
          reached_by_one = rw (add-suc, ← suc-add) r.reached_by_one;
          reached_by_other = rw (add-suc, ← suc-add) r.reached_by_other;
        }
          where
            before : (j : ℕ) → j < suc r.index → byte_at (b ∷ bs) j ≡ byte_at (b ∷ cs) j
            before zero l = refl
            before (suc j) l = r.agree j (omega arith)

        here : (¬ (b ≡ c)) → (t : Bool) → is_in p reach ≡ t → FirstDifference (suc n) p reach (b ∷ bs) (c ∷ cs)
        here e true i = record {
          index = 0;
          inside = omega arith;
          agree = λ j l. absurd (omega arith);
          disagree = e;
          reached_by_one = rw (add-zero p) (reached_mono act p reach (b ∷ bs) p (is_in_in p reach (true-T i)));
          reached_by_other = rw (add-zero p) (reached_mono act p reach (c ∷ cs) p (is_in_in p reach (true-T i)));
        }
        here e false i = absurd (e (in_one (rw i at h.0) ∙ sym (in_one (rw i at k.0))))

        go : Dec (b ≡ c) → (IsPolicy act opts n (suc p) (onward act p b reach) cs → (bs ≡ cs → ⊥) → Rest)
            → FirstDifference (suc n) p reach (b ∷ bs) (c ∷ cs)
        go (yes e) ih =
            subst (λ (x : ℕ). FirstDifference (suc n) p reach (b ∷ bs) (x ∷ cs)) e
            (after (ih (rw e k.1) (λ q. d (ap₂ (λ (x : ℕ) (xs : Policy). x ∷ xs) e q))))
        go (no e) ih = here e (is_in p reach) refl
