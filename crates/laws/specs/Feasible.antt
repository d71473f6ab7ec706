-- The actions from which a policy goes on: a policy takes no other, so the policies are those that keep to these actions, and there is one exactly if
-- state 0 has such an action. For any actions and options.
-- Assumes nothing.
use Rattle.std.specs.Prelude.{◌≡◌, refl, Bool, true, false, not, cond, ◌↔◌, List, [], ◌∷◌, ◌++◌, map, ℕ, zero, suc, ◌+◌, ◌-◌, ◌≤◌, ◌<◌, T, eqb}
use Rattle.std.proofs.Common.{sym, ap, ◌∙◌, subst, inl, ⊎_elim, arith, eq-eqb, ne_eqb}
use Rattle.std.proofs.Math.Path.{fun_ext}
use Rattle.std.proofs.lemmas.Bool.{not-true}
use Rattle.model.specs.Lists.{is_in, is_empty, every, for_each}
use Rattle.model.specs.Model.{Transition, Action}
use Rattle.model.specs.Policy.{Policy, nexts, allowed, onward, policies_from}
use Rattle.model.specs.Recursion.{feasible_from}
use Rattle.laws.specs.Members.{T_true, true-T, false-T, In, in_one, every_imp, every_both, in_++, ++-in, is_in_in, Rising, AtNexts, at_nexts, nexts_at}
use Rattle.laws.specs.Kept.{keep_in, in_keep, every_is, for_each-keep, keep_rising, some_in, in_some, none_in}
use Rattle.laws.specs.Policies.{IsPolicy, in_policy, reached_from, reached_mono, reached-closed, Reads}
use Rattle.laws.specs.First.{Shape}

-- bytes from state p on are those that some function gives
module _ (f g : ℕ → ℕ) where
  reads_same : (p : ℕ) (bs : Policy) → ((q : ℕ) → p ≤ q → f q ≡ g q) → Reads f p bs → Reads g p bs
  reads_same p [] h r = tt
  reads_same p (b ∷ bs) h r = (sym (h p (omega arith)) ∙ r.0, reads_same (suc p) bs (λ q a. h q (omega arith)) r.1)

reads_from : (p : ℕ) (bs : Policy) → (f : ℕ → ℕ) × Reads f p bs
reads_from p [] = (λ q. q, tt)
reads_from p (b ∷ bs) =
    let r = reads_from (suc p) bs in
    let f : ℕ → ℕ = λ q. cond (eqb q p) b (r.0 q) in
    (f, (rw (eq-eqb p p refl), reads_same r.0 f (suc p) bs (λ q a. sym (rw (ne_eqb q p (λ e. omega arith)))) r.1))

module _ (act : ℕ → ℕ → Action) (opts : ℕ → List ℕ) where
  -- a feasible action is an option, and they stand in the same order
  pub feasible_option : (m p c : ℕ) → In c (feasible_from act opts m p) → In c (opts p)
  feasible_option zero p c i = i
  feasible_option (suc m) p c i =
      (keep_in (λ (c : ℕ). every (λ (t : Transition). not (is_empty (feasible_from act opts m t.next))) (act p c).transitions) c (opts p) i).0

  pub feasible_rising : (m p : ℕ) → Rising (opts p) → Rising (feasible_from act opts m p)
  feasible_rising zero p h = h
  feasible_rising (suc m) p h =
      keep_rising (λ (c : ℕ). every (λ (t : Transition). not (is_empty (feasible_from act opts m t.next))) (act p c).transitions) (opts p) h

module _ (S : ℕ) (act : ℕ → ℕ → Action) (togo : ℕ → ℕ) (sh : Shape S act togo) (opts : ℕ → List ℕ) where
  abbrev feasible : ℕ → List ℕ
  feasible p = feasible_from act opts (togo p) p

  -- a policy goes on from state p
  abbrev pub GoesOn : ℕ → Type 0
  GoesOn p = (c : ℕ) × In c (feasible_from act opts (togo p) p)

  -- ---- what a feasible action is

  abbrev goes : ℕ → Transition → Bool
  goes m t = not (is_empty (feasible_from act opts m t.next))

  goes_on : (m : ℕ) (t : Transition) → m ≡ togo t.next → T (goes m t) ↔ GoesOn t.next
  goes_on m t e = rw e (
    λ h. some_in (feasible t.next) (not-true (is_empty (feasible t.next)) (T_true (goes (togo t.next) t) h)),
    λ h. false-T (in_some (feasible t.next) h.0 h.1),
  )

  -- an option whose next states each have a feasible action
  pub feasible_is : (p c : ℕ) → In c (feasible_from act opts (togo p) p) ↔ (In c (opts p) × AtNexts GoesOn (act p c).transitions)
  feasible_is p c = go (togo p) (sh.step p c)
    where
      Says : Type 0
      Says = In c (opts p) × AtNexts GoesOn (act p c).transitions

      go : (m : ℕ) → AtNexts (λ q. m ≡ suc (togo q)) (act p c).transitions → In c (feasible_from act opts m p) ↔ Says
      go zero h = (λ i. (i, every_imp (λ t e. absurd (omega arith)) (act p c).transitions h), λ s. s.0)
      go (suc m) h =
          let ts = (act p c).transitions in
          let one : (t : Transition) → suc m ≡ suc (togo t.next) → T (goes m t) ↔ GoesOn t.next = λ t e. goes_on m t (omega arith) in (
            λ i. let k = keep_in (λ (c : ℕ). every (goes m) (act p c).transitions) c (opts p) i in
                (k.0, every_both (λ t e g. (one t e).0 g) ts h ((every_is (goes m) ts).0 k.1)),
            λ s. in_keep (λ (c : ℕ). every (goes m) (act p c).transitions) c (opts p) s.0
                ((every_is (goes m) ts).1 (every_both (λ t e g. (one t e).1 g) ts h s.1)),
          )

  -- ---- a policy takes feasible actions alone

  module _ (f : ℕ → ℕ) (n p : ℕ) (reach : List ℕ) (bs : Policy) (all : p + n ≡ S) (is : IsPolicy act opts n p reach bs) (r : Reads f p bs) where
    abbrev reached : List ℕ
    reached = reached_from act p reach bs

    here : (q : ℕ) → In q reached → p ≤ q → q < S → In (f q) (opts q) × AtNexts (λ s. In s reached) (act q (f q)).transitions
    here q i a l = reached-closed act opts sh.later f n p reach bs is r q i a (omega arith)

    takes : (m q : ℕ) → togo q ≡ m → In q reached → p ≤ q → q < S → In (f q) (feasible q)
    takes zero q e i a l =
        (feasible_is q (f q)).1 ((here q i a l).0, every_imp (λ t s. absurd (omega arith)) (act q (f q)).transitions (sh.step q (f q)))
    takes (suc m) q e i a l =
        (feasible_is q (f q)).1 (
          (here q i a l).0,
          every_both (λ t s j. (f t.next, takes m t.next (omega (arith, s.0)) j (omega (arith, s.1)) s.2))
              (act q (f q)).transitions (after q) (here q i a l).1,
        )
      where
        after : (q : ℕ) → AtNexts (λ s. (togo q ≡ suc (togo s)) × (q < s) × (s < S)) (act q (f q)).transitions
        after q =
            every_both (λ t x y. (x, y.0, y.1)) (act q (f q)).transitions (sh.step q (f q))
            (every_both {R = λ t. (q < t.next) × (t.next < S)} (λ t x y. (x, y)) (act q (f q)).transitions (sh.later q (f q)) (sh.inside q (f q)))

    -- at each state that it reaches
    pub takes_feasible : (q : ℕ) → In q (reached_from act p reach bs) → p ≤ q → q < S → In (f q) (feasible_from act opts (togo q) q)
    takes_feasible q i a l = takes (togo q) q refl i a l

  -- ---- the policies that keep to feasible actions are the policies

  -- a policy of the states after p shows that the next states of byte b at p go on
  after-byte : (n p b : ℕ) (reach : List ℕ) (bs : Policy) → suc p + n ≡ S → IsPolicy act opts n (suc p) (onward act p b reach) bs
      → AtNexts GoesOn (act p b).transitions
  after-byte n p b reach bs all is =
      let r = reads_from (suc p) bs in
      nexts_at GoesOn (act p b).transitions
      (λ q i. let k = at_nexts (λ s. (p < s) × (s < S)) (act p b).transitions
      (every_both (λ t x y. (x, y)) (act p b).transitions (sh.later p b) (sh.inside p b)) q i in (
        r.0 q,
        takes_feasible r.0 n (suc p) (onward act p b reach) bs all is r.1 q
            (reached_mono act (suc p) (onward act p b reach) bs q (++-in q (nexts (act p b).transitions) reach (inl i))) k.0 k.1,
      ))

  -- "A plan reaching a post with every choice closed is no plan": an option into a state from which no policy goes on begins none
  pub same-policies : (n p : ℕ) (reach : List ℕ) → p + n ≡ S
      → policies_from act (λ p. feasible_from act opts (togo p) p) n p reach ≡ policies_from act opts n p reach
  same-policies zero p reach all = refl
  same-policies (suc n) p reach all =
      ap (λ (g : ℕ → List Policy). for_each (λ (b : ℕ). map (λ (bs : Policy). b ∷ bs) (g b)) (allowed (feasible p) (is_in p reach)))
      (fun_ext (λ b. same-policies n (suc p) (onward act p b reach) (omega arith)))
      ∙ here (is_in p reach)
    where
      rest : ℕ → List Policy
      rest b = policies_from act opts n (suc p) (onward act p b reach)

      begin : ℕ → List Policy
      begin b = map (λ (bs : Policy). b ∷ bs) (rest b)

      barren : (b : ℕ) → In b (opts p) → (In b (feasible p) → ⊥) → begin b ≡ []
      barren b o never =
          ap (map (λ (bs : Policy). b ∷ bs)) (none_in (rest b)
          (λ bs i. never ((feasible_is p b).1 (o, after-byte n p b reach bs (omega arith) (in_policy act opts n (suc p) (onward act p b reach) bs i)))))

      kept : (m : ℕ) → togo p ≡ m → for_each begin (feasible_from act opts m p) ≡ for_each begin (opts p)
      kept zero e = refl
      kept (suc m) e =
          for_each-keep (λ (c : ℕ). every (goes m) (act p c).transitions) begin (opts p)
          (λ b o f. barren b o (λ i. subst T f (keep_in (λ (c : ℕ). every (goes m) (act p c).transitions) b (opts p)
          (subst (λ (m : ℕ). In b (feasible_from act opts m p)) e i)).1))

      here : (t : Bool) → for_each begin (allowed (feasible p) t) ≡ for_each begin (allowed (opts p) t)
      here true = kept (togo p) refl
      here false = refl

  -- ---- where a policy goes on, there is one

  some_policy : (n p : ℕ) (reach : List ℕ) → p + n ≡ S → ((q : ℕ) → In q reach → GoesOn q) → (bs : Policy) × IsPolicy act opts n p reach bs
  some_policy zero p reach all h = ([], tt)
  some_policy (suc n) p reach all h = more (is_in p reach) refl (λ b a. some_policy n (suc p) (onward act p b reach) (omega arith) a)
    where
      Found : Type 0
      Found = (bs : Policy) × IsPolicy act opts (suc n) p reach bs

      more : (t : Bool) → is_in p reach ≡ t
          → ((b : ℕ) → ((q : ℕ) → In q (onward act p b reach) → GoesOn q) → (bs : Policy) × IsPolicy act opts n (suc p) (onward act p b reach) bs)
          → Found
      more true e next =
          let g = h p (is_in_in p reach (true-T e)) in
          let o = (feasible_is p g.0).0 g.1 in
          let r = next g.0 (λ q i. ⊎_elim (at_nexts GoesOn (act p g.0).transitions o.1 q) (h q) (in_++ q (nexts (act p g.0).transitions) reach i)) in
          (g.0 ∷ r.0, (subst (λ (t : Bool). In g.0 (allowed (opts p) t)) (sym e) o.0, r.1))
      more false e next =
          let r = next 255 (λ q i. h q (subst (λ (ts : List Transition). In q (nexts ts ++ reach)) (sh.bare p) i)) in
          (255 ∷ r.0, (rw e (inl refl), r.1))

  -- a policy goes on from state p exactly if there is a policy of the states from p on that reaches p
  pub goes_on_is : (p : ℕ) → p < S → GoesOn p ↔ ((bs : Policy) × IsPolicy act opts (S - p) p (p ∷ []) bs)
  goes_on_is p l = (
    λ g. some_policy (S - p) p (p ∷ []) (omega arith) (λ q i. subst GoesOn (sym (in_one i)) g),
    λ b. let r = reads_from p b.0 in (
      r.0 p,
      takes_feasible r.0 (S - p) p (p ∷ []) b.0 (omega arith) b.1 r.1 p (reached_mono act p (p ∷ []) b.0 p (inl refl)) (omega arith) l,
    ),
  )
