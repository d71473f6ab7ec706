-- Request 2.8 in its reader's words: what each of the three answers says of a plan, that the answer given is true, and that exactly one fits any plan
-- of the book.
-- Assumes nothing.
use Rattle.std.specs.Prelude.{◌≡◌, refl, Bool, ◌⊎◌, ◌↔◌, T, ℤ, pos, ◌+ℤ◌, ◌-ℤ◌, ◌≤ℤ◌, ◌<ℤ◌}
use Rattle.std.proofs.Common.{sym, ap, ◌∙◌, subst, inl, inr, arith}
use Rattle.std.proofs.Math.Bool.{true, false}
use mathlib.Core.List.{List, []}
use Rattle.std.proofs.Math.Option.{some}
use Prim.Native.Nat.{ℕ, suc, ◌+◌, ◌-◌, ◌≤◌, ◌<◌}
use Rattle.std.proofs.Math.Decide.{dec_lt}
use borrow.Author.Tests.{lt-ltb, le-ltb, ltb-true, ltb-false}
use Rattle.std.proofs.Math.Dec.{ltb}
use Rattle.std.proofs.Math.IntN.{+ℤ_comm, +ℤ-neg_ℤ_cancel, -ℤ-+ℤ_cancel}
use Rattle.std.specs.Int.Signed.{lt_z, lt_z_yes, <ℤ_irrefl}
use Rattle.std.proofs.Math.ListN.{length, get_elem?}
use Rattle.model.specs.Model.{Words}
use Rattle.model.specs.Questions.{book_number}
use Rattle.model.specs.Policy.{Policy, is_policy}
use Rattle.model.specs.Path.{byte_at, policy_cost}
use Rattle.model.specs.Order.{first_difference, comes_before, ranking}
use Rattle.model.specs.Standing.{Answer, is_rank, costs_more, takes_higher, place_in, beside_last, standing, answer_number}
use Rattle.laws.specs.Int.{ints, lt_in, le_in, sum_is}
use Rattle.laws.specs.Members.{In, T_true, same_test}
use Rattle.laws.specs.Sorting.{at_in}
use Rattle.laws.proofs.Difference.{first_only}
use Rattle.laws.specs.Entries.{get_d_at}
use Rattle.accepted.specs.Demands.{reached-inside, policy-bytes, some_policy, listed, in_list, above, list_length_lem, rest-after-last, none-missing}
use Rattle.accepted.specs.Difference.{Sooner, difference_agree, difference_reached, difference_decides, not_listed}
use Rattle.standing.specs.Place.{place_at, place_inside}
use Rattle.standing.specs.Reasons.{before, LastListed, IsRank, Fits}

-- ---- amounts

more_low : (x y : ℤ) → x <ℤ y → pos 1 ≤ℤ (y -ℤ x)
more_low x y l =
    let e : x +ℤ (y -ℤ x) ≡ y = +ℤ_comm x (y -ℤ x) ∙ -ℤ-+ℤ_cancel y x in
    le_in (omega (ints, l, rw e at (sum_is x (y -ℤ x))))

more_high : (x y z : ℤ) → x +ℤ z ≡ y → pos 1 ≤ℤ z → x <ℤ y
more_high x y z e l = rw (← e) (lt_in (omega (ints, l, sum_is x z)))

less_test : (x y : ℤ) → x <ℤ y → lt_z x y ≡ true
less_test x y l = T_true (lt_z x y) l.lt

same-cost-test : (x y : ℤ) → x ≡ y → lt_z x y ≡ false
same-cost-test x y e = rw e (same_test (lt_z y y) false (λ t. <ℤ_irrefl {a = y} (lt_z_yes t)) (λ t. absurd t))

module _ (ws : Words) (ok : book_number ws ≡ 0) (K : ℕ) (low : 1 ≤ K) (bs : Policy) (t : T (is_policy ws bs)) where
  abbrev R : List Policy
  R = ranking ws K

  -- what is said of a plan that is listed, and of one that is not
  rank_answer : In bs R → standing ws K bs ≡ is_rank (before ws K bs + 1)
  unfolding standing
  rank_answer i =
      let l = place_inside R bs i in
      let e : before ws K bs ≡ place_in R bs = ((listed ws ok K (place_in R bs) bs).0 (place_at R bs l)).1 in
      let f : before ws K bs + 1 ≡ suc (place_in R bs) = omega (arith, e) in
      rw (lt-ltb (place_in R bs) (length R) l, f)

  last-answer : (In bs R → ⊥) → (last : Policy) → LastListed ws K last
      → standing ws K bs ≡ beside_last last (policy_cost ws last) bs (policy_cost ws bs)
  unfolding standing
  last-answer n last e = rw (le-ltb (place_in R bs) (length R) (far (ltb (place_in R bs) (length R)) refl), get_d_at R (length R - 1) [] last e)
    where
      far : (b : Bool) → ltb (place_in R bs) (length R) ≡ b → length R ≤ place_in R bs
      far true h = absurd (n (at_in R (place_in R bs) bs (place_at R bs (ltb-true (place_in R bs) (length R) h))))
      far false h = ltb-false (place_in R bs) (length R) h

  more-answer : (x y : ℤ) (last : Policy) → x <ℤ y → beside_last last x bs y ≡ costs_more (y -ℤ x)
  more-answer x y last l = rw (less_test x y l)

  tie_answer : (x y : ℤ) (last : Policy) → x ≡ y → beside_last last x bs y ≡ takes_higher (first_difference last bs)
  tie_answer x y last e = rw (same-cost-test x y e)

  -- a plan that comes after the last listed is not listed
  after_last : (last : Policy) → LastListed ws K last → T (comes_before ws last bs) → In bs R → ⊥
  after_last last e b i =
      let l = place_inside R bs i in
      omega (arith, l, (above ws ok K (length R - 1) (place_in R bs) last bs e (place_at R bs l)).1 b)

  is_listed_lem : (b : Bool) → ltb (place_in R bs) (length R) ≡ b → In bs R ⊎ (In bs R → ⊥)
  is_listed_lem true e = inl (at_in R (place_in R bs) bs (place_at R bs (ltb-true (place_in R bs) (length R) e)))
  is_listed_lem false e = inr (λ i. omega (arith, place_inside R bs i, ltb-false (place_in R bs) (length R) e))

  -- "it is rank j, from 1": line j of the list is the plan
  pub rank_entry : (j : ℕ) → IsRank ws K bs j ↔ ((1 ≤ j) × (get_elem? R (j - 1) ≡ some bs))
  rank_entry j = (
    λ r. (omega (arith, r.from_1), (listed ws ok K (j - 1) bs).1 (t, omega (arith, r.from_1), omega (arith, r.from_1, r.within))),
    λ h. let l = (listed ws ok K (j - 1) bs).0 h.1 in record { from_1 = omega (arith, h.0, l.1); within = omega (arith, h.0, l.2) },
  )

  -- "Prove the stated reason true": the answer that is given fits
  pub reason_true : Fits ws K bs (standing ws K bs)
  reason_true = go (is_listed_lem (ltb (place_in R bs) (length R)) refl)
    where
      beside : (In bs R → ⊥) → (last : Policy) (e : LastListed ws K last) → Sooner ws last bs → Fits ws K bs (standing ws K bs)
      beside n last e (inl l) =
          subst (Fits ws K bs) (sym (last-answer n last e ∙ more-answer (policy_cost ws last) (policy_cost ws bs) last l)) (record {
            last = last;
            is_last = e;
            exact = +ℤ_comm (policy_cost ws last) (policy_cost ws bs -ℤ policy_cost ws last) ∙ -ℤ-+ℤ_cancel (policy_cost ws bs) (policy_cost ws last);
            some_more = more_low (policy_cost ws last) (policy_cost ws bs) l;
          })
      beside n last e (inr l) =
          let i = at_in R (length R - 1) last e in
          let u = ((in_list ws ok K last).0 i).0 in
          let other : last ≡ bs → ⊥ = λ q. n (subst (λ (p : Policy). In p R) q i) in
          subst (Fits ws K bs) (sym (last-answer n last e ∙ tie_answer (policy_cost ws last) (policy_cost ws bs) last l.0)) (record {
            last = last;
            is_last = e;
            same-cost = l.0;
            last_reaches = (difference_reached ws ok last bs u t other).0;
            reaches = (difference_reached ws ok last bs u t other).1;
            agree = difference_agree ws ok last bs u t other;
            higher = l.1;
          })

      go : In bs R ⊎ (In bs R → ⊥) → Fits ws K bs (standing ws K bs)
      go (inl i) =
          subst (Fits ws K bs) (sym (rank_answer i))
          (record { from_1 = refl; within = omega (arith, ((in_list ws ok K bs).0 i).1) })
      go (inr n) =
          let r = rest-after-last ws ok K ((some_policy ws ok).1 (bs, t)) low in
          beside n r.0 r.1 (not_listed ws ok K r.0 bs (at_in R (length R - 1) r.0 r.1) t n)

  -- and no other does
  module _ (last : Policy) (e : LastListed ws K last) where
    last-policy : T (is_policy ws last)
    last-policy = ((in_list ws ok K last).0 (at_in R (length R - 1) last e)).0

    sooner_unlisted : (last ≡ bs → ⊥) → Sooner ws last bs → In bs R → ⊥
    sooner_unlisted n s = after_last last e ((difference_decides ws ok last bs last-policy t n).1 s)

  no_other : (a : Answer) → Fits ws K bs a → a ≡ standing ws K bs
  no_other (is_rank j) f =
      let i = (in_list ws ok K bs).1 (t, omega (arith, f.from_1, f.within)) in
      ap (λ (n : ℕ). is_rank n) f.from_1 ∙ sym (rank_answer i)
  no_other (costs_more z) f =
      let last = f.last in
      let x = policy_cost ws last in
      let y = policy_cost ws bs in
      let l : x <ℤ y = more_high x y z f.exact f.some_more in
      let n : last ≡ bs → ⊥ = λ q. <ℤ_irrefl (subst (λ (p : Policy). policy_cost ws p <ℤ y) q l) in
      let is : z ≡ y -ℤ x = sym (ap (λ (w : ℤ). w -ℤ x) (sym f.exact ∙ +ℤ_comm x z) ∙ +ℤ-neg_ℤ_cancel z x) in
      ap (λ (w : ℤ). costs_more w) is ∙ sym (last-answer (sooner_unlisted last f.is_last n (inl l)) last f.is_last ∙ more-answer x y last l)
  no_other (takes_higher p) f =
      let last = f.last in
      let u = last-policy last f.is_last in
      let inside = reached-inside ws ok bs t p f.reaches in
      let at : first_difference last bs ≡ p
      = first_only 255 last bs p (omega (arith, inside, ((policy-bytes ws ok last).0 u).long)) (omega (arith, inside, ((policy-bytes ws ok bs).0 t).long)) f.agree
      (λ q. omega (arith, f.higher, q)) in
      let n : last ≡ bs → ⊥ = λ q. omega (arith, f.higher, ap (λ (c : Policy). byte_at c p) q) in
      let s : Sooner ws last bs = inr (f.same-cost, rw at f.higher) in
      ap (λ (q : ℕ). takes_higher q) (sym at)
      ∙ sym (last-answer (sooner_unlisted last f.is_last n s) last f.is_last ∙ tie_answer (policy_cost ws last) (policy_cost ws bs) last f.same-cost)

  -- "exactly one fits any plan of the book"
  pub exactly_one : (a : Answer) → Fits ws K bs a ↔ (a ≡ standing ws K bs)
  exactly_one a = (no_other a, λ e. subst (Fits ws K bs) (sym e) reason_true)

  -- the second and the third only where k = K: a shorter list has every plan
  pub only_full : (a : Answer) → Fits ws K bs a → (answer_number a ≡ 1 → ⊥) → length R ≡ K
  only_full a f n = go (dec_lt (length R) K)
    where
      go : Dec (length R < K) → length R ≡ K
      go (yes l) = absurd (n (ap answer_number (no_other a f ∙ rank_answer (none-missing ws ok K bs l t))))
      go (no l) = omega (arith, list_length_lem ws ok K, l)
