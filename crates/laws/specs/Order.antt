-- The order of policies, by cost and then by bytes, is strict, and total on policies of one length. So the first K of the sorted policies hold a
-- policy exactly when fewer than K policies come before it, at the place that says how many.
-- Assumes nothing.
use Rattle.std.specs.Prelude.{◌≡◌, refl, Bool, true, false, not, ◌||◌, ◌&&◌, ◌⊎◌, ◌↔◌, List, [], ◌∷◌, ℕ, ◌<◌, T, eqb, ltb, length, ℤ, ◌≤ℤ◌, ◌<ℤ◌}
use Rattle.std.proofs.Common.{sym, ap₂, ◌∙◌, subst, inl, inr, arith, eqb→eq, ltb→lt, lt→ltb}
use Rattle.std.proofs.Math.Decide.{dec_lt}
use Rattle.std.proofs.Math.Dec.{not_T, eqb_refl}
use Rattle.std.specs.Int.Signed.{le_z, le_z_yes, lt_z, lt_z_yes, lt_z_no, <ℤ_irrefl, clash_ℤ}
use Rattle.model.specs.Model.{Action}
use Rattle.model.specs.Policy.{Policy, policies_from}
use Rattle.model.specs.Order.{lower, before}
use Rattle.laws.specs.Int.{<→≤, ints, le_z_no, lt_in, le_in}
use Rattle.laws.specs.Members.{T_true, true-T, false-T, In}
use Rattle.laws.specs.Sorting.{Strict, Total}
use Rattle.laws.specs.Ranks.{ByCost}
use Rattle.laws.specs.Policies.{in_policy, policy-length}

-- ---- the order of the bytes

-- what `lower` says
abbrev pub Low : Policy → Policy → Type 0
Low [] qs = ⊥
Low (p ∷ ps) [] = ⊥
Low (p ∷ ps) (q ∷ qs) = (p < q) ⊎ ((p ≡ q) × Low ps qs)

pub lower_is : (ps qs : Policy) → T (lower ps qs) ↔ Low ps qs
lower_is [] qs = (λ t. t, λ l. l)
lower_is (p ∷ ps) [] = (λ t. t, λ l. l)
lower_is (p ∷ ps) (q ∷ qs) = let ih = lower_is ps qs in (λ t. to (ltb p q) refl (eqb p q) refl t ih.0, λ l. from l ih.1)
  where
    to : (c : Bool) → ltb p q ≡ c → (d : Bool) → eqb p q ≡ d → T (c || (d && lower ps qs)) → (T (lower ps qs) → Low ps qs)
        → Low (p ∷ ps) (q ∷ qs)
    to true e d e' t ih = inl (ltb→lt p q (true-T e))
    to false e true e' t ih = inr (eqb→eq p q (true-T e'), ih t)
    to false e false e' t ih = absurd t

    equal : (c : Bool) → p ≡ q → T (lower ps qs) → T (c || (eqb p q && lower ps qs))
    equal true e t = tt
    equal false e t = rw (e, T_true (eqb q q) (eqb_refl q)) t

    from : Low (p ∷ ps) (q ∷ qs) → (Low ps qs → T (lower ps qs)) → T (lower (p ∷ ps) (q ∷ qs))
    from (inl h) ih = rw (T_true (ltb p q) (lt→ltb p q h)) tt
    from (inr l) ih = equal (ltb p q) l.0 (ih l.1)

low_irrefl : (ps : Policy) → Low ps ps → ⊥
low_irrefl [] l = l
low_irrefl (p ∷ ps) (inl h) = omega arith
low_irrefl (p ∷ ps) (inr l) = low_irrefl ps l.1

low_trans : (ps qs rs : Policy) → Low ps qs → Low qs rs → Low ps rs
low_trans [] qs rs h k = h
low_trans (p ∷ ps) [] rs h k = absurd h
low_trans (p ∷ ps) (q ∷ qs) [] h k = k
low_trans (p ∷ ps) (q ∷ qs) (r ∷ rs) (inl h) (inl k) = inl (omega arith)
low_trans (p ∷ ps) (q ∷ qs) (r ∷ rs) (inl h) (inr k) = inl (omega arith)
low_trans (p ∷ ps) (q ∷ qs) (r ∷ rs) (inr h) (inl k) = inl (omega arith)
low_trans (p ∷ ps) (q ∷ qs) (r ∷ rs) (inr h) (inr k) = inr (h.0 ∙ k.0, low_trans ps qs rs h.1 k.1)

-- two policies of one length that differ are in order one way or the other
low_total : (ps qs : Policy) → length ps ≡ length qs → (ps ≡ qs) ⊎ (Low ps qs ⊎ Low qs ps)
low_total [] [] e = inl refl
low_total [] (q ∷ qs) e = absurd (omega arith)
low_total (p ∷ ps) [] e = absurd (omega arith)
low_total (p ∷ ps) (q ∷ qs) e = go (dec_lt p q) (dec_lt q p) (low_total ps qs (omega arith))
  where
    same : (p ≡ q) → (ps ≡ qs) ⊎ (Low ps qs ⊎ Low qs ps) → (◌≡◌ {A = Policy} (p ∷ ps) (q ∷ qs)) ⊎ (Low (p ∷ ps) (q ∷ qs) ⊎ Low (q ∷ qs) (p ∷ ps))
    same e (inl i) = inl (ap₂ (λ (x : ℕ) (xs : Policy). x ∷ xs) e i)
    same e (inr (inl i)) = inr (inl (inr (e, i)))
    same e (inr (inr i)) = inr (inr (inr (sym e, i)))

    go : Dec (p < q) → Dec (q < p) → (ps ≡ qs) ⊎ (Low ps qs ⊎ Low qs ps)
        → (◌≡◌ {A = Policy} (p ∷ ps) (q ∷ qs)) ⊎ (Low (p ∷ ps) (q ∷ qs) ⊎ Low (q ∷ qs) (p ∷ ps))
    go (yes h) d ih = inr (inl (inl h))
    go (no h) (yes k) ih = inr (inr (inl k))
    go (no h) (no k) ih = same (omega arith) ih

-- ---- the order of policies

module _ (cost : Policy → ℤ) where
  -- what `before` says
  abbrev pub Before : Policy → Policy → Type 0
  Before x y = (cost x <ℤ cost y) ⊎ ((cost x ≤ℤ cost y) × Low x y)

  pub before_is : (x y : Policy) → T (before cost x y) ↔ Before x y
  before_is x y = (to (lt_z (cost x) (cost y)) refl (lt_z (cost y) (cost x)) refl, from)
    where
      to : (c : Bool) → lt_z (cost x) (cost y) ≡ c → (d : Bool) → lt_z (cost y) (cost x) ≡ d → T (c || (not d && lower x y)) → Before x y
      to true e d e' t = inl (lt_z_yes (true-T e))
      to false e true e' t = absurd t
      to false e false e' t = inr (lt_z_no (false-T e'), (lower_is x y).0 t)

      equal : (c d : Bool) → lt_z (cost y) (cost x) ≡ d → cost x ≤ℤ cost y → Low x y → T (c || (not d && lower x y))
      equal true d e h l = tt
      equal false true e h l = clash_ℤ (lt_z_yes {a = cost y} {b = cost x} (true-T e)) h
      equal false false e h l = (lower_is x y).1 l

      from : Before x y → T (before cost x y)
      from (inl h) = rw (T_true (lt_z (cost x) (cost y)) h.lt) tt
      from (inr h) = equal (lt_z (cost x) (cost y)) (lt_z (cost y) (cost x)) refl h.0 h.1

  -- a policy that comes before another costs no more
  pub before-cost : (x y : Policy) → T (before cost x y) → cost x ≤ℤ cost y
  before-cost x y t = go ((before_is x y).0 t)
    where
      go : Before x y → cost x ≤ℤ cost y
      go (inl h) = <→≤ h
      go (inr h) = h.0

  -- so the order is one by cost
  pub by_cost : ByCost (before cost) cost
  by_cost = record { ahead = λ x y h. before-cost x y (true-T h); behind = λ x y h. behind x y (lt_z (cost x) (cost y)) refl h }
    where
      behind : (x y : Policy) (b : Bool) → lt_z (cost x) (cost y) ≡ b → (b || (not (lt_z (cost y) (cost x)) && lower x y)) ≡ false → cost y ≤ℤ cost x
      behind x y true e h = let z : ◌≡◌ {A = ℕ} 0 1 = cc in absurd (omega arith)
      behind x y false e h = lt_z_no (false-T e)

  before_trans : (x y z : Policy) → Before x y → Before y z → Before x z
  before_trans x y z (inl h) (inl k) = inl (omega (ints, lt_in))
  before_trans x y z (inl h) (inr k) = inl (omega (ints, lt_in))
  before_trans x y z (inr h) (inl k) = inl (omega (ints, lt_in))
  before_trans x y z (inr h) (inr k) = inr (omega (ints, le_in), low_trans x y z h.1 k.1)

  before_irrefl : (x : Policy) → Before x x → ⊥
  before_irrefl x (inl h) = <ℤ_irrefl h
  before_irrefl x (inr h) = low_irrefl x h.1

  -- no policy comes before itself, and one before another is before all that follow that
  pub strict : Strict (before cost)
  strict = record {
    irrefl = λ x. off x (before cost x x) refl;
    trans = λ x y z h k. (before_is x z).1 (before_trans x y z ((before_is x y).0 h) ((before_is y z).0 k));
  }
    where
      off : (x : Policy) (t : Bool) → before cost x x ≡ t → before cost x x ≡ false
      off x true e = absurd (before_irrefl x ((before_is x x).0 (true-T e)))
      off x false e = e

-- ---- the policies in order

module _ (act : ℕ → ℕ → Action) (opts : ℕ → List ℕ) where
  -- two policies that differ are in order one way or the other
  pub total : (cost : Policy → ℤ) (S : ℕ) → Total (before cost) (policies_from act opts S 0 (0 ∷ []))
  total cost S x y i j n e = go (low_total x y (size x i ∙ sym (size y j)))
    where
      size : (z : Policy) → In z (policies_from act opts S 0 (0 ∷ [])) → length z ≡ S
      size z k = policy-length act opts S 0 (0 ∷ []) z (in_policy act opts S 0 (0 ∷ []) z k)

      not-before : Before cost x y → ⊥
      not-before b = subst T e ((before_is cost x y).1 b)

      go : (x ≡ y) ⊎ (Low x y ⊎ Low y x) → T (before cost y x)
      go (inl q) = absurd (n q)
      go (inr (inl l)) = (before_is cost y x).1 (inl (le_z_no (not_T (le_z (cost x) (cost y)) (λ h. not-before (inr (le_z_yes h, l))))))
      go (inr (inr l)) = (before_is cost y x).1 (inr (lt_z_no (not_T (lt_z (cost x) (cost y)) (λ h. not-before (inl (lt_z_yes h)))), l))
