-- The policies are enumerated in the order of their bytes, so none is enumerated twice.
-- Assumes nothing.
use Rattle.std.specs.Prelude.{refl, Bool, true, false, List, [], ◌∷◌, ◌++◌, map, ℕ, zero, suc, T, pos}
use Rattle.std.proofs.Common.{subst, inl, inr, ⊎_elim}
use Rattle.model.specs.Lists.{is_in, for_each}
use Rattle.model.specs.Model.{Action}
use Rattle.model.specs.Policy.{Policy, allowed, onward, policies_from}
use Rattle.model.specs.Order.{lower}
use Rattle.laws.specs.Members.{In, every_in, in_every, in_++, in_for_each, in_map, Apart, Rising, below_in}
use Rattle.laws.specs.Sorting.{Strict, Rises}
use Rattle.laws.specs.Order.{lower_is, strict}

-- where all costs are equal the bytes alone are the order
pub bytes_strict : Strict lower
bytes_strict = strict (λ (p : Policy). pos 0)

module _ {A : Type 0} (lt : A → A → Bool) where
  -- two lists that rise, each element of one before all of the other
  rises_++ : (xs ys : List A) → Rises lt xs → Rises lt ys → ((x y : A) → In x xs → In y ys → T (lt x y)) → Rises lt (xs ++ ys)
  rises_++ [] ys a c d = c
  rises_++ (x ∷ xs) ys a c d = (
    in_every (λ y. T (lt x y)) (xs ++ ys) (λ y i. ⊎_elim (every_in (λ z. T (lt x z)) xs a.0 y) (d x y (inl refl)) (in_++ y xs ys i)),
    rises_++ xs ys a.1 c (λ z y i j. d z y (inr i) j),
  )

  -- no element of a list that rises is there twice
  rises_apart : Strict lt → (xs : List A) → Rises lt xs → Apart xs
  rises_apart S [] r = tt
  rises_apart S (x ∷ xs) r = (λ i. subst T (S.irrefl x) (every_in (λ y. T (lt x y)) xs r.0 x i), rises_apart S xs r.1)

-- b before each of them
abbrev begin_with : ℕ → List Policy → List Policy
begin_with b xs = map (λ (bs : Policy). b ∷ bs) xs

rises_begin : (b : ℕ) (xs : List Policy) → Rises lower xs → Rises lower (begin_with b xs)
rises_begin b [] r = tt
rises_begin b (x ∷ xs) r = (
  in_every (λ y. T (lower (b ∷ x) y)) (begin_with b xs)
      (λ y i. let m = in_map (λ (bs : Policy). b ∷ bs) y xs i in
      rw m.1 ((lower_is (b ∷ x) (b ∷ m.0)).1 (inr (refl, (lower_is x m.0).0 (every_in (λ z. T (lower x z)) xs r.0 m.0 m.2))))),
  rises_begin b xs r.1,
)

-- for each first byte of a list that rises
rises_each : (g : ℕ → List Policy) → ((b : ℕ) → Rises lower (g b)) → (os : List ℕ) → Rising os
    → Rises lower (for_each (λ (b : ℕ). begin_with b (g b)) os)
rises_each g h [] r = tt
rises_each g h (b ∷ os) r =
    rises_++ lower (begin_with b (g b)) (for_each (λ (b : ℕ). begin_with b (g b)) os) (rises_begin b (g b) (h b)) (rises_each g h os r.1) front
  where
    front : (x y : Policy) → In x (begin_with b (g b)) → In y (for_each (λ (b : ℕ). begin_with b (g b)) os) → T (lower x y)
    front x y i j =
        let u = in_map (λ (bs : Policy). b ∷ bs) x (g b) i in
        let v = in_for_each (λ (c : ℕ). begin_with c (g c)) y os j in
        let w = in_map (λ (bs : Policy). v.0 ∷ bs) y (g v.0) v.2 in
        rw (u.1, w.1) ((lower_is (b ∷ u.0) (v.0 ∷ w.0)).1 (inl (below_in os r.0 v.1)))

module _ (act : ℕ → ℕ → Action) (opts : ℕ → List ℕ) (rising : (p : ℕ) → Rising (opts p)) where
  -- the bytes allowed at a state, lowest first
  pub allowed_rising : (p : ℕ) (c : Bool) → Rising (allowed (opts p) c)
  allowed_rising p true = rising p
  allowed_rising p false = (tt, tt)

  pub policies_rise : (n p : ℕ) (reach : List ℕ) → Rises lower (policies_from act opts n p reach)
  policies_rise zero p reach = (tt, tt)
  policies_rise (suc n) p reach =
      rises_each (λ b. policies_from act opts n (suc p) (onward act p b reach)) (λ b. policies_rise n (suc p) (onward act p b reach))
      (allowed (opts p) (is_in p reach)) (allowed_rising p (is_in p reach))

  pub policies_apart : (n p : ℕ) (reach : List ℕ) → Apart (policies_from act opts n p reach)
  policies_apart n p reach = rises_apart lower bytes_strict (policies_from act opts n p reach) (policies_rise n p reach)
