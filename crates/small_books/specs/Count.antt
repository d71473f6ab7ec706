-- How many plans a book has: the enumeration has each once, so it has more than m exactly if there are more than m different plans.
-- Assumes nothing.
-- ---- lists without repeats
use Rattle.std.specs.Prelude.{◌≡◌, refl, ◌⊎◌, List, [], ◌∷◌, ◌++◌, ℕ, ◌≤◌, ◌<◌, T, length}
use Rattle.std.proofs.Common.{sym, ap, subst, inl, inr, arith, length-append}
use Rattle.model.specs.Model.{Words}
use Rattle.model.specs.Policy.{Policy, is_policy}
use Rattle.laws.specs.Members.{In, in_++, ++-in, Apart}

module _ {A : Type 0} where
  -- where an element stands
  record Place (x : A) (ys : List A) : Type 0 where
    left : List A
    right : List A
    whole : ys ≡ left ++ (x ∷ right)

  place : (x : A) (ys : List A) → In x ys → Place x ys
  place x [] i = absurd i
  place x (y ∷ ys) (inl e) = record { left = []; right = ys; whole = ap (λ (z : A). z ∷ ys) (sym e) }
  place x (y ∷ ys) (inr i) =
      let p = place x ys i in record { left = y ∷ p.left; right = p.right; whole = ap (λ (zs : List A). y ∷ zs) p.whole }

  -- any other element stands before or after it
  beside : (x z : A) (left right : List A) → (z ≡ x → ⊥) → In z (left ++ (x ∷ right)) → In z (left ++ right)
  beside x z left right n i = go (in_++ z left (x ∷ right) i)
    where
      go : In z left ⊎ In z (x ∷ right) → In z (left ++ right)
      go (inl j) = ++-in z left right (inl j)
      go (inr (inl e)) = absurd (n e)
      go (inr (inr j)) = ++-in z left right (inr j)

  -- a list without repeats whose elements are all in another is no longer than that one
  pub apart_most : (xs ys : List A) → Apart xs → ((x : A) → In x xs → In x ys) → length xs ≤ length ys
  apart_most [] ys a h = omega arith
  apart_most (x ∷ xs) ys a h =
      let p = place x ys (h x (inl refl)) in
      let rest = apart_most xs (p.left ++ p.right) a.1
      (λ z i. beside x z p.left p.right (λ e. a.0 (subst (λ (w : A). In w xs) e i)) (subst (λ (l : List A). In z l) p.whole (h z (inr i)))) in
      omega (arith, rest, ap length p.whole, length-append p.left p.right, length-append p.left (x ∷ p.right))

-- more than m plans that all differ
pub record MoreThan (ws : Words) (m : ℕ) : Type 0 where
  pub plans : List Policy
  pub each : (bs : Policy) → In bs plans → T (is_policy ws bs)
  pub differ : Apart plans
  pub more : m < length plans
