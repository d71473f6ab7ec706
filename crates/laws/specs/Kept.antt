-- The elements of a list that pass a test, and lists without an element.
-- Assumes nothing.
use Rattle.std.specs.Prelude.{◌≡◌, refl, Bool, true, false, ◌&&◌, cond, ◌↔◌, List, [], ◌∷◌, ◌++◌, ℕ, ◌<◌, T}
use Rattle.std.proofs.Common.{sym, ap, ◌∙◌, subst, inl, inr}
use Rattle.model.specs.Lists.{is_empty, keep, every, for_each}
use Rattle.laws.specs.Members.{true-T, and_T, T_and, In, Every, in_every, Rising, below_in}

-- ---- the elements that pass a test

module _ {A : Type 0} (test : A → Bool) where
  pub keep_in : (x : A) (xs : List A) → In x (keep test xs) → In x xs × T (test x)
  keep_in x [] i = absurd i
  keep_in x (y ∷ ys) i = go (test y) refl i (keep_in x ys)
    where
      go : (b : Bool) → test y ≡ b → In x (cond b (y ∷ keep test ys) (keep test ys)) → (In x (keep test ys) → In x ys × T (test x))
          → In x (y ∷ ys) × T (test x)
      go true e (inl k) ih = (inl k, subst (λ (z : A). T (test z)) (sym k) (true-T e))
      go true e (inr j) ih = let r = ih j in (inr r.0, r.1)
      go false e j ih = let r = ih j in (inr r.0, r.1)

  pub in_keep : (x : A) (xs : List A) → In x xs → T (test x) → In x (keep test xs)
  in_keep x [] i t = absurd i
  in_keep x (y ∷ ys) i t = go (test y) refl i (λ j. in_keep x ys j t)
    where
      go : (b : Bool) → test y ≡ b → In x (y ∷ ys) → (In x ys → In x (keep test ys)) → In x (cond b (y ∷ keep test ys) (keep test ys))
      go true e (inl k) ih = inl k
      go true e (inr j) ih = inr (ih j)
      go false e (inl k) ih = absurd (subst T (ap test k ∙ e) t)
      go false e (inr j) ih = ih j

  pub every_is : (xs : List A) → T (every test xs) ↔ Every (λ x. T (test x)) xs
  every_is [] = (λ t. tt, λ t. tt)
  every_is (x ∷ xs) = (
    λ t. let h = and_T (test x) (every test xs) t in (h.0, (every_is xs).0 h.1),
    λ h. T_and (test x) (every test xs) h.0 ((every_is xs).1 h.1),
  )

  -- all of them
  pub keep_all : (xs : List A) → ((x : A) → In x xs → test x ≡ true) → keep test xs ≡ xs
  keep_all [] h = refl
  keep_all (x ∷ xs) h = rw (h x (inl refl)) (ap (λ (ys : List A). x ∷ ys) (keep_all xs (λ y i. h y (inr i))))

  -- where those that fail the test give nothing, the others give all
  pub for_each-keep : {B : Type 0} (f : A → List B) (xs : List A) → ((x : A) → In x xs → test x ≡ false → f x ≡ [])
      → for_each f (keep test xs) ≡ for_each f xs
  for_each-keep f [] h = refl
  for_each-keep {B = B} f (x ∷ xs) h = go (test x) refl (for_each-keep f xs (λ y i. h y (inr i)))
    where
      go : (b : Bool) → test x ≡ b → for_each f (keep test xs) ≡ for_each f xs
          → for_each f (cond b (x ∷ keep test xs) (keep test xs)) ≡ f x ++ for_each f xs
      go true e ih = ap (λ (ys : List B). f x ++ ys) ih
      go false e ih = ih ∙ sym (ap (λ (ys : List B). ys ++ for_each f xs) (h x (inl refl) e))

-- one test after another
pub keep-keep : {A : Type 0} (test other : A → Bool) (xs : List A) → keep other (keep test xs) ≡ keep (λ (x : A). test x && other x) xs
keep-keep test other [] = refl
keep-keep {A = A} test other (x ∷ xs) = go (test x) (keep-keep test other xs)
  where
    go : (b : Bool) → keep other (keep test xs) ≡ keep (λ (x : A). test x && other x) xs
        → keep other (cond b (x ∷ keep test xs) (keep test xs))
        ≡ cond (b && other x) (x ∷ keep (λ (x : A). test x && other x) xs) (keep (λ (x : A). test x && other x) xs)
    go true ih = ap (λ (ys : List A). cond (other x) (x ∷ ys) ys) ih
    go false ih = ih

-- tests that agree on a list keep the same of it
pub keep_same : {A : Type 0} (test other : A → Bool) (xs : List A) → ((x : A) → In x xs → test x ≡ other x) → keep test xs ≡ keep other xs
keep_same test other [] h = refl
keep_same test other (x ∷ xs) h = rw (h x (inl refl), keep_same test other xs (λ y i. h y (inr i)))

-- what is kept rises too
pub keep_rising : (test : ℕ → Bool) (xs : List ℕ) → Rising xs → Rising (keep test xs)
keep_rising test [] r = tt
keep_rising test (x ∷ xs) r = go (test x) (keep_rising test xs r.1)
  where
    go : (b : Bool) → Rising (keep test xs) → Rising (cond b (x ∷ keep test xs) (keep test xs))
    go true ih = (in_every (λ (y : ℕ). x < y) (keep test xs) (λ y i. below_in xs r.0 (keep_in test y xs i).0), ih)
    go false ih = ih

-- ---- lists without an element

module _ {A : Type 0} where
  pub some_in : (xs : List A) → is_empty xs ≡ false → (x : A) × In x xs
  some_in [] e = absurd (subst T e tt)
  some_in (x ∷ xs) e = (x, inl refl)

  pub in_some : (xs : List A) (x : A) → In x xs → is_empty xs ≡ false
  in_some [] x i = absurd i
  in_some (y ∷ ys) x i = refl

  pub none_in : (xs : List A) → ((x : A) → In x xs → ⊥) → xs ≡ []
  none_in [] h = refl
  none_in (x ∷ xs) h = absurd (h x (inl refl))
