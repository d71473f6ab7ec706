-- The entries of a list, and the order of a list's elements by how many come before each. For any lists and any strict order that is total on the
-- list's elements.
-- Assumes nothing.
use Rattle.std.specs.Prelude.{◌≡◌, refl, Bool, true, false, cond, ◌↔◌, List, [], ◌∷◌, map, ℕ, zero, suc, ◌+◌, ◌≤◌, ◌<◌, T, length, get_or, take}
use Rattle.std.proofs.Common.{subst, inl, inr, arith}
use Rattle.std.proofs.Math.Option.{some}
use Rattle.std.proofs.Math.Decide.{dec_lt}
use Rattle.std.proofs.Math.ListN.{get_elem?}
use Rattle.model.specs.Lists.{bit, first_where, count, sorted}
use Rattle.laws.specs.Members.{In, Apart}
use Rattle.laws.specs.Sorting.{Strict, Total, at_in, listed, listed_after}

module _ {A : Type 0} where
  -- an element is an entry
  pub in_at : (x : A) (s : List A) → In x s → (j : ℕ) × (get_elem? s j ≡ some x)
  in_at x [] i = absurd i
  in_at x (y ∷ ys) (inl e) = (0, rw e)
  in_at x (y ∷ ys) (inr i) = let r = in_at x ys i in (suc r.0, r.1)

  -- each place below the length has an entry
  pub some_at : (s : List A) (j : ℕ) → j < length s → (x : A) × (get_elem? s j ≡ some x)
  some_at [] j h = absurd (omega arith)
  some_at (x ∷ xs) zero h = (x, refl)
  some_at (x ∷ xs) (suc j) h = some_at xs j (omega arith)

  -- a place with an entry is below the length
  pub at_low : (s : List A) (j : ℕ) (x : A) → get_elem? s j ≡ some x → j < length s
  at_low [] j x e = absurd (at_in [] j x e)
  at_low (y ∷ ys) zero x e = omega arith
  at_low (y ∷ ys) (suc j) x e = omega (arith, at_low ys j x e)

  -- an entry, read with a default
  pub get_d_at : (s : List A) (j : ℕ) (d x : A) → get_elem? s j ≡ some x → get_or s j d ≡ x
  get_d_at [] j d x e = absurd (at_in [] j x e)
  get_d_at (y ∷ ys) zero d x e = cc
  get_d_at (y ∷ ys) (suc j) d x e = get_d_at ys j d x e

  -- the first element that passes a test, where one does: it is the entry, and no entry before it passes
  module _ (test : A → Bool) where
    pub where_at : (s : List A) → first_where test s < length s → (x : A) × (get_elem? s (first_where test s) ≡ some x) × (test x ≡ true)
    where_at [] h = absurd (omega arith)
    where_at (y ∷ ys) h = go (test y) refl h (where_at ys)
      where
        go : (b : Bool) → test y ≡ b → cond b 0 (suc (first_where test ys)) < suc (length ys)
            → (first_where test ys < length ys → (x : A) × (get_elem? ys (first_where test ys) ≡ some x) × (test x ≡ true))
            → (x : A) × (get_elem? (y ∷ ys) (cond b 0 (suc (first_where test ys))) ≡ some x) × (test x ≡ true)
        go true e h ih = (y, refl, e)
        go false e h ih = ih (omega arith)

    pub where_above : (s : List A) (j : ℕ) (x : A) → j < first_where test s → get_elem? s j ≡ some x → test x ≡ false
    where_above [] j x h e = absurd (omega arith)
    where_above (y ∷ ys) j x h e = go (test y) refl j h e (λ i. where_above ys i x)
      where
        go : (b : Bool) → test y ≡ b → (j : ℕ) → j < cond b 0 (suc (first_where test ys)) → get_elem? (y ∷ ys) j ≡ some x
            → ((i : ℕ) → i < first_where test ys → get_elem? ys i ≡ some x → test x ≡ false) → test x ≡ false
        go true t j h e ih = absurd (omega arith)
        go false t zero h e ih = let q : y ≡ x = cc in rw (← q) t
        go false t (suc j) h e ih = ih j (omega arith) e

    pub where_inside : (s : List A) (x : A) → In x s → test x ≡ true → first_where test s < length s
    where_inside [] x i t = absurd i
    where_inside (y ∷ ys) x (inl e) t = rw (← e, t) (omega arith)
    where_inside (y ∷ ys) x (inr i) t = go (test y) (where_inside ys x i t)
      where
        go : (b : Bool) → first_where test ys < length ys → cond b 0 (suc (first_where test ys)) < suc (length ys)
        go true ih = omega arith
        go false ih = omega arith

  -- the first one of a list, by its entry
  pub take_one : (s : List A) (x : A) → get_elem? (take 1 s) 0 ≡ some x → take 1 s ≡ x ∷ []
  take_one [] x e = let z : ◌≡◌ {A = ℕ} 0 1 = cc in absurd (omega arith)
  take_one (y ∷ ys) x e = let q : y ≡ x = cc in rw q

  -- at most all elements pass a test; none does where each fails
  pub count_most : (test : A → Bool) (xs : List A) → count test xs ≤ length xs
  count_most test [] = omega arith
  count_most test (x ∷ xs) = go (test x) (count_most test xs)
    where
      go : (b : Bool) → count test xs ≤ length xs → bit b + count test xs ≤ suc (length xs)
      go true h = omega arith
      go false h = omega arith

  pub count_none : (test : A → Bool) (xs : List A) → ((x : A) → In x xs → test x ≡ false) → count test xs ≡ 0
  count_none test [] h = refl
  count_none test (x ∷ xs) h = rw (h x (inl refl)) (omega (arith, count_none test xs (λ y i. h y (inr i))))

  -- a test that follows from another is passed by no fewer
  pub count_imp : (test other : A → Bool) (xs : List A) → ((x : A) → In x xs → T (test x) → T (other x)) → count test xs ≤ count other xs
  count_imp test other [] h = omega arith
  count_imp test other (x ∷ xs) h = go (test x) (other x) (h x (inl refl)) (count_imp test other xs (λ y i. h y (inr i)))
    where
      go : (a b : Bool) → (T a → T b) → count test xs ≤ count other xs → bit a + count test xs ≤ bit b + count other xs
      go true true k ih = omega arith
      go true false k ih = absurd (k tt)
      go false true k ih = omega arith
      go false false k ih = omega arith

module _ {A B : Type 0} where
  pub map_at : (f : A → B) (s : List A) (j : ℕ) (x : A) → get_elem? s j ≡ some x → get_elem? (map f s) j ≡ some (f x)
  map_at f [] j x e = let z : ◌≡◌ {A = ℕ} 0 1 = cc in absurd (omega arith)
  map_at f (y ∷ ys) zero x e = let q : y ≡ x = cc in rw q
  map_at f (y ∷ ys) (suc j) x e = map_at f ys j x e

  -- an entry of the list that f maps to is f of the entry
  pub at_map : (f : A → B) (s : List A) (j : ℕ) (y : B) → get_elem? (map f s) j ≡ some y → (x : A) × (get_elem? s j ≡ some x) × (y ≡ f x)
  at_map f [] j y e = let z : ◌≡◌ {A = ℕ} 0 1 = cc in absurd (omega arith)
  at_map f (x ∷ xs) zero y e = (x, refl, cc)
  at_map f (x ∷ xs) (suc j) y e = at_map f xs j y e

module _ {A : Type 0} (lt : A → A → Bool) (S : Strict lt) (xs : List A) (a : Apart xs) (t : Total lt xs) where
  abbrev rank_of : A → ℕ
  rank_of x = count (λ y. lt y x) xs

  -- each element stands in the sorted list at its rank
  at_rank : (K : ℕ) (x : A) → In x xs → rank_of x < K → get_elem? (take K (sorted lt xs)) (rank_of x) ≡ some x
  at_rank K x i h = (listed lt S K xs a t (rank_of x) x).1 (i, refl, h)

  -- an element is before another exactly if fewer elements come before it
  pub by_rank : (x y : A) → In x xs → In y xs → T (lt x y) ↔ (count (λ z. lt z x) xs < count (λ z. lt z y) xs)
  by_rank x y i j = (to (dec_lt (rank_of x) (rank_of y)) (dec_lt (rank_of y) (rank_of x)), from x y i j)
    where
      from : (x y : A) → In x xs → In y xs → rank_of x < rank_of y → T (lt x y)
      from x y i j h =
          listed_after lt S (suc (rank_of y)) xs a t (rank_of x) (rank_of y) x y h (at_rank (suc (rank_of y)) x i (omega arith))
          (at_rank (suc (rank_of y)) y j (omega arith))

      same : rank_of x ≡ rank_of y → x ≡ y
      same e =
          let h : get_elem? (take (suc (rank_of y)) (sorted lt xs)) (rank_of x) ≡ some x = at_rank (suc (rank_of y)) x i (omega arith) in
          let k : get_elem? (take (suc (rank_of y)) (sorted lt xs)) (rank_of y) ≡ some y = at_rank (suc (rank_of y)) y j (omega arith) in
          cc

      never : (z : A) → T (lt z z) → ⊥
      never z h = subst T (S.irrefl z) h

      to : Dec (rank_of x < rank_of y) → Dec (rank_of y < rank_of x) → T (lt x y) → rank_of x < rank_of y
      to (yes h) d l = h
      to (no h) (yes k) l = absurd (never x (S.trans x y x l (from y x j i k)))
      to (no h) (no k) l = absurd (never y (subst (λ z. T (lt z y)) (same (omega arith)) l))
