-- The first K of a sorted list: an element is entry j exactly when j elements come before it and j is less than K. For any strict order that is
-- total on the list's elements.
-- Assumes nothing.
use Rattle.std.specs.Prelude.{◌≡◌, refl, Bool, true, false, ◌⊎◌, ◌↔◌, List, [], ◌∷◌, ℕ, zero, suc, ◌+◌, ◌<◌, T, length, take}
use Rattle.std.proofs.Common.{sym, ap, ap₂, ◌∙◌, subst, inl, inr, arith}
use Rattle.std.proofs.Math.Option.{some}
use Rattle.std.proofs.Math.ListN.{get_elem?}
use Rattle.model.specs.Lists.{bit, count, insert, sorted}
use Rattle.laws.specs.Members.{T_true, true-T, In, Every, every_in, in_every, Apart}

-- ---- the first K of any list

module _ {A : Type 0} where
  -- they are elements of the list, and none is there twice where the list has none twice
  pub in_take : (K : ℕ) (x : A) (xs : List A) → In x (take K xs) → In x xs
  in_take zero x xs i = absurd i
  in_take (suc K) x [] i = i
  in_take (suc K) x (y ∷ ys) (inl e) = inl e
  in_take (suc K) x (y ∷ ys) (inr i) = inr (in_take K x ys i)

  pub apart_take : (K : ℕ) (xs : List A) → Apart xs → Apart (take K xs)
  apart_take zero xs a = tt
  apart_take (suc K) [] a = tt
  apart_take (suc K) (x ∷ xs) a = (λ i. a.0 (in_take K x xs i), apart_take K xs a.1)

  -- entry j of the first K is entry j of the list, and j is less than K
  pub take_at : (K : ℕ) (s : List A) (j : ℕ) (x : A) → get_elem? (take K s) j ≡ some x → (j < K) × (get_elem? s j ≡ some x)
  take_at zero s j x e = let z : ◌≡◌ {A = ℕ} 0 1 = cc in absurd (omega arith)
  take_at (suc K) [] j x e = let z : ◌≡◌ {A = ℕ} 0 1 = cc in absurd (omega arith)
  take_at (suc K) (y ∷ ys) zero x e = (omega arith, e)
  take_at (suc K) (y ∷ ys) (suc j) x e = let ih = take_at K ys j x e in (omega (arith, ih.0), ih.1)

  at_take : (K : ℕ) (s : List A) (j : ℕ) (x : A) → j < K → get_elem? s j ≡ some x → get_elem? (take K s) j ≡ some x
  at_take zero s j x h e = absurd (omega arith)
  at_take (suc K) [] j x h e = e
  at_take (suc K) (y ∷ ys) zero x h e = e
  at_take (suc K) (y ∷ ys) (suc j) x h e = at_take K ys j x (omega arith) e

  -- an entry is an element
  pub at_in : (s : List A) (j : ℕ) (x : A) → get_elem? s j ≡ some x → In x s
  at_in [] j x e = let z : ◌≡◌ {A = ℕ} 0 1 = cc in absurd (omega arith)
  at_in (y ∷ ys) zero x e = inl (cc)
  at_in (y ∷ ys) (suc j) x e = inr (at_in ys j x e)

-- ---- sorting by any test keeps the elements

module _ {A : Type 0} (lt : A → A → Bool) where
  -- what holds of both results of one comparison holds after an insertion
  pub by_test : (P : List A → Type 0) (a b : A) (bs : List A) → (lt a b ≡ true → P (a ∷ (b ∷ bs))) → (lt a b ≡ false → P (b ∷ insert lt a bs))
      → P (insert lt a (b ∷ bs))
  by_test P a b bs yes-case no-case = go (lt a b) refl
    where
      go : (t : Bool) → lt a b ≡ t → P (elim t [ true ↦ a ∷ (b ∷ bs) | false ↦ b ∷ insert lt a bs ])
      go true e = yes-case e
      go false e = no-case e

  insert-length : (a : A) (s : List A) → length (insert lt a s) ≡ suc (length s)
  insert-length a [] = refl
  insert-length a (b ∷ bs) =
      by_test (λ s. length s ≡ suc (suc (length bs))) a b bs (λ e. refl) (λ e. ap suc (insert-length a bs))

  -- the sorted list is as long
  pub sorted-length : (xs : List A) → length (sorted lt xs) ≡ length xs
  sorted-length [] = refl
  sorted-length (x ∷ xs) = insert-length x (sorted lt xs) ∙ ap suc (sorted-length xs)

  count-insert : (test : A → Bool) (a : A) (s : List A) → count test (insert lt a s) ≡ bit (test a) + count test s
  count-insert test a [] = refl
  count-insert test a (b ∷ bs) =
      by_test (λ s. count test s ≡ bit (test a) + count test (b ∷ bs)) a b bs (λ e. refl) (λ e. omega (arith, count-insert test a bs))

  -- as many of its elements pass any test
  pub count-sorted : (test : A → Bool) (xs : List A) → count test (sorted lt xs) ≡ count test xs
  count-sorted test [] = refl
  count-sorted test (x ∷ xs) = count-insert test x (sorted lt xs) ∙ ap (λ (n : ℕ). bit (test x) + n) (count-sorted test xs)

  in_insert : (x a : A) (s : List A) → In x (insert lt a s) → (x ≡ a) ⊎ In x s
  in_insert x a [] = λ i. i
  in_insert x a (b ∷ bs) = by_test (λ s. In x s → (x ≡ a) ⊎ In x (b ∷ bs)) a b bs (λ e i. i) (λ e i. go i (in_insert x a bs))
    where
      later : (x ≡ a) ⊎ In x bs → (x ≡ a) ⊎ In x (b ∷ bs)
      later (inl e) = inl e
      later (inr j) = inr (inr j)

      go : (x ≡ b) ⊎ In x (insert lt a bs) → (In x (insert lt a bs) → (x ≡ a) ⊎ In x bs) → (x ≡ a) ⊎ In x (b ∷ bs)
      go (inl e) ih = inr (inl e)
      go (inr i) ih = later (ih i)

  insert_in : (x a : A) (s : List A) → (x ≡ a) ⊎ In x s → In x (insert lt a s)
  insert_in x a [] i = i
  insert_in x a (b ∷ bs) i = by_test (In x) a b bs (λ e. i) (λ e. go i (insert_in x a bs))
    where
      go : (x ≡ a) ⊎ In x (b ∷ bs) → ((x ≡ a) ⊎ In x bs → In x (insert lt a bs)) → (x ≡ b) ⊎ In x (insert lt a bs)
      go (inl e) ih = inr (ih (inl e))
      go (inr (inl e)) ih = inl e
      go (inr (inr i)) ih = inr (ih (inr i))

  pub every-insert : (P : A → Type 0) (a : A) (s : List A) → P a → Every P s → Every P (insert lt a s)
  every-insert P a s h k = in_every P (insert lt a s) (λ x i. go x (in_insert x a s i))
    where
      go : (x : A) → (x ≡ a) ⊎ In x s → P x
      go x (inl e) = subst P (sym e) h
      go x (inr j) = every_in P s k x j

  -- it has the same elements
  pub in_sorted : (x : A) (xs : List A) → In x (sorted lt xs) → In x xs
  in_sorted x [] i = i
  in_sorted x (y ∷ ys) i = go (in_insert x y (sorted lt ys) i) (in_sorted x ys)
    where
      go : (x ≡ y) ⊎ In x (sorted lt ys) → (In x (sorted lt ys) → In x ys) → (x ≡ y) ⊎ In x ys
      go (inl e) ih = inl e
      go (inr j) ih = inr (ih j)

  pub sorted_in : (x : A) (xs : List A) → In x xs → In x (sorted lt xs)
  sorted_in x [] i = i
  sorted_in x (y ∷ ys) (inl e) = insert_in x y (sorted lt ys) (inl e)
  sorted_in x (y ∷ ys) (inr i) = insert_in x y (sorted lt ys) (inr (sorted_in x ys i))

  apart_insert : (a : A) (s : List A) → (In a s → ⊥) → Apart s → Apart (insert lt a s)
  apart_insert a [] n h = (n, h)
  apart_insert a (b ∷ bs) n h =
      by_test Apart a b bs (λ e. (n, h)) (λ e. (λ i. new (in_insert b a bs i), apart_insert a bs (λ i. n (inr i)) h.1))
    where
      new : (b ≡ a) ⊎ In b bs → ⊥
      new (inl e) = n (inl (sym e))
      new (inr i) = h.0 i

  -- and none twice where the list has none twice
  pub apart_sorted : (xs : List A) → Apart xs → Apart (sorted lt xs)
  apart_sorted [] a = tt
  apart_sorted (x ∷ xs) a = apart_insert x (sorted lt xs) (λ i. a.0 (in_sorted x xs i)) (apart_sorted xs a.1)

module _ {A : Type 0} (lt other : A → A → Bool) where
  insert-same : (a : A) (s : List A) → ((x : A) → In x s → lt a x ≡ other a x) → insert lt a s ≡ insert other a s
  insert-same a [] h = refl
  insert-same a (x ∷ s) h =
      ap₂ (λ (t : Bool) (r : List A). elim t as (λ (_ : Bool). List A) [ true ↦ a ∷ (x ∷ s) | false ↦ x ∷ r ])
      (h x (inl refl)) (insert-same a s (λ y i. h y (inr i)))

  -- two tests that agree on a list's elements sort it alike
  pub sorted-same : (xs : List A) → ((x y : A) → In x xs → In y xs → lt x y ≡ other x y) → sorted lt xs ≡ sorted other xs
  sorted-same [] h = refl
  sorted-same (x ∷ xs) h =
      ap (insert lt x) (sorted-same xs (λ y z i j. h y z (inr i) (inr j)))
      ∙ insert-same x (sorted other xs) (λ y i. h x y (inl refl) (inr (in_sorted other y xs i)))

-- ---- strict orders

module _ {A : Type 0} (lt : A → A → Bool) where
  -- no element is before itself, and one before another is before all that follow that
  pub record Strict : Type 0 where
    pub irrefl : (x : A) → lt x x ≡ false
    pub trans : (x y z : A) → T (lt x y) → T (lt y z) → T (lt x z)

  -- any two of the list's elements that differ are in order one way or the other
  abbrev pub Total : List A → Type 0
  Total xs = (x y : A) → In x xs → In y xs → (x ≡ y → ⊥) → lt x y ≡ false → T (lt y x)

  -- each element is before all that follow it
  abbrev pub Rises : List A → Type 0
  Rises [] = Unit {0}
  Rises (x ∷ xs) = Every (λ y. T (lt x y)) xs × Rises xs

  -- an element at a later place is after one at an earlier place
  rises_at : (s : List A) → Rises s → (i j : ℕ) (x y : A) → i < j → get_elem? s i ≡ some x → get_elem? s j ≡ some y → T (lt x y)
  rises_at [] r i j x y h e k = let z : ◌≡◌ {A = ℕ} 0 1 = cc in absurd (omega arith)
  rises_at (a ∷ s) r i zero x y h e k = absurd (omega arith)
  rises_at (a ∷ s) r zero (suc j) x y h e k =
      let q : x ≡ a = cc in rw q (every_in (λ z. T (lt a z)) s r.0 y (at_in s j y k))
  rises_at (a ∷ s) r (suc i) (suc j) x y h e k = rises_at s r.1 i j x y (omega arith) e k

  module _ (S : Strict) where
    asym : (x y : A) → T (lt x y) → lt y x ≡ false
    asym x y h = go (lt y x) refl
      where
        go : (b : Bool) → lt y x ≡ b → lt y x ≡ false
        go true e = absurd (subst T (S.irrefl x) (S.trans x y x h (true-T e)))
        go false e = e

    none_before : (x : A) (ys : List A) → Every (λ y. T (lt x y)) ys → count (λ y. lt y x) ys ≡ 0
    none_before x [] h = refl
    none_before x (y ∷ ys) h = rw (asym x y h.0) (omega (arith, none_before x ys h.1))

    none_first : (y : A) (ys : List A) → Rises (y ∷ ys) → count (λ z. lt z y) (y ∷ ys) ≡ 0
    none_first y ys r = let b : bit (lt y y) ≡ 0 = ap bit (S.irrefl y) in omega (arith, b, none_before y ys r.0)

    one_before : (x y : A) (ys : List A) → Every (λ z. T (lt y z)) ys → In x ys → count (λ z. lt z x) (y ∷ ys) ≡ suc (count (λ z. lt z x) ys)
    one_before x y ys h i = rw (T_true (lt y x) (every_in (λ z. T (lt y z)) ys h x i)) (omega arith)

    -- in a list that rises, as many elements are before an entry as its place says
    pub rank : (s : List A) → Rises s → (j : ℕ) (x : A) → get_elem? s j ≡ some x → count (λ y. lt y x) s ≡ j
    rank [] r j x e = let z : ◌≡◌ {A = ℕ} 0 1 = cc in absurd (omega arith)
    rank (y ∷ ys) r zero x e =
        let q : x ≡ y = cc in
        subst (λ z. count (λ w. lt w z) (y ∷ ys) ≡ 0) (sym q)
        (none_first y ys r)
    rank (y ∷ ys) r (suc j) x e = one_before x y ys r.0 (at_in ys j x e) ∙ ap suc (rank ys r.1 j x e)

    -- and each element stands at the place that says how many are before it
    pub unrank : (s : List A) → Rises s → (x : A) → In x s → get_elem? s (count (λ y. lt y x) s) ≡ some x
    unrank [] r x i = absurd i
    unrank (y ∷ ys) r x (inl e) =
        subst (λ z. get_elem? (y ∷ ys) (count (λ w. lt w z) (y ∷ ys)) ≡ some z) (sym e)
        (ap (get_elem? (y ∷ ys)) (none_first y ys r))
    unrank (y ∷ ys) r x (inr i) = rw (one_before x y ys r.0 i) (unrank ys r.1 x i)

    rises_insert : (a : A) (s : List A) → Rises s → ((x : A) → In x s → lt a x ≡ false → T (lt x a)) → Rises (insert lt a s)
    rises_insert a [] r t = (tt, tt)
    rises_insert a (b ∷ bs) r t =
        by_test lt Rises a b bs (λ e. (front (true-T e), r))
        (λ e. (every-insert lt (λ y. T (lt b y)) a bs (t b (inl refl) e) r.0, rises_insert a bs r.1 (λ x i e. t x (inr i) e)))
      where
        front : T (lt a b) → Every (λ y. T (lt a y)) (b ∷ bs)
        front h = (h, in_every (λ y. T (lt a y)) bs (λ y i. S.trans a b y h (every_in (λ z. T (lt b z)) bs r.0 y i)))

    -- a sorted list rises
    pub rises_sorted : (xs : List A) → Apart xs → Total xs → Rises (sorted lt xs)
    rises_sorted [] a t = tt
    rises_sorted (x ∷ xs) a t =
        rises_insert x (sorted lt xs) (rises_sorted xs a.1 (λ y z i j. t y z (inr i) (inr j)))
        (λ y i e. t x y (inl refl) (inr (in_sorted lt y xs i)) (λ q. a.0 (subst (λ z. In z xs) (sym q) (in_sorted lt y xs i))) e)

    -- x is entry j of the first K exactly if it is one of xs, j of them come before it, and j is less than K
    pub listed : (K : ℕ) (xs : List A) → Apart xs → Total xs → (j : ℕ) (x : A)
        → (get_elem? (take K (sorted lt xs)) j ≡ some x) ↔ (In x xs × (count (λ y. lt y x) xs ≡ j) × (j < K))
    listed K xs a t j x = (to, from)
      where
        r : Rises (sorted lt xs)
        r = rises_sorted xs a t

        to : get_elem? (take K (sorted lt xs)) j ≡ some x → In x xs × (count (λ y. lt y x) xs ≡ j) × (j < K)
        to e =
            let k = take_at K (sorted lt xs) j x e in (
              in_sorted lt x xs (at_in (sorted lt xs) j x k.1),
              sym (count-sorted lt (λ y. lt y x) xs) ∙ rank (sorted lt xs) r j x k.1,
              k.0,
            )

        from : In x xs × (count (λ y. lt y x) xs ≡ j) × (j < K) → get_elem? (take K (sorted lt xs)) j ≡ some x
        from h =
            at_take K (sorted lt xs) j x h.2
            (subst (λ (n : ℕ). get_elem? (sorted lt xs) n ≡ some x) (count-sorted lt (λ y. lt y x) xs ∙ h.1)
            (unrank (sorted lt xs) r x (sorted_in lt x xs h.0)))

    -- and a later entry is after an earlier one
    pub listed_after : (K : ℕ) (xs : List A) → Apart xs → Total xs → (i j : ℕ) (x y : A) → i < j
        → get_elem? (take K (sorted lt xs)) i ≡ some x → get_elem? (take K (sorted lt xs)) j ≡ some y → T (lt x y)
    listed_after K xs a t i j x y h e k =
        rises_at (sorted lt xs) (rises_sorted xs a t) i j x y h (take_at K (sorted lt xs) i x e).1 (take_at K (sorted lt xs) j y k).1
