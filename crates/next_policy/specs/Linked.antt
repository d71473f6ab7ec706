-- Lists in which a function leads from each element to the one after it. In a list that rises, that is the least of those after it.
-- Assumes nothing.
use Rattle.std.specs.Prelude.{◌≡◌, refl, Bool, ◌⊎◌, List, [], ◌∷◌, ◌++◌, ℕ, zero, suc, T, take}
use Rattle.std.proofs.Common.{sym, ap, ◌∙◌, subst, inl, inr, arith}
use Rattle.std.proofs.Math.Option.{Option, none, some}
use Rattle.std.proofs.Math.ListN.{get_elem?}
use Rattle.laws.specs.Members.{In, every_in}
use Rattle.laws.specs.Sorting.{Strict, Rises}

module _ {A : Type 0} where
  -- the first element, or `end` where there is none
  abbrev pub head_or : Option A → List A → Option A
  head_or end [] = end
  head_or end (x ∷ xs) = some x

  -- `next` leads from each element to the one after it, and from the last to `end`
  abbrev pub Linked : (A → Option A) → Option A → List A → Type 0
  Linked next end [] = Unit {0}
  Linked next end (x ∷ xs) = (next x ≡ head_or end xs) × Linked next end xs

  head_++ : (end : Option A) (xs ys : List A) → head_or end (xs ++ ys) ≡ head_or (head_or end ys) xs
  head_++ end [] ys = refl
  head_++ end (x ∷ xs) ys = refl

  -- two such lists, the first of which leads to the second
  pub linked_++ : (next : A → Option A) (end : Option A) (xs ys : List A) → Linked next (head_or end ys) xs → Linked next end ys
      → Linked next end (xs ++ ys)
  linked_++ next end [] ys h k = k
  linked_++ next end (x ∷ xs) ys h k = (h.0 ∙ sym (head_++ end xs ys), linked_++ next end xs ys h.1 k)

  -- at most k elements, from the first on, each from the one before it
  abbrev pub following : (A → Option A) → ℕ → Option A → List A
  following next zero first = []
  following next (suc k) none = []
  following next (suc k) (some x) = x ∷ following next k (next x)

  module _ (next : A → Option A) where
    -- the first k elements
    pub following_is : (xs : List A) → Linked next none xs → (k : ℕ) → following next k (head_or none xs) ≡ take k xs
    following_is xs h zero = refl
    following_is [] h (suc k) = refl
    following_is (x ∷ xs) h (suc k) = ap (λ (ys : List A). x ∷ ys) (rw h.0 (following_is xs h.1 k))

    -- the entry after each
    pub entry_after : (xs : List A) → Linked next none xs → (i : ℕ) (x : A) → get_elem? xs i ≡ some x → next x ≡ get_elem? xs (suc i)
    entry_after [] h i x e = let z : ◌≡◌ {A = ℕ} 0 1 = cc in absurd (omega arith)
    entry_after (y ∷ ys) h zero x e = let q : y ≡ x = cc in rw (sym q) (h.0 ∙ first ys)
      where
        first : (zs : List A) → head_or none zs ≡ get_elem? zs 0
        first [] = refl
        first (z ∷ zs) = refl
    entry_after (y ∷ ys) h (suc i) x e = entry_after ys h.1 i x e

-- ---- in an order

module _ {A : Type 0} (lt : A → A → Bool) (S : Strict lt) (next : A → Option A) where
  -- y is after x, and no element is between them
  pub record Follows (xs : List A) (x y : A) : Type 0 where
    pub in_list : In y xs
    pub after : T (lt x y)
    pub none_between : (z : A) → In z xs → T (lt x z) → (z ≡ y) ⊎ T (lt y z)

  never : (x z : A) → T (lt x z) → T (lt z x) → ⊥
  never x z h k = subst T (S.irrefl x) (S.trans x z x h k)

  -- in a list that rises, what follows an element is the least of those after it
  pub next_follows : (xs : List A) → Rises lt xs → Linked next none xs → (x y : A) → In x xs → next x ≡ some y → Follows xs x y
  next_follows [] r l x y i e = absurd i
  next_follows (a ∷ cs) r l x y (inl q) e = subst (λ (w : A). Follows (a ∷ cs) w y) (sym q) (first cs r (sym l.0 ∙ ap next (sym q) ∙ e))
    where
      first : (bs : List A) → Rises lt (a ∷ bs) → head_or none bs ≡ some y → Follows (a ∷ bs) a y
      first [] r e = let z : ◌≡◌ {A = ℕ} 0 1 = cc in absurd (omega arith)
      first (b ∷ bs) r e = let q : b ≡ y = cc in subst (Follows (a ∷ b ∷ bs) a) q (record {
        in_list = inr (inl refl);
        after = r.0.0;
        none_between = between;
      })
        where
          between : (z : A) → In z (a ∷ b ∷ bs) → T (lt a z) → (z ≡ b) ⊎ T (lt b z)
          between z (inl p) h = absurd (never a z h (subst (λ (w : A). T (lt z w)) p (subst (λ (w : A). T (lt w z)) (sym p) h)))
          between z (inr (inl p)) h = inl p
          between z (inr (inr j)) h = inr (every_in (λ w. T (lt b w)) bs r.1.0 z j)
  next_follows (a ∷ cs) r l x y (inr i) e =
      let f = next_follows cs r.1 l.1 x y i e in
      record { in_list = inr f.in_list; after = f.after; none_between = between f.none_between }
    where
      between : ((z : A) → In z cs → T (lt x z) → (z ≡ y) ⊎ T (lt y z)) → (z : A) → In z (a ∷ cs) → T (lt x z) → (z ≡ y) ⊎ T (lt y z)
      between ih z (inl p) h = absurd (never x z h (subst (λ (w : A). T (lt w x)) (sym p) (every_in (λ w. T (lt a w)) cs r.0 x i)))
      between ih z (inr j) h = ih z j h

  -- and nothing is after an element that nothing follows
  pub none_follows : (xs : List A) → Rises lt xs → Linked next none xs → (x : A) → In x xs → next x ≡ none → (z : A) → In z xs → T (lt x z) → ⊥
  none_follows [] r l x i e z j h = i
  none_follows (a ∷ cs) r l x (inl q) e z j h = go cs (sym l.0 ∙ ap next (sym q) ∙ e) j
    where
      go : (bs : List A) → head_or none bs ≡ none → In z (a ∷ bs) → ⊥
      go [] e (inl p) = subst T (S.irrefl x) (subst (λ (w : A). T (lt x w)) (p ∙ sym q) h)
      go [] e (inr k) = k
      go (b ∷ bs) e k = let z : ◌≡◌ {A = ℕ} 0 1 = cc in omega arith
  none_follows (a ∷ cs) r l x (inr i) e z (inl p) h =
      never x z h (subst (λ (w : A). T (lt w x)) (sym p) (every_in (λ w. T (lt a w)) cs r.0 x i))
  none_follows (a ∷ cs) r l x (inr i) e z (inr j) h = none_follows cs r.1 l.1 x i e z j h
