-- A sorted list with one element more, and the first k of it.
-- Assumes nothing.
use Rattle.std.specs.Prelude.{◌≡◌, refl, Bool, true, false, cond, ◌⊎◌, List, [], ◌∷◌, ◌++◌, ℕ, zero, suc, ◌≤◌, T, length, take, drop}
use Rattle.std.proofs.Common.{sym, ap, ◌∙◌, subst, inl, inr, arith, take-take}
use Rattle.model.specs.Lists.{first_where, insert, sorted}
use Rattle.laws.specs.Members.{T_true, true-T, Every}
use Rattle.laws.specs.Sorting.{by_test, Strict}

-- no more elements stand before the first that passes a test than there are
pub where_most : {A : Type 0} (test : A → Bool) (xs : List A) → first_where test xs ≤ length xs
where_most test [] = omega arith
where_most test (x ∷ xs) = go (test x) (where_most test xs)
  where
    go : (t : Bool) → first_where test xs ≤ length xs → cond t 0 (suc (first_where test xs)) ≤ suc (length xs)
    go true h = omega arith
    go false h = omega arith

module _ {A : Type 0} where
  -- the list with x at place i
  abbrev pub insert_at : ℕ → A → List A → List A
  insert_at i x xs = take i xs ++ (x ∷ drop i xs)

module _ {A : Type 0} (lt : A → A → Bool) where
  not_both : (a b : A) → lt a b ≡ true → lt a b ≡ false → ⊥
  not_both a b e f = subst T f (true-T e)

  insert_yes : (a b : A) (bs : List A) → lt a b ≡ true → insert lt a (b ∷ bs) ≡ a ∷ (b ∷ bs)
  insert_yes a b bs e = by_test lt (λ s. s ≡ a ∷ (b ∷ bs)) a b bs (λ z. refl) (λ z. absurd (not_both a b e z))

  insert_no : (a b : A) (bs : List A) → lt a b ≡ false → insert lt a (b ∷ bs) ≡ b ∷ insert lt a bs
  insert_no a b bs e = by_test lt (λ s. s ≡ b ∷ insert lt a bs) a b bs (λ z. absurd (not_both a b z e)) (λ z. refl)

  -- insertion puts the element before the first that it comes before
  pub insert_at_lem : (x : A) (s : List A) → insert lt x s ≡ insert_at (first_where (lt x) s) x s
  insert_at_lem x [] = refl
  insert_at_lem x (b ∷ bs) =
      by_test lt (λ s. s ≡ insert_at (first_where (lt x) (b ∷ bs)) x (b ∷ bs)) x b bs (λ e. rw e)
      (λ e. rw e (ap (λ (s : List A). b ∷ s) (insert_at_lem x bs)))

  -- what is not among the first k has no part in the first k afterwards
  pub take-insert : (k : ℕ) (x : A) (s : List A) → take k (insert lt x s) ≡ take k (insert lt x (take k s))
  take-insert zero x s = refl
  take-insert (suc k) x [] = refl
  take-insert (suc k) x (b ∷ bs) = go (lt x b) refl (take-insert k x bs)
    where
      again : (k : ℕ) → take k (b ∷ bs) ≡ take k (b ∷ take k bs)
      again zero = refl
      again (suc k) = ap (λ (s : List A). b ∷ s) (sym (take-take k (suc k) bs (omega arith)))

      go : (t : Bool) → lt x b ≡ t → take k (insert lt x bs) ≡ take k (insert lt x (take k bs))
          → take (suc k) (insert lt x (b ∷ bs)) ≡ take (suc k) (insert lt x (b ∷ take k bs))
      go true e ih =
          ap (take (suc k)) (insert_yes x b bs e) ∙ ap (λ (s : List A). x ∷ s) (again k) ∙ sym (ap (take (suc k)) (insert_yes x b (take k bs) e))
      go false e ih =
          ap (take (suc k)) (insert_no x b bs e) ∙ ap (λ (s : List A). b ∷ s) ih ∙ sym (ap (take (suc k)) (insert_no x b (take k bs) e))

  module _ (S : Strict lt) where
    asym : (a x : A) → lt a x ≡ true → lt x a ≡ false
    asym a x e = go (lt x a) refl
      where
        go : (t : Bool) → lt x a ≡ t → lt x a ≡ false
        go true f = absurd (subst T (S.irrefl a) (S.trans a x a (true-T e) (true-T f)))
        go false f = f

    -- two insertions in either order
    swap-before : (a x : A) → lt a x ≡ true → (s : List A) → insert lt a (insert lt x s) ≡ insert lt x (insert lt a s)
    swap-before a x h [] = insert_yes a x [] h ∙ sym (insert_no x a [] (asym a x h))
    swap-before a x h (b ∷ bs) = go (lt x b) refl (lt a b) refl (swap-before a x h bs)
      where
        back : (r : List A) → insert lt x (a ∷ r) ≡ a ∷ insert lt x r
        back r = insert_no x a r (asym a x h)

        go : (t : Bool) → lt x b ≡ t → (u : Bool) → lt a b ≡ u → insert lt a (insert lt x bs) ≡ insert lt x (insert lt a bs)
            → insert lt a (insert lt x (b ∷ bs)) ≡ insert lt x (insert lt a (b ∷ bs))
        go true e u f ih =
            let g : lt a b ≡ true = T_true (lt a b) (S.trans a x b (true-T h) (true-T e)) in
            ap (insert lt a) (insert_yes x b bs e) ∙ insert_yes a x (b ∷ bs) h
            ∙ sym (ap (insert lt x) (insert_yes a b bs g) ∙ back (b ∷ bs) ∙ ap (λ (s : List A). a ∷ s) (insert_yes x b bs e))
        go false e true f ih =
            ap (insert lt a) (insert_no x b bs e) ∙ insert_yes a b (insert lt x bs) f
            ∙ sym (ap (insert lt x) (insert_yes a b bs f) ∙ back (b ∷ bs) ∙ ap (λ (s : List A). a ∷ s) (insert_no x b bs e))
        go false e false f ih =
            ap (insert lt a) (insert_no x b bs e) ∙ insert_no a b (insert lt x bs) f ∙ ap (λ (s : List A). b ∷ s) ih
            ∙ sym (ap (insert lt x) (insert_no a b bs f) ∙ insert_no x b (insert lt a bs) e)

    -- one of two elements comes before the other
    abbrev pub Ordered : A → A → Type 0
    Ordered a x = T (lt a x) ⊎ T (lt x a)

    swap : (a x : A) → Ordered a x → (s : List A) → insert lt a (insert lt x s) ≡ insert lt x (insert lt a s)
    swap a x (inl h) s = swap-before a x (T_true (lt a x) h) s
    swap a x (inr h) s = sym (swap-before x a (T_true (lt x a) h) s)

    -- a list with an element more at its end, sorted
    pub sorted_more : (xs : List A) (x : A) → Every (λ a. Ordered a x) xs → sorted lt (xs ++ (x ∷ [])) ≡ insert lt x (sorted lt xs)
    sorted_more [] x h = refl
    sorted_more (a ∷ xs) x h = ap (insert lt a) (sorted_more xs x h.1) ∙ swap a x h.0 (sorted lt xs)

    -- and the first k of it
    pub first_more : (k : ℕ) (xs : List A) (x : A) → Every (λ a. Ordered a x) xs
        → take k (sorted lt (xs ++ (x ∷ []))) ≡ take k (insert_at (first_where (lt x) (take k (sorted lt xs))) x (take k (sorted lt xs)))
    first_more k xs x h =
        ap (take k) (sorted_more xs x h) ∙ take-insert k x (sorted lt xs) ∙ ap (take k) (insert_at_lem x (take k (sorted lt xs)))
