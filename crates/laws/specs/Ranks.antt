-- The costs of a list that is sorted by cost, rank by rank, for two costs of its elements. What holds of the two costs of each element holds of the two at each
-- rank: one is at most the other, or at most e above it. So where they are at most e apart, the sorted costs are, though elements may change ranks.
-- Assumes nothing.
use Rattle.std.specs.Prelude.{◌≡◌, refl, Bool, true, false, List, [], ◌∷◌, map, ℕ, zero, suc, ◌+◌, ◌≤◌, min, ℤ, pos, ◌+ℤ◌, ◌≤ℤ◌, ◌<ℤ◌, length, take}
use Rattle.std.proofs.Common.{sym, ap, ◌∙◌, inl, inr, arith, length-take}
use Rattle.std.proofs.Math.Option.{some}
use Rattle.std.specs.Int.Signed.{le_z, le_z_yes, ≤ℤ_refl}
use Rattle.std.proofs.Math.ListN.{get_elem?}
use Rattle.std.proofs.lemmas.List.{length-map}
use Rattle.model.specs.Lists.{bit, count, insert, sorted}
use Rattle.laws.specs.Int.{ints, lt_in, ≤ℤ-trans, le_z_no, +-mono}
use Rattle.laws.specs.Members.{T_true, true-T, false-T, In, Every, every_in, in_every}
use Rattle.laws.specs.Sorting.{take_at, at_in, by_test, every-insert, sorted-length, count-sorted}
use Rattle.laws.specs.Entries.{at_map, count_none, count_imp}

-- the costs ys are as many as xs, and at each rank the cost of ys is that of xs or at most e more
pub record Moved (e : ℕ) (xs ys : List ℤ) : Type 0 where
  pub long : length ys ≡ length xs
  pub each : (j : ℕ) (x y : ℤ) → get_elem? xs j ≡ some x → get_elem? ys j ≡ some y → (x ≤ℤ y) × (y ≤ℤ (x +ℤ pos e))

module _ {A : Type 0} where
  -- an order by cost: what comes before costs no more, and what does not come before costs no less
  pub record ByCost (lt : A → A → Bool) (cost : A → ℤ) : Type 0 where
    pub ahead : (x y : A) → lt x y ≡ true → cost x ≤ℤ cost y
    pub behind : (x y : A) → lt x y ≡ false → cost y ≤ℤ cost x

  -- ---- a list whose costs rise or stay

  abbrev Ascends : (A → ℤ) → List A → Type 0
  Ascends cost [] = Unit {0}
  Ascends cost (x ∷ xs) = Every (λ y. cost x ≤ℤ cost y) xs × Ascends cost xs

  module _ {lt : A → A → Bool} {cost : A → ℤ} (o : ByCost lt cost) where
    ascends_insert : (a : A) (s : List A) → Ascends cost s → Ascends cost (insert lt a s)
    ascends_insert a [] h = (tt, tt)
    ascends_insert a (b ∷ bs) h =
        by_test lt (Ascends cost) a b bs (λ e. (front (o.ahead a b e), h))
        (λ e. (every-insert lt (λ y. cost b ≤ℤ cost y) a bs (o.behind a b e) h.0, ascends_insert a bs h.1))
      where
        front : cost a ≤ℤ cost b → Every (λ y. cost a ≤ℤ cost y) (b ∷ bs)
        front l = (l, in_every (λ y. cost a ≤ℤ cost y) bs (λ y i. ≤ℤ-trans l (every_in (λ z. cost b ≤ℤ cost z) bs h.0 y i)))

    ascends_sorted : (xs : List A) → Ascends cost (sorted lt xs)
    ascends_sorted [] = tt
    ascends_sorted (x ∷ xs) = ascends_insert x (sorted lt xs) (ascends_sorted xs)

  module _ (cost : A → ℤ) where
    -- up to an entry, every element costs at most as much
    at_least : (s : List A) → Ascends cost s → (j : ℕ) (y : A) → get_elem? s j ≡ some y → suc j ≤ count (λ x. le_z (cost x) (cost y)) s
    at_least [] h j y e = absurd (at_in [] j y e)
    at_least (a ∷ s) h zero y e =
        let q : y ≡ a = cc in rw (q, T_true (le_z (cost a) (cost a)) (≤ℤ_refl (cost a)).le) (omega arith)
    at_least (a ∷ s) h (suc j) y e =
        rw (T_true (le_z (cost a) (cost y)) (every_in (λ z. cost a ≤ℤ cost z) s h.0 y (at_in s j y e)).le)
        (omega (arith, at_least s h.1 j y e))

    -- from an entry that costs more than t on, none costs at most t
    at_most : (s : List A) → Ascends cost s → (j : ℕ) (x : A) (t : ℤ) → get_elem? s j ≡ some x → t <ℤ cost x → count (λ z. le_z (cost z) t) s ≤ j
    at_most [] h j x t e l = absurd (at_in [] j x e)
    at_most (a ∷ s) h zero x t e l =
        let q : x ≡ a = cc in
        omega (arith, count_none (λ z. le_z (cost z) t) (a ∷ s) (above (rw q at l)))
      where
        dear : (z : A) → t <ℤ cost z → le_z (cost z) t ≡ false
        dear z k = go (le_z (cost z) t) refl
          where
            go : (b : Bool) → le_z (cost z) t ≡ b → le_z (cost z) t ≡ false
            go true b = let m : cost z ≤ℤ t = le_z_yes (true-T b) in absurd (omega ints)
            go false b = b

        above : t <ℤ cost a → (z : A) → In z (a ∷ s) → le_z (cost z) t ≡ false
        above k z (inl i) = rw i (dear a k)
        above k z (inr i) = let m : cost a ≤ℤ cost z = every_in (λ y. cost a ≤ℤ cost y) s h.0 z i in dear z (omega (ints, lt_in))
    at_most (a ∷ s) h (suc j) x t e l = go (le_z (cost a) t) (at_most s h.1 j x t e l)
      where
        go : (b : Bool) → count (λ z. le_z (cost z) t) s ≤ j → bit b + count (λ z. le_z (cost z) t) s ≤ suc j
        go true m = omega arith
        go false m = omega arith

  -- ---- two costs of the same elements

  -- where f is at most g at each element, it is so at each rank
  pub ranks_below : {lt other : A → A → Bool} {f g : A → ℤ} → ByCost lt f → ByCost other g → (xs : List A) → ((x : A) → In x xs → f x ≤ℤ g x)
      → (j : ℕ) (x y : A) → get_elem? (sorted lt xs) j ≡ some x → get_elem? (sorted other xs) j ≡ some y → f x ≤ℤ g y
  ranks_below {lt} {other} {f} {g} o r xs h j x y e k = go (le_z (f x) (g y)) refl
    where
      few : g y <ℤ f x → count (λ z. le_z (f z) (g y)) xs ≤ j
      few l = rw (← count-sorted lt (λ z. le_z (f z) (g y)) xs) (at_most f (sorted lt xs) (ascends_sorted o xs) j x (g y) e l)

      many : suc j ≤ count (λ z. le_z (g z) (g y)) xs
      many = rw (← count-sorted other (λ z. le_z (g z) (g y)) xs) (at_least g (sorted other xs) (ascends_sorted r xs) j y k)

      more : count (λ z. le_z (g z) (g y)) xs ≤ count (λ z. le_z (f z) (g y)) xs
      more = count_imp (λ z. le_z (g z) (g y)) (λ z. le_z (f z) (g y)) xs (λ z i t. (≤ℤ-trans (h z i) (le_z_yes t)).le)

      go : (b : Bool) → le_z (f x) (g y) ≡ b → f x ≤ℤ g y
      go true b = le_z_yes (true-T b)
      go false b = absurd (omega (arith, few (le_z_no (false-T b)), many, more))

  -- a cost that is e higher orders alike
  higher : {lt : A → A → Bool} {cost : A → ℤ} (e : ℕ) → ByCost lt cost → ByCost lt (λ x. cost x +ℤ pos e)
  higher {lt} {cost} e o = record { ahead = λ x y h. both x y (o.ahead x y h); behind = λ x y h. both y x (o.behind x y h) }
    where
      both : (x y : A) → cost x ≤ℤ cost y → (cost x +ℤ pos e) ≤ℤ (cost y +ℤ pos e)
      both x y h = +-mono (cost x) (cost y) (pos e) (pos e) h (≤ℤ_refl (pos e))

  -- where f is at most e above g at each element, it is so at each rank
  pub ranks_within : {lt other : A → A → Bool} {f g : A → ℤ} → ByCost lt f → ByCost other g → (e : ℕ) (xs : List A)
      → ((x : A) → In x xs → f x ≤ℤ (g x +ℤ pos e))
      → (j : ℕ) (x y : A) → get_elem? (sorted lt xs) j ≡ some x → get_elem? (sorted other xs) j ≡ some y → f x ≤ℤ (g y +ℤ pos e)
  ranks_within o r e xs h = ranks_below o (higher e r) xs h

  -- both: where f is at most g, and g at most e above f, at each element, it is so at each rank of the first K
  pub ranks_near : {lt other : A → A → Bool} {f g : A → ℤ} → ByCost lt f → ByCost other g → (e : ℕ) (xs : List A)
      → ((x : A) → In x xs → (f x ≤ℤ g x) × (g x ≤ℤ (f x +ℤ pos e)))
      → (K : ℕ) → Moved e (map f (take K (sorted lt xs))) (map g (take K (sorted other xs)))
  ranks_near {lt} {other} {f} {g} o r e xs h K = record { long = long other g ∙ sym (long lt f); each = each }
    where
      long : (any : A → A → Bool) (cost : A → ℤ) → length (map cost (take K (sorted any xs))) ≡ min K (length xs)
      long any cost = length-map (take K (sorted any xs)) cost ∙ length-take K (sorted any xs) ∙ ap (min K) (sorted-length any xs)

      each : (j : ℕ) (x y : ℤ) → get_elem? (map f (take K (sorted lt xs))) j ≡ some x → get_elem? (map g (take K (sorted other xs))) j ≡ some y
          → (x ≤ℤ y) × (y ≤ℤ (x +ℤ pos e))
      each j x y i k =
          let a = at_map f (take K (sorted lt xs)) j x i in
          let b = at_map g (take K (sorted other xs)) j y k in
          let s = (take_at K (sorted lt xs) j a.0 a.1).1 in
          let t = (take_at K (sorted other xs) j b.0 b.1).1 in
          rw (a.2, b.2) (
            ranks_below o r xs (λ z m. (h z m).0) j a.0 b.0 s t,
            ranks_within r o e xs (λ z m. (h z m).1) j b.0 a.0 t s,
          )
