-- The search for the K first elements in any strict order that is total on them. A candidate stands for a set of elements, with the set's first.
-- Of the candidates that wait, the one whose first element comes first is listed, and its children, which stand for the rest of its set, wait instead
-- of it. No more than K wait. The elements listed are the first K of the sorted ones.
-- Assumes nothing.
use Rattle.std.specs.Prelude.{◌≡◌, refl, Bool, false, ◌⊎◌, List, [], ◌∷◌, ℕ, zero, suc, ◌+◌, ◌≤◌, ◌<◌, T, length, take, drop}
use Rattle.std.proofs.Common.{sym, ap, ◌∙◌, subst, inl, inr, eq-or-lt_of_le, arith, drop_of_length-le}
use Rattle.std.proofs.Math.Option.{some}
use Rattle.std.proofs.Math.Decide.{dec_lt}
use Rattle.std.proofs.Math.ListN.{get_elem?}
use Rattle.model.specs.Lists.{count, insert, sorted}
use Rattle.laws.specs.Members.{true-T, In, Every, in_every, every_imp, every_both, every_take, Apart}
use Rattle.laws.specs.Sorting.{Strict, Total, Rises, by_test, at_in, rank, unrank, sorted-length, count-sorted, in_sorted, sorted_in, rises_sorted}
use Rattle.laws.specs.Entries.{some_at, count_most, by_rank}

-- ---- the search

module _ {A C : Type 0} (lt : A → A → Bool) (first : C → A) where
  -- a candidate is before another if its first element is
  abbrev pub earlier : C → C → Bool
  earlier c d = lt (first c) (first d)

  -- candidates join those that wait, which are in order, and no more than K are kept
  abbrev pub admit : ℕ → List C → List C → List C
  admit K [] ws = ws
  admit K (c ∷ cs) ws = admit K cs (take K (insert earlier c ws))

  -- the first elements of the candidates that are listed in n steps
  abbrev pub run : (C → List C) → ℕ → ℕ → List C → List A
  run children K zero ws = []
  run children K (suc n) [] = []
  run children K (suc n) (w ∷ ws) = first w ∷ run children K n (admit K (children w) ws)

-- ---- lists of candidates

module _ {C : Type 0} where
  -- P holds for one of the list
  abbrev pub Some : (C → Type 0) → List C → Type 0
  Some P [] = ⊥
  Some P (c ∷ cs) = P c ⊎ Some P cs

  -- R holds for each of the list and every later one
  abbrev pub Pairs : (C → C → Type 0) → List C → Type 0
  Pairs R [] = Unit {0}
  Pairs R (c ∷ cs) = Every (R c) cs × Pairs R cs

  pairs_take : (R : C → C → Type 0) (K : ℕ) (ws : List C) → Pairs R ws → Pairs R (take K ws)
  pairs_take R zero ws h = tt
  pairs_take R (suc K) [] h = tt
  pairs_take R (suc K) (w ∷ ws) h = (every_take (R w) K ws h.0, pairs_take R K ws h.1)

  module _ (lt : C → C → Bool) where
    every-insert : (P : C → Type 0) (c : C) (ws : List C) → P c → Every P ws → Every P (insert lt c ws)
    every-insert P c [] h k = (h, tt)
    every-insert P c (d ∷ ds) h k = by_test lt (Every P) c d ds (λ e. (h, k)) (λ e. (k.0, every-insert P c ds h k.1))

    some_insert : (P : C → Type 0) (c : C) (ws : List C) → P c ⊎ Some P ws → Some P (insert lt c ws)
    some_insert P c [] h = h
    some_insert P c (d ∷ ds) h = by_test lt (Some P) c d ds (λ e. h) (λ e. go h (some_insert P c ds))
      where
        go : P c ⊎ Some P (d ∷ ds) → (P c ⊎ Some P ds → Some P (insert lt c ds)) → P d ⊎ Some P (insert lt c ds)
        go (inl x) ih = inr (ih (inl x))
        go (inr (inl x)) ih = inl x
        go (inr (inr x)) ih = inr (ih (inr x))

    -- a relation between any two holds after an insertion: one that goes both ways, and the order itself
    pairs_insert : (R : C → C → Type 0) → ((c d : C) → R c d → R d c) → (c : C) (ws : List C) → Every (R c) ws → Pairs R ws
        → Pairs R (insert lt c ws)
    pairs_insert R flip c [] h k = (tt, tt)
    pairs_insert R flip c (d ∷ ds) h k =
        by_test lt (Pairs R) c d ds (λ e. (h, k))
        (λ e. (every-insert (R d) c ds (flip c d h.0) k.0, pairs_insert R flip c ds h.1 k.1))

    order_insert : ((x y z : C) → T (lt x y) → T (lt y z) → T (lt x z)) → (c : C) (ws : List C)
        → Every (λ d. lt c d ≡ false → T (lt d c)) ws → Pairs (λ d e. T (lt d e)) ws → Pairs (λ d e. T (lt d e)) (insert lt c ws)
    order_insert trans c [] h k = (tt, tt)
    order_insert trans c (d ∷ ds) h k =
        by_test lt (Pairs (λ x y. T (lt x y))) c d ds (λ e. (front (true-T e), k))
        (λ e. (every-insert (λ x. T (lt d x)) c ds (h.0 e) k.0, order_insert trans c ds h.1 k.1))
      where
        front : T (lt c d) → Every (λ x. T (lt c x)) (d ∷ ds)
        front l = (l, every_imp (λ x m. trans c d x l m) ds k.0)

-- ---- how many elements come before one

drop_at : {A : Type 0} (s : List A) (j : ℕ) (x : A) → get_elem? s j ≡ some x → drop j s ≡ x ∷ drop (suc j) s
drop_at [] j x e = let z : ◌≡◌ {A = ℕ} 0 1 = cc in absurd (omega arith)
drop_at (y ∷ ys) zero x e = let q : y ≡ x = cc in rw q
drop_at (y ∷ ys) (suc j) x e = drop_at ys j x e

module _ {A : Type 0} (lt : A → A → Bool) (S : Strict lt) (U : List A) (apart : Apart U) (total : Total lt U) where
  abbrev rk : A → ℕ
  rk x = count (λ y. lt y x) U

  rises : Rises lt (sorted lt U)
  rises = rises_sorted lt S U apart total

  -- an element stands in the sorted list at its rank, and nowhere else
  at_rank : (x : A) → In x U → get_elem? (sorted lt U) (rk x) ≡ some x
  at_rank x i = rw (count-sorted lt (λ y. lt y x) U) at (unrank lt S (sorted lt U) rises x (sorted_in lt x U i))

  rank_at : (j : ℕ) (x : A) → get_elem? (sorted lt U) j ≡ some x → In x U × (rk x ≡ j)
  rank_at j x e = (in_sorted lt x U (at_in (sorted lt U) j x e), sym (count-sorted lt (λ y. lt y x) U) ∙ rank lt S (sorted lt U) rises j x e)

  rank_same : (x y : A) → In x U → In y U → rk x ≡ rk y → x ≡ y
  rank_same x y i j e = let u : some x ≡ some y = sym (at_rank x i) ∙ rw e (at_rank y j) in cc

  rank_lt : (x y : A) → In x U → In y U → T (lt x y) → rk x < rk y
  rank_lt x y i j h = (by_rank lt S U apart total x y i j).0 h

  -- each rank below the number of elements is that of an element
  of_rank : (j : ℕ) → j < length U → (x : A) × In x U × (rk x ≡ j)
  of_rank j h =
      let m = some_at (sorted lt U) j (omega (arith, sorted-length lt U)) in
      let r = rank_at j m.0 m.1 in
      (m.0, r.0, r.1)

  -- ---- the search lists the first K

  module _ {C : Type 0} (first : C → A) (Has : C → A → Type 0) (Valid : C → Type 0) (children : C → List C) where
    -- two candidates have no element in common
    abbrev Disjoint : C → C → Type 0
    Disjoint c d = (u : A) → Has c u → Has d u → ⊥

    -- what is asked of candidates, where `Has c u` says that u is in the set of c: its first element is in the set and comes before all others; each
    -- of the others is in the set of a child; a child has none but those; and no two children have one in common
    pub record Scheme : Type 0 where
      pub first-has : (c : C) → Valid c → Has c (first c)
      pub inside : (c : C) (u : A) → Valid c → Has c u → In u U
      pub firsts : (c : C) (u : A) → Valid c → Has c u → (first c ≡ u) ⊎ T (lt (first c) u)
      pub cover : (c : C) (u : A) → Valid c → Has c u → (first c ≡ u) ⊎ Some (λ k. Has k u) (children c)
      pub fewer : (c : C) → Valid c → Every (λ k. Valid k × ((u : A) → Has k u → Has c u × (first c ≡ u → ⊥))) (children c)
      pub parts : (c : C) → Valid c → Pairs (λ k l. (u : A) → Has k u → Has l u → ⊥) (children c)

    -- no element of c has a rank below j
    abbrev Fresh : ℕ → C → Type 0
    Fresh j c = (u : A) → Has c u → j ≤ rk u

    abbrev HasOne : A → List C → Type 0
    HasOne u cs = Some (λ c. Has c u) cs

    -- j elements are listed, the candidates ws wait, and the candidates ps are yet to be admitted
    record Inv (K j : ℕ) (ws ps : List C) : Type 0 where
      valid : Every Valid ws
      order : Pairs (λ c d. T (lt (first c) (first d))) ws
      fresh : Every (Fresh j) ws
      split : Pairs Disjoint ws
      covered : (u : A) → In u U → j ≤ rk u → HasOne u ws ⊎ (HasOne u ps ⊎ (K ≤ rk u))
      valid' : Every Valid ps
      fresh' : Every (Fresh j) ps
      split' : Pairs Disjoint ps
      across : Every (λ p. Every (Disjoint p) ws) ps

    module _ (sc : Scheme) where
      first_in : (c : C) → Valid c → In (first c) U
      first_in c v = sc.inside c (first c) v (sc.first-has c v)

      -- a candidate's first element has the lowest rank of its elements
      first_rank : (c : C) (u : A) → Valid c → Has c u → rk (first c) ≤ rk u
      first_rank c u v h = go (sc.firsts c u v h)
        where
          go : (first c ≡ u) ⊎ T (lt (first c) u) → rk (first c) ≤ rk u
          go (inl e) = rw e (omega arith)
          go (inr l) = omega (arith, rank_lt (first c) u (first_in c v) (sc.inside c u v h) l)

      some_rank : (u : A) (n : ℕ) (ws : List C) → Every Valid ws → Every (λ c. n ≤ rk (first c)) ws → HasOne u ws → n ≤ rk u
      some_rank u n [] v h s = absurd s
      some_rank u n (w ∷ ws) v h (inl x) = omega (arith, first_rank w u v.0 x, h.0)
      some_rank u n (w ∷ ws) v h (inr x) = some_rank u n ws v.1 h.1 x

      -- the candidates after w have firsts of higher ranks
      higher : (n : ℕ) (w : C) (ws : List C) → Valid w → Every Valid ws → Every (λ d. T (lt (first w) (first d))) ws → n ≤ rk (first w)
          → Every (λ d. suc n ≤ rk (first d)) ws
      higher n w ws v vs o h =
          every_both (λ d vd t. omega (arith, rank_lt (first w) (first d) (first_in w v) (first_in d vd) t)) ws vs o

      -- an element of a candidate that is dropped has K elements before it
      kept : (u : A) (K n : ℕ) (ws : List C) → Every Valid ws → Pairs (λ c d. T (lt (first c) (first d))) ws → Every (λ c. n ≤ rk (first c)) ws
          → HasOne u ws → HasOne u (take K ws) ⊎ (n + K ≤ rk u)
      kept u K n [] v c h s = absurd s
      kept u zero n (w ∷ ws) v c h s = inr (omega (arith, some_rank u n (w ∷ ws) v h s))
      kept u (suc K) n (w ∷ ws) v c h (inl x) = inl (inl x)
      kept u (suc K) n (w ∷ ws) v c h (inr x) =
          go (kept u K (suc n) ws v.1 c.1 (higher n w ws v.0 v.1 c.0 h.0) x)
        where
          go : HasOne u (take K ws) ⊎ (suc n + K ≤ rk u) → HasOne u (take (suc K) (w ∷ ws)) ⊎ (n + suc K ≤ rk u)
          go (inl y) = inl (inr y)
          go (inr y) = inr (omega arith)

      admit_one : (K j : ℕ) (ws : List C) (c : C) (ps : List C) → Inv K j ws (c ∷ ps) → Inv K j (take K (insert (earlier lt first) c ws)) ps
      admit_one K j ws c ps i = record {
        valid = every_take Valid K all all_valid;
        order = pairs_take (λ c d. T (before c d)) K all all_order;
        fresh = every_take (Fresh j) K all (every-insert before (Fresh j) c ws i.fresh'.0 i.fresh);
        split = pairs_take Disjoint K all (pairs_insert before Disjoint flip c ws i.across.0 i.split);
        covered = λ u m l. still u (i.covered u m l);
        valid' = i.valid'.1;
        fresh' = i.fresh'.1;
        split' = i.split'.1;
        across = every_both (λ p d e. every_take (Disjoint p) K all (every-insert before (Disjoint p) c ws (flip c p d) e)) ps i.split'.0
            i.across.1;
      }
        where
          before : C → C → Bool
          before = earlier lt first

          all : List C
          all = insert before c ws

          flip : (c d : C) → Disjoint c d → Disjoint d c
          flip c d f u x y = f u y x

          all_valid : Every Valid all
          all_valid = every-insert before Valid c ws i.valid'.0 i.valid

          either : (d : C) → Valid d → Disjoint c d → before c d ≡ false → T (before d c)
          either d v f e =
              total (first c) (first d) (first_in c i.valid'.0) (first_in d v)
              (λ q. f (first c) (sc.first-has c i.valid'.0) (rw q (sc.first-has d v))) e

          all_order : Pairs (λ c d. T (before c d)) all
          all_order =
              order_insert before (λ x y z. S.trans (first x) (first y) (first z)) c ws (every_both either ws i.valid i.across.0) i.order

          enough : (u : A) → HasOne u all → HasOne u (take K all) ⊎ (HasOne u ps ⊎ (K ≤ rk u))
          enough u s = go (kept u K 0 all all_valid all_order (in_every (λ d. 0 ≤ rk (first d)) all (λ d l. omega arith)) s)
            where
              go : HasOne u (take K all) ⊎ (0 + K ≤ rk u) → HasOne u (take K all) ⊎ (HasOne u ps ⊎ (K ≤ rk u))
              go (inl x) = inl x
              go (inr x) = inr (inr (omega arith))

          still : (u : A) → HasOne u ws ⊎ (HasOne u (c ∷ ps) ⊎ (K ≤ rk u)) → HasOne u (take K all) ⊎ (HasOne u ps ⊎ (K ≤ rk u))
          still u (inl x) = enough u (some_insert before (λ c. Has c u) c ws (inr x))
          still u (inr (inl (inl x))) = enough u (some_insert before (λ c. Has c u) c ws (inl x))
          still u (inr (inl (inr x))) = inr (inl x)
          still u (inr (inr x)) = inr (inr x)

      admit-all : (K j : ℕ) (ws ps : List C) → Inv K j ws ps → Inv K j (admit lt first K ps ws) []
      admit-all K j ws [] i = i
      admit-all K j ws (p ∷ ps) i = admit-all K j (take K (insert (earlier lt first) p ws)) ps (admit_one K j ws p ps i)

      -- the first element of the first that waits has rank j
      next_rank : (K j : ℕ) (w : C) (ws : List C) → j < K → Inv K j (w ∷ ws) [] → rk (first w) ≡ j
      next_rank K j w ws l i = go (eq-or-lt_of_le (i.fresh.0 (first w) (sc.first-has w i.valid.0)))
        where
          go : (j ≡ rk (first w)) ⊎ (j < rk (first w)) → rk (first w) ≡ j
          go (inl e) = sym e
          go (inr h) = absurd (never (i.covered m.0 m.1 (omega (arith, m.2))))
            where
              m : (x : A) × In x U × (rk x ≡ j)
              m = of_rank j (omega (arith, count_most (λ y. lt y (first w)) U))

              above : Every (λ c. suc j ≤ rk (first c)) (w ∷ ws)
              above = (h, every_imp (λ d t. omega arith) ws (higher j w ws i.valid.0 i.valid.1 i.order.0 (omega arith)))

              never : HasOne m.0 (w ∷ ws) ⊎ (⊥ ⊎ (K ≤ rk m.0)) → ⊥
              never (inl x) = omega (arith, some_rank m.0 (suc j) (w ∷ ws) i.valid above x, m.2)
              never (inr (inl x)) = x
              never (inr (inr x)) = omega (arith, m.2)

      list_one : (K j : ℕ) (w : C) (ws : List C) → j < K → Inv K j (w ∷ ws) [] → Inv K (suc j) ws (children w)
      list_one K j w ws l i = record {
        valid = i.valid.1;
        order = i.order.1;
        fresh = every_both later ws (every_both (λ c v f. (v, f)) ws i.valid.1 i.fresh.1) i.split.0;
        split = i.split.1;
        covered = λ u m k. still u k (i.covered u m (omega arith));
        valid' = every_imp (λ c f. f.0) (children w) fewer;
        fresh' = every_imp (λ c f u h. above c u f.0 h (f.1 u h) (sc.firsts w u vw (f.1 u h).0)) (children w) fewer;
        split' = sc.parts w vw;
        across = every_imp (λ k f. every_imp (λ d g u x y. g u (f.1 u x).0 y) ws i.split.0) (children w) fewer;
      }
        where
          vw : Valid w
          vw = i.valid.0

          fewer : Every (λ k. Valid k × ((u : A) → Has k u → Has w u × (first w ≡ u → ⊥))) (children w)
          fewer = sc.fewer w vw

          r : rk (first w) ≡ j
          r = next_rank K j w ws l i

          later : (c : C) → Valid c × Fresh j c → Disjoint w c → Fresh (suc j) c
          later c v d u h = go (eq-or-lt_of_le (v.1 u h))
            where
              go : (j ≡ rk u) ⊎ (j < rk u) → suc j ≤ rk u
              go (inl e) =
                  absurd (d u (subst (Has w) (rank_same (first w) u (first_in w vw) (sc.inside c u v.0 h) (r ∙ e))
                  (sc.first-has w vw)) h)
              go (inr k) = k

          above : (c : C) (u : A) → Valid c → Has c u → Has w u × (first w ≡ u → ⊥) → (first w ≡ u) ⊎ T (lt (first w) u) → suc j ≤ rk u
          above c u v x h (inl e) = absurd (h.1 e)
          above c u v x h (inr t) = omega (arith, r, rank_lt (first w) u (first_in w vw) (sc.inside c u v x) t)

          still : (u : A) → suc j ≤ rk u → HasOne u (w ∷ ws) ⊎ (⊥ ⊎ (K ≤ rk u)) → HasOne u ws ⊎ (HasOne u (children w) ⊎ (K ≤ rk u))
          still u k (inl (inl x)) = go (sc.cover w u vw x)
            where
              go : (first w ≡ u) ⊎ HasOne u (children w) → HasOne u ws ⊎ (HasOne u (children w) ⊎ (K ≤ rk u))
              go (inl e) = let clash : rk u ≡ j = rw (← e) r in absurd (omega arith)
              go (inr y) = inr (inl y)
          still u k (inl (inr x)) = inl x
          still u k (inr (inl x)) = absurd x
          still u k (inr (inr x)) = inr (inr x)

      runs : (K n j : ℕ) (ws : List C) → j + n ≡ K → Inv K j ws [] → run lt first children K n ws ≡ take n (drop j (sorted lt U))
      runs K zero j ws e i = refl
      runs K (suc n) j [] e i = rw (drop_of_length-le (sorted lt U) {i = j} (go (dec_lt j (length U))))
        where
          never : (x : A) → rk x ≡ j → ⊥ ⊎ (⊥ ⊎ (K ≤ rk x)) → ⊥
          never x r (inl v) = v
          never x r (inr (inl v)) = v
          never x r (inr (inr v)) = omega arith

          go : Dec (j < length U) → length (sorted lt U) ≤ j
          go (yes h) =
              let m = of_rank j h in absurd (never m.0 m.2 (i.covered m.0 m.1 (omega (arith, m.2))))
          go (no h) = omega (arith, sorted-length lt U)
      runs K (suc n) j (w ∷ ws) e i =
          ap (λ (l : List A). first w ∷ l)
          (runs K n (suc j) (admit lt first K (children w) ws) (omega arith)
          (admit-all K (suc j) ws (children w) (list_one K j w ws (omega arith) i)))
          ∙ sym (ap (take (suc n)) (drop_at (sorted lt U) j (first w)
          (rw (next_rank K j w ws (omega arith) i) at (at_rank (first w) (first_in w i.valid.0)))))

      -- from one candidate that has all elements, the search lists the first K
      pub run_is : (K : ℕ) (c : C) → Valid c → ((u : A) → In u U → Has c u) → run lt first children K K (c ∷ []) ≡ take K (sorted lt U)
      run_is K c v all =
          runs K K 0 (c ∷ []) (omega arith) record {
            valid = (v, tt);
            order = (tt, tt);
            fresh = (λ u h. omega arith, tt);
            split = (tt, tt);
            covered = λ u m l. inl (inl (all u m));
            valid' = tt;
            fresh' = tt;
            split' = tt;
            across = tt;
          }
