-- A list of policies in two slices, and the list after one more went in.
-- Assumes nothing.
use Rattle.std.specs.Prelude.{◌≡◌, refl, Bool, true, false, cond, List, [], ◌∷◌, ◌++◌, map, ℕ, suc, ◌+◌, ◌*◌, ◌-◌, ◌≤◌, ◌<◌, ℤ, ltb, length, take, drop}
use Rattle.std.proofs.Common.{sym, ap, ap₂, ◌∙◌, append_assoc, mul-le-mul, mul-one, arith, ltb-true, ltb-false, length-append, length-drop, take-append-drop, take_all, take_at, drop_at, drop-drop, length-take-le}
use Rattle.std.specs.Int.Signed.{lt_z}
use Rattle.std.proofs.lemmas.List.{length-map, take-append-le, drop-append-le}
use Rattle.std.proofs.Math.Seq.{take-length, drop-length, take-append-add, drop-append-add}
use Rattle.model.specs.Lists.{for_each, first_where}
use Rattle.model.specs.Policy.{Policy}
use Rattle.model.specs.Calls.{over}
use Rattle.laws.specs.Members.{Every, every_take, every_drop}
use Rattle.laws.specs.Joined.{for_each_++}
use Rattle.best_kept.specs.Placed.{opened, last_place, place_of, Placed}
use Rattle.best_kept.specs.Insertion.{insert_at, where_most}

-- ---- lists of the same length, one after another

module _ {A B : Type 0} (f : A → List B) (w : ℕ) where
  -- each has w elements
  abbrev Wide : List A → Type 0
  Wide xs = Every (λ (x : A). length (f x) ≡ w) xs

  wide_long : (xs : List A) → Wide xs → length (for_each f xs) ≡ length xs * w
  wide_long [] h = omega arith
  wide_long (x ∷ xs) h = rw length-append (omega (arith, h.0, wide_long xs h.1))

  -- the first i of them, and the others
  module _ (xs : List A) (h : Wide xs) (i : ℕ) (l : i ≤ length xs) where
    cut : for_each f xs ≡ for_each f (take i xs) ++ for_each f (drop i xs)
    cut = ap (for_each f) (sym (take-append-drop i xs)) ∙ for_each_++ f (take i xs) (drop i xs)

    front_long : length (for_each f (take i xs)) ≡ i * w
    front_long = wide_long (take i xs) (every_take _ i xs h) ∙ ap (λ (n : ℕ). n * w) (length-take-le i xs l)

    wide_take : take (i * w) (for_each f xs) ≡ for_each f (take i xs)
    wide_take = ap (take (i * w)) cut ∙ take_at (for_each f (take i xs)) (for_each f (drop i xs)) (i * w) front_long

    wide_drop : drop (i * w) (for_each f xs) ≡ for_each f (drop i xs)
    wide_drop = ap (drop (i * w)) cut ∙ drop_at (for_each f (take i xs)) (for_each f (drop i xs)) (i * w) front_long

module _ {B : Type 0} where
  -- past what is written over, a slice is as it was
  over-rest : (p o : List B) (m : ℕ) → length p ≤ m → drop m (over p o) ≡ drop m o
  over-rest p o m l =
      let e : length p + (m - length p) ≡ m = omega arith in
      ap (λ (n : ℕ). drop n (over p o)) (sym e) ∙ drop-append-add p (drop (length p) o) (m - length p) ∙ drop-drop (m - length p) (length p) o
      ∙ ap (λ (n : ℕ). drop n o) e

-- ---- one more among those that are kept

module _ {A : Type 0} (ps : List A) (x : A) (i k : ℕ) (within : i ≤ length ps) (new : i < k) (most : length ps ≤ k) where
  abbrev n : ℕ
  n = length ps

  abbrev last : ℕ
  last = last_place n k

  -- those after it that are kept
  abbrev later : List A
  later = take (last - i) (drop i ps)

  -- the last place is n or the last of k
  pub last_cases : (P : ℕ → Type 0) → (n < k → P n) → (n ≡ k → P (k - 1)) → P last
  last_cases P some full = go (ltb n k) refl
    where
      go : (t : Bool) → ltb n k ≡ t → P (cond t n (k - 1))
      go true e = some (ltb-true n k e)
      go false e = full (omega (arith, ltb-false n k e))

  kept_list : take k (insert_at i x ps) ≡ take i ps ++ (x ∷ later)
  kept_list = last_cases (λ m. take k (insert_at i x ps) ≡ take i ps ++ (x ∷ take (m - i) (drop i ps))) some full
    where
      front : length (take i ps) ≡ i
      front = length-take-le i ps within

      some : n < k → take k (insert_at i x ps) ≡ take i ps ++ (x ∷ take (n - i) (drop i ps))
      some l =
          take_all k (insert_at i x ps) (rw length-append (omega (arith, front, length-drop i ps)))
          ∙ ap (λ (s : List A). take i ps ++ (x ∷ s)) (sym (take_all (n - i) (drop i ps) (omega (arith, length-drop i ps))))

      full : n ≡ k → take k (insert_at i x ps) ≡ take i ps ++ (x ∷ take (k - 1 - i) (drop i ps))
      full e =
          let m : k ≡ length (take i ps) + suc (k - 1 - i) = omega (arith, front) in
          ap (λ (j : ℕ). take j (insert_at i x ps)) m ∙ take-append-add (take i ps) (x ∷ drop i ps) (suc (k - 1 - i))

  later-fits : last - i ≤ length (drop i ps)
  later-fits = last_cases (λ m. m - i ≤ length (drop i ps)) (λ l. omega (arith, length-drop i ps)) (λ e. omega (arith, length-drop i ps))

  last-after : n ≤ last + 1
  last-after = last_cases (λ m. n ≤ m + 1) (λ l. omega arith) (λ e. omega arith)

  last_from : i ≤ last
  last_from = last_cases (λ m. i ≤ m) (λ l. within) (λ e. omega arith)

  pub kept_long : length (take k (insert_at i x ps)) ≡ last + 1
  kept_long =
      ap length kept_list
      ∙ rw length-append (omega (arith, length-take-le i ps within, length-take-le (last - i) (drop i ps) later-fits, last_from))

  module _ {B : Type 0} (f : A → List B) (w : ℕ) (wide : Every (λ (p : A). length (f p) ≡ w) ps) (own : length (f x) ≡ w) (o : List B) where
    abbrev old : List B
    old = over (for_each f ps) o

    long : length (for_each f ps) ≡ n * w
    long = wide_long f w ps wide

    -- the part before it, the part after it that is kept, and the rest
    before-part : take (i * w) old ≡ for_each f (take i ps)
    before-part =
        take-append-le (i * w) (for_each f ps) (drop (length (for_each f ps)) o)
        (omega (arith, long, mul-le-mul {n₁ = i} {m₁ = w} {n₂ = n} {m₂ = w} within (omega arith)))
        ∙ wide_take f w ps wide i within

    after-part : take (last * w - i * w) (drop (i * w) old) ≡ for_each f later
    after-part =
        let d : last ≡ i + (last - i) = omega (arith, last_from) in
        let e : last * w - i * w ≡ (last - i) * w = omega (arith, ap (λ (m : ℕ). m * w) d) in
        rw e
        (ap (take ((last - i) * w))
        (drop-append-le (i * w) (for_each f ps) (drop (length (for_each f ps)) o)
        (omega (arith, long, mul-le-mul {n₁ = i} {m₁ = w} {n₂ = n} {m₂ = w} within (omega arith)))
        ∙ ap (λ (r : List B). r ++ drop (length (for_each f ps)) o) (wide_drop f w ps wide i within))
        ∙ take-append-le ((last - i) * w) (for_each f (drop i ps)) (drop (length (for_each f ps)) o)
        (omega (
          arith,
          wide_long f w (drop i ps) (every_drop _ i ps wide),
          mul-le-mul {n₁ = last - i} {m₁ = w} {n₂ = length (drop i ps)} {m₂ = w} later-fits (omega arith),
        ))
        ∙ wide_take f w (drop i ps) (every_drop _ i ps wide) (last - i) later-fits)

    rest_part : drop (last * w + length (f x)) old ≡ drop ((last + 1) * w) o
    rest_part =
        let e : last * w + length (f x) ≡ (last + 1) * w = omega (arith, own) in
        rw e (over-rest (for_each f ps) o ((last + 1) * w) (omega (arith, long, mul-le-mul {n₁ = n} {m₁ = w} {n₂ = last + 1} {m₂ = w} last-after (omega arith))))

    -- the slice afterwards
    pub opened_list : opened (i * w) (last * w) (f x) old ≡ over (for_each f (take k (insert_at i x ps))) o
    opened_list =
        ap₂ (λ (a b : List B). a ++ (f x ++ b)) before-part (ap₂ ◌++◌ after-part rest_part)
        ∙ sym (ap₂ (λ (l : List B) (m : ℕ). l ++ drop m o) all all_long ∙ simp append_assoc)
      where
        all : for_each f (take k (insert_at i x ps)) ≡ for_each f (take i ps) ++ (f x ++ for_each f later)
        all = ap (for_each f) kept_list ∙ for_each_++ f (take i ps) (x ∷ later)

        all_long : length (for_each f (take k (insert_at i x ps))) ≡ (last + 1) * w
        all_long =
            ap length all
            ∙ rw (length-append, length-append)
            (omega (
              arith,
              own,
              front_long f w ps wide i within,
              wide_long f w later (every_take _ (last - i) (drop i ps) (every_drop _ i ps wide)),
              ap (λ (m : ℕ). m * w) (length-take-le (last - i) (drop i ps) later-fits),
              ap (λ (m : ℕ). m * w) (let e : last ≡ i + (last - i) = omega (arith, last_from) in e),
            ))

-- ---- policies with their costs

-- n policies stand in the slices: their costs at the front of one, their bytes at the front of the other; the rest of both is as before
pub record Holds (cost : Policy → ℤ) (ps : List Policy) (n : ℕ) (costs₀ costs : List ℤ) (plans₀ plans : List ℕ) : Type 0 where
  pub count : n ≡ length ps
  pub costs_are : costs ≡ over (map cost ps) costs₀
  pub plans_are : plans ≡ over (for_each (λ (p : Policy). p) ps) plans₀

each-one : (cost : Policy → ℤ) (ps : List Policy) → for_each (λ (p : Policy). cost p ∷ []) ps ≡ map cost ps
each-one cost [] = refl
each-one cost (p ∷ ps) = ap (λ (zs : List ℤ). cost p ∷ zs) (each-one cost ps)

one_wide : (cost : Policy → ℤ) (ps : List Policy) → Every (λ (p : Policy). length (cost p ∷ []) ≡ 1) ps
one_wide cost [] = tt
one_wide cost (p ∷ ps) = (refl, one_wide cost ps)

module _ (cost : Policy → ℤ) (ps : List Policy) (x : Policy) (n k m : ℕ) (costs₀ costs costs' : List ℤ) (plans₀ plans plans' : List ℕ)
    (h : Holds cost ps n costs₀ costs plans₀ plans) (kept : Placed n k (cost x) x m costs costs' plans plans') (low : 1 ≤ k) (few : n ≤ k)
    (wide : Every (λ (p : Policy). length p ≡ length x) ps) where
  -- how many stay before it
  abbrev i : ℕ
  i = first_where (lt_z (cost x)) (map cost ps)

  abbrev after : List Policy
  after = take k (insert_at i x ps)

  place_same : place_of n (cost x) costs ≡ i
  place_same =
      ap (first_where (lt_z (cost x)))
      (ap (take n) h.costs_are ∙ take_at (map cost ps) (drop (length (map cost ps)) costs₀) n (length-map ps cost ∙ sym h.count))

  inside : i ≤ length ps
  inside = omega (arith, where_most (lt_z (cost x)) (map cost ps), length-map ps cost)

  -- as costs are one element each
  costs-after : i < k → opened i (last_place n k) (cost x ∷ []) costs ≡ over (map cost after) costs₀
  costs-after l =
      ap (λ (j : ℕ). opened i (last_place j k) (cost x ∷ []) costs) h.count
      ∙ ap₂ (λ (a b : ℕ). opened a b (cost x ∷ []) costs) (sym (mul-one i)) (sym (mul-one (last_place (length ps) k)))
      ∙ ap (opened (i * 1) (last_place (length ps) k * 1) (cost x ∷ [])) (h.costs_are ∙ ap (λ (zs : List ℤ). over zs costs₀) (sym (each-one cost ps)))
      ∙ opened_list ps x i k inside l (omega (arith, h.count)) (λ (p : Policy). cost p ∷ []) 1 (one_wide cost ps) refl costs₀
      ∙ ap (λ (zs : List ℤ). over zs costs₀) (each-one cost after)

  plans-after : i < k → opened (i * length x) (last_place n k * length x) x plans ≡ over (for_each (λ (p : Policy). p) after) plans₀
  plans-after l =
      ap (λ (j : ℕ). opened (i * length x) (last_place j k * length x) x plans) h.count
      ∙ ap (opened (i * length x) (last_place (length ps) k * length x) x) h.plans_are
      ∙ opened_list ps x i k inside l (omega (arith, h.count)) (λ (p : Policy). p) (length x) wide refl plans₀

  -- where k stay before it, nothing changes
  all_stay : k ≤ i → after ≡ ps
  all_stay l =
      let e : i ≡ length ps = omega (arith, inside, h.count) in
      let z : k ≡ length ps = omega (arith, inside, h.count) in
      rw (e, z, take-length ps, drop-length ps) (take_at ps (x ∷ []) (length ps) refl)

  pub kept_holds : Holds cost after m costs₀ costs' plans₀ plans'
  kept_holds = go (ltb i k) refl
    where
      go : (t : Bool) → ltb i k ≡ t → Holds cost after m costs₀ costs' plans₀ plans'
      go true e =
          let l = ltb-true i k e in
          let w = kept.within (omega (arith, place_same)) in
          record {
            count = w.0 ∙ ap (λ (j : ℕ). last_place j k + 1) h.count ∙ sym (kept_long ps x i k inside l (omega (arith, h.count)));
            costs_are = w.1 ∙ ap (λ (j : ℕ). opened j (last_place n k) (cost x ∷ []) costs) place_same ∙ costs-after l;
            plans_are = w.2 ∙ ap (λ (j : ℕ). opened (j * length x) (last_place n k * length x) x plans) place_same ∙ plans-after l;
          }
      go false e =
          let l = ltb-false i k e in
          let o = kept.out (omega (arith, place_same)) in
          record {
            count = o.0 ∙ h.count ∙ ap length (sym (all_stay l));
            costs_are = o.1 ∙ h.costs_are ∙ ap (λ (qs : List Policy). over (map cost qs) costs₀) (sym (all_stay l));
            plans_are = o.2 ∙ h.plans_are ∙ ap (λ (qs : List Policy). over (for_each (λ (p : Policy). p) qs) plans₀) (sym (all_stay l));
          }
