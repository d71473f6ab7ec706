-- A candidate goes in among those that wait.
-- Assumes nothing.
use mathlib.Core.Path.{◌≡◌, refl, sym, ap, ap₂, ◌∙◌, subst}
use mathlib.Core.Bool.{Bool, true, false, cond}
use mathlib.Core.Logic.{◌⊎◌, inl, inr}
use mathlib.Core.List.{List, [], ◌∷◌, ◌++◌, map, append_assoc, append-nil, map-append}
use Prim.Native.Nat.{ℕ, zero, suc, ◌+◌, ◌*◌, ◌≤◌, ◌<◌}
use native.Mathlib.Numerals.{add-one}
use native.Mathlib.Omega.{arith}
use lib.IntN.{ℤ, pos}
use lib.ListN.{length, get_or, set, take, drop, length-append, length-map, length-set}
use lib.Seq.{take-suc, take_all, take_at, drop_at, length-take-le, get_or-set_same, get_or-set_other, paste}
use Rattle.model.specs.Lists.{insert}
use Rattle.laws.specs.Members.{In, Every, every_in, ++-in, map_same}
use Rattle.laws.specs.Sorting.{in_take}
use Rattle.pool.specs.declared.Pool.{Pool}
use Rattle.stored.specs.Entry.{Entry, earlier_entry}
use Rattle.pool.specs.Entries.{entry_at, entries, Formed, earlier_than, first_yes, beyond_of, Inserted, Spare, moved_up}
use Rattle.pool.proofs.Moves.{between, before_long, between_long, first-n, up_slots, up_first, slot_new, slot_low}
use Rattle.pool.proofs.Ascent.{ascends_kept, not_kept}
use Rattle.pool.proofs.Rows.{written_long, row_same, row_other}

-- ---- the place

module _ (test : ℕ → Bool) where
  yes_most : (xs : List ℕ) → first_yes test xs ≤ length xs
  yes_most [] = omega arith
  yes_most (x ∷ xs) = go (test x) (yes_most xs)
    where
      go : (t : Bool) → first_yes test xs ≤ length xs → cond t 0 (suc (first_yes test xs)) ≤ suc (length xs)
      go true h = omega arith
      go false h = omega arith

  -- numbers before it that do not pass are left out
  pub yes_skip : (xs : List ℕ) (i : ℕ) → i ≤ length xs → Every (λ (x : ℕ). test x ≡ false) (take i xs) → first_yes test xs ≡ i + first_yes test
      (drop i xs)
  yes_skip [] zero l h = omega arith
  yes_skip [] (suc i) l h = absurd (omega arith)
  yes_skip (x ∷ xs) zero l h = omega arith
  yes_skip (x ∷ xs) (suc i) l h = ap (λ (t : Bool). cond t 0 (suc (first_yes test xs))) h.0 ∙ omega (arith, yes_skip xs i (omega arith) h.1)

-- insertion puts the element there
insert_at_lem : {A : Type 0} (lt : A → A → Bool) (f : ℕ → A) (a : A) (xs : List ℕ) →
    let n = first_yes (λ j. lt a (f j)) xs in insert lt a (map f xs) ≡ map f (take n xs) ++ (a ∷ map f (drop n xs))
insert_at_lem lt f a [] = refl
insert_at_lem {A} lt f a (x ∷ xs) = go (lt a (f x)) (insert_at_lem lt f a xs)
  where
    n : ℕ
    n = first_yes (λ j. lt a (f j)) xs

    go : (t : Bool) → insert lt a (map f xs) ≡ map f (take n xs) ++ (a ∷ map f (drop n xs))
        → ◌≡◌ {A = List A} (elim t [ true ↦ a ∷ (f x ∷ map f xs) | false ↦ f x ∷ insert lt a (map f xs) ])
        (map f (take (cond t 0 (suc n)) (x ∷ xs)) ++ (a ∷ map f (drop (cond t 0 (suc n)) (x ∷ xs))))
    go true ih = refl
    go false ih = ap (λ (r : List A). f x ∷ r) ih

-- ---- the entries that are kept

-- the new entry e stands after those of a and before those of b; nothing of t is kept
kept : (a b t : List Entry) (e : Entry) (n k : ℕ) → length a + length b ≡ n → n < k → (t ≡ []) ⊎ (n + 1 ≡ k)
    → take k (a ++ (e ∷ (b ++ t))) ≡ a ++ (e ∷ b)
kept a b t e n k h l (inl z) =
    rw (z, append-nil b) (take_all k (a ++ (e ∷ b)) (simp length-append (omega arith)))
kept a b t e n k h l (inr z) =
    ap (take k) (sym (append_assoc a (e ∷ b) t)) ∙ take_at (a ++ (e ∷ b)) t k (simp length-append (omega arith))

-- the pool with the new entry in the slot of place n, which moves up to place i
abbrev pub filled : Pool → ℤ → List ℕ → ℕ → ℕ → ℕ → ℕ → Pool
filled p x bs split mask i n =
    let j = get_or p.order n 0 in
    record {
      costs = set p.costs j x;
      plans = paste p.plans (j * 64) bs (length bs);
      splits = set p.splits j split;
      barred = set p.barred j mask;
      order = moved_up i n p.order;
      count = n + 1;
      most = p.most;
    }

-- as many wait as the pool says
waiting_long : (p : Pool) → Formed p → length (take p.count p.order) ≡ p.count
waiting_long p ok = length-take-le p.count p.order (omega (arith, ok.few, ok.most_high, ok.slots.long))

pub entries_long : (s : ℕ) (p : Pool) → Formed p → length (entries s p) ≡ p.count
entries_long s p ok = length-map (take p.count p.order) (entry_at s p) ∙ waiting_long p ok

module _ (p : Pool) (ok : Formed p) (x : ℤ) (bs : List ℕ) (short : length bs ≤ 64) (split mask : ℕ) where
  abbrev s : ℕ
  s = length bs

  abbrev k : ℕ
  k = p.most

  abbrev e : Entry
  e = record { cost = x; plan = bs; split = split; mask = mask }

  abbrev o : List ℕ
  o = p.order

  abbrev waiting : List ℕ
  waiting = take p.count o

  module _ (i : ℕ) (place : i ≡ first_yes (earlier_than e.cost e.plan s p.costs p.plans) waiting) where
    place-most : i ≤ p.count
    place-most = omega (arith, place, waiting_long p ok, yes_most (earlier_than e.cost e.plan s p.costs p.plans) waiting)

    inserted : insert earlier_entry e (entries s p) ≡ map (entry_at s p) (take i waiting) ++ (e ∷ map (entry_at s p) (drop i waiting))
    inserted =
        insert_at_lem earlier_entry (entry_at s p) e waiting
        ∙ ap (λ (n : ℕ). map (entry_at s p) (take n waiting) ++ (e ∷ map (entry_at s p) (drop n waiting))) (sym place)

    -- it comes after k others, and is not kept
    pub unchanged : k ≤ i → Inserted s e p p
    unchanged h =
        record {
          formed = ok;
          same-most = refl;
          waits = sym (ap (take k) inserted
              ∙ ap (λ (xs : List ℕ). take k (map (entry_at s p) xs ++ (e ∷ map (entry_at s p) (drop i waiting))))
              (take_all i waiting (omega (arith, waiting_long p ok)))
              ∙ take_at (entries s p) (e ∷ map (entry_at s p) (drop i waiting)) k (omega (arith, entries_long s p ok, place-most, ok.few)));
        }

    module _ (n : ℕ) (spare : (n < k) × Spare n p.count k) (new : i < k) where
      abbrev j : ℕ
      j = get_or o n 0

      abbrev q : Pool
      q = filled p x bs split mask i n

      inside : n < length o
      inside = omega (arith, spare.0, ok.most_high, ok.slots.long)

      low : j < 64
      low = slot_low ok.slots n (omega (arith, spare.0, ok.most_high))

      pub place-before : i ≤ n
      place-before = go spare.1
        where
          go : Spare n p.count k → i ≤ n
          go (inl h) = omega (arith, place-most)
          go (inr h) = omega (arith, new)

      -- slot j holds the new entry, and every other slot what it held
      entry_new : entry_at s q j ≡ e
      entry_new =
          λ t. record {
            cost = get_or-set_same p.costs j e.cost (pos 0) (omega (arith, low, ok.costs_long)) t;
            plan = row_same p.plans j bs ok.plans_long low short t;
            split = get_or-set_same p.splits j e.split 0 (omega (arith, low, ok.splits_long)) t;
            mask = get_or-set_same p.barred j e.mask 0 (omega (arith, low, ok.barred_long)) t;
          }

      entry_old : (z : ℕ) → z < 64 → (z ≡ j → ⊥) → entry_at s q z ≡ entry_at s p z
      entry_old z h d =
          λ t. record {
            cost = get_or-set_other p.costs j z e.cost (pos 0) d t;
            plan = row_other p.plans j bs ok.plans_long low short z h d t;
            split = get_or-set_other p.splits j z e.split 0 d t;
            mask = get_or-set_other p.barred j z e.mask 0 d t;
          }

      -- those of the first n slots are as they were
      entries-old : (xs : List ℕ) → ((z : ℕ) → In z xs → In z (take n o)) → map (entry_at s q) xs ≡ map (entry_at s p) xs
      entries-old xs h =
          map_same (entry_at s q) (entry_at s p) xs
          (λ z m. entry_old z (every_in (λ (x : ℕ). x < 64) o ok.slots.low z (in_take n z o (h z m)))
          (λ same. slot_new o n inside ok.slots.apart (subst (λ (x : ℕ). In x (take n o)) same (h z m))))

      -- what waited, around place i
      around : (t : List ℕ) → waiting ≡ take i o ++ (between o i n ++ t) → (map (entry_at s p) t ≡ []) ⊎ (n + 1 ≡ k)
          → take k (insert earlier_entry e (entries s p)) ≡ map (entry_at s p) (take i o) ++ (e ∷ map (entry_at s p) (between o i n))
      around t w h =
          ap (take k)
          (inserted
          ∙ ap₂ (λ (xs ys : List ℕ). map (entry_at s p) xs ++ (e ∷ map (entry_at s p) ys))
          (ap (take i) w ∙ take_at (take i o) (between o i n ++ t) i (before_long o i n place-before inside))
          (ap (drop i) w ∙ drop_at (take i o) (between o i n ++ t) i (before_long o i n place-before inside))
          ∙ ap (λ (xs : List Entry). map (entry_at s p) (take i o) ++ (e ∷ xs)) (map-append (entry_at s p) (between o i n) t))
          ∙ kept (map (entry_at s p) (take i o)) (map (entry_at s p) (between o i n)) (map (entry_at s p) t) e n k
          (omega (
            arith,
            length-map (take i o) (entry_at s p),
            length-map (between o i n) (entry_at s p),
            before_long o i n place-before inside,
            between_long o i n place-before inside,
            place-before,
          )) spare.0 h

      by_spare : Spare n p.count k
          → take k (insert earlier_entry e (entries s p)) ≡ map (entry_at s p) (take i o) ++ (e ∷ map (entry_at s p) (between o i n))
      by_spare (inl h) = around [] (rw (← h, append-nil (between o i n)) (first-n o i n place-before inside)) (inl refl)
      by_spare (inr h) =
          around (j ∷ [])
          (rw (← h.0, add-one, take-suc o n 0 inside, first-n o i n place-before inside) (append_assoc (take i o) (between o i n) (j ∷ [])))
          (inr (h.0 ∙ h.1))

      filled_entries : entries s q ≡ take k (insert earlier_entry e (entries s p))
      filled_entries =
          ap (map (entry_at s q)) (up_first o i n place-before inside)
          ∙ map-append (entry_at s q) (take i o) (j ∷ between o i n)
          ∙ ap₂ ◌++◌
          (entries-old (take i o) (λ z m. rw (first-n o i n place-before inside) (++-in z (take i o) (between o i n) (inl m))))
          (ap₂ ◌∷◌ entry_new
          (entries-old (between o i n) (λ z m. rw (first-n o i n place-before inside) (++-in z (take i o) (between o i n) (inr m)))))
          ∙ sym (by_spare spare.1)

      filled_formed : Formed q
      filled_formed =
          record {
            costs_long = length-set p.costs j e.cost ∙ ok.costs_long;
            plans_long = written_long p.plans j bs ok.plans_long low short;
            splits_long = length-set p.splits j e.split ∙ ok.splits_long;
            barred_long = length-set p.barred j e.mask ∙ ok.barred_long;
            most_low = ok.most_low;
            most_high = ok.most_high;
            few = omega (arith, spare.0);
            slots = up_slots o i n place-before inside ok.slots;
            ascends = ascends_kept s k e p q ok.ascends filled_entries;
          }

      pub filled_inserted : Inserted s e p q
      filled_inserted = record { formed = filled_formed; same-most = refl; waits = filled_entries }

-- as many wait as may, and it costs more than the last
pub beyond_kept : (p : Pool) (s : ℕ) (e : Entry) → Formed p → beyond_of (length (take p.count p.order)) p.most e.cost p.costs (take p.count p.order) ≡ true → Inserted s e p p
beyond_kept p s e ok h =
    record { formed = ok; same-most = refl; waits = not_kept s p.most p ok.most_low ok.ascends e h }
