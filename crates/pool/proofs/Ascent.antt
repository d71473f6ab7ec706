-- Those that wait are in the order of their costs, and stay so.
-- Assumes nothing.
use mathlib.Core.Path.{◌≡◌, refl, sym, ap, ◌∙◌, subst}
use mathlib.Core.Bool.{Bool, true, false, not, ◌&&◌, ◌||◌}
use mathlib.Core.List.{List, [], ◌∷◌, ◌++◌, map}
use Prim.Native.Nat.{ℕ, zero, suc, ◌-◌, ◌%◌, ◌≤◌, ◌<◌}
use native.Mathlib.Omega.{arith}
use lib.Dec.{T, eqb, eqb→eq}
use lib.IntN.{ℤ, pos}
use lib.Signed.{lt_z, ◌≤ℤ◌, ◌<ℤ◌, lt_z_yes, lt_z_no, ≤ℤ_refl, clash_ℤ}
use lib.ListN.{length, get_or, take, get_or-map, length-map}
use lib.Seq.{take_at}
use Rattle.std.specs.List.Sorted.{IsPartitionedBy}
use Rattle.model.specs.Lists.{insert}
use Rattle.model.specs.Order.{lower}
use Rattle.laws.specs.Int.{ints, lt_in, ≤ℤ-trans, <→≤}
use Rattle.laws.specs.Members.{T_true, true-T, false-T, and_T, Every, every_in, every_imp, every_take}
use Rattle.stored.specs.Entry.{Entry, earlier_entry}
use Rattle.pool.specs.declared.Pool.{Pool}
use Rattle.pool.specs.Entries.{entry_at, entries, row, Ascending, slot_costs, costs_of, Cheaper, earlier_than, beyond_of}
use Rattle.pool.proofs.Lists.{at_in}

-- ---- one comparison

module _ (e d : Entry) where
  abbrev less : Bool
  less = lt_z e.cost d.cost

  abbrev more : Bool
  more = lt_z d.cost e.cost

  -- an entry that comes before another costs no more, and else no less
  earlier-cost : earlier_entry e d ≡ true → e.cost ≤ℤ d.cost
  earlier-cost h = go less refl more refl (true-T h)
    where
      go : (a : Bool) → less ≡ a → (b : Bool) → more ≡ b → T (a || (not b && lower e.plan d.plan)) → e.cost ≤ℤ d.cost
      go true p b q t = <→≤ (lt_z_yes (true-T p))
      go false p true q t = absurd t
      go false p false q t = lt_z_no (false-T q)

  later-cost : earlier_entry e d ≡ false → d.cost ≤ℤ e.cost
  later-cost h = go less refl h
    where
      go : (a : Bool) → less ≡ a → (a || (not more && lower e.plan d.plan)) ≡ false → d.cost ≤ℤ e.cost
      go true p t = absurd (false-T t)
      go false p t = lt_z_no (false-T p)

  -- one that costs more does not come before
  dear_later : d.cost <ℤ e.cost → earlier_entry e d ≡ false
  dear_later h = go less refl more refl
    where
      go : (a : Bool) → less ≡ a → (b : Bool) → more ≡ b → (a || (not b && lower e.plan d.plan)) ≡ false
      go true p b q = clash_ℤ h (<→≤ (lt_z_yes (true-T p)))
      go false p true q = refl
      go false p false q = clash_ℤ h (lt_z_no (false-T q))

-- ---- insertion keeps the order

abbrev costs : List Entry → List ℤ
costs es = map (λ (e : Entry). e.cost) es

every-insert : (P : ℤ → Type 0) (e : Entry) (es : List Entry) → P e.cost → Every P (costs es) → Every P (costs (insert earlier_entry e es))
every-insert P e [] h k = (h, tt)
every-insert P e (d ∷ ds) h k = go (earlier_entry e d) (every-insert P e ds h k.1)
  where
    go : (t : Bool) → Every P (costs (insert earlier_entry e ds))
        → Every P (costs (elim t as (λ (_ : Bool). List Entry) [ true ↦ e ∷ (d ∷ ds) | false ↦ d ∷ insert earlier_entry e ds ]))
    go true r = (h, k)
    go false r = (k.0, r)

ascends_insert : (e : Entry) (es : List Entry) → Ascending (costs es) → Ascending (costs (insert earlier_entry e es))
ascends_insert e [] h = (tt, tt)
ascends_insert e (d ∷ ds) h = go (earlier_entry e d) refl (ascends_insert e ds h.1)
  where
    go : (t : Bool) → earlier_entry e d ≡ t → Ascending (costs (insert earlier_entry e ds))
        → Ascending (costs (elim t as (λ (_ : Bool). List Entry) [ true ↦ e ∷ (d ∷ ds) | false ↦ d ∷ insert earlier_entry e ds ]))
    go true q r =
        ((earlier-cost e d q, every_imp (λ (y : ℤ) (l : d.cost ≤ℤ y). ≤ℤ-trans (earlier-cost e d q) l) (costs ds) h.0), h)
    go false q r = (every-insert (λ (y : ℤ). d.cost ≤ℤ y) e ds (later-cost e d q) h.0, r)

ascends_take : (k : ℕ) (es : List Entry) → Ascending (costs es) → Ascending (costs (take k es))
ascends_take zero es h = tt
ascends_take (suc k) [] h = tt
ascends_take (suc k) (e ∷ es) h = (
  subst (Every (λ (y : ℤ). e.cost ≤ℤ y)) (sym (costs-take k es)) (every_take (λ (y : ℤ). e.cost ≤ℤ y) k (costs es) h.0),
  ascends_take k es
      h.1,
)
  where
    costs-take : (k : ℕ) (es : List Entry) → costs (take k es) ≡ take k (costs es)
    costs-take zero es = refl
    costs-take (suc k) [] = refl
    costs-take (suc k) (e ∷ es) = ap (λ (xs : List ℤ). e.cost ∷ xs) (costs-take k es)

-- the costs of the entries are those of the slots
pub costs_are : (s : ℕ) (p : Pool) → costs (entries s p) ≡ costs_of p
costs_are s p = go (take p.count p.order)
  where
    go : (xs : List ℕ) → costs (map (entry_at s p) xs) ≡ map (λ (j : ℕ). get_or p.costs j (pos 0)) xs
    go [] = refl
    go (x ∷ xs) = ap (λ (ys : List ℤ). get_or p.costs x (pos 0) ∷ ys) (go xs)

pub ascends_kept : (s k : ℕ) (e : Entry) (p q : Pool) → Ascending (costs_of p) → entries s q ≡ take k (insert earlier_entry e (entries s p))
    → Ascending (costs_of q)
ascends_kept s k e p q h kept =
    subst Ascending (ap costs (sym kept) ∙ costs_are s q)
    (ascends_take k (insert earlier_entry e (entries s p)) (ascends_insert e (entries s p) (subst Ascending (sym (costs_are s p)) h)))

pub ascends_rest : (s : ℕ) (p q : Pool) (e : Entry) → Ascending (costs_of p) → entries s p ≡ e ∷ entries s q → Ascending (costs_of q)
ascends_rest s p q e h k =
    subst Ascending (costs_are s q) (subst Ascending (ap costs k) (subst Ascending (sym (costs_are s p)) h)).1

pub ascends_one : (s : ℕ) (p : Pool) (e : Entry) → entries s p ≡ e ∷ [] → Ascending (costs_of p)
ascends_one s p e k = subst Ascending (ap costs (sym k) ∙ costs_are s p) (tt, tt)

-- ---- one that costs more than the last

last-most : (xs : List ℤ) (n : ℕ) (z : ℤ) → Ascending xs → length xs ≡ suc n → Every (λ (y : ℤ). y ≤ℤ get_or xs n z) xs
last-most [] n z h e = absurd (omega arith)
last-most (x ∷ []) zero z h e = (≤ℤ_refl x, tt)
last-most (x ∷ (y ∷ ys)) zero z h e = absurd (omega arith)
last-most (x ∷ xs) (suc n) z h e =
    (every_in (λ (y : ℤ). x ≤ℤ y) xs h.0 (get_or xs n z) (at_in xs n z (omega arith)), last-most xs n z h.1 (omega arith))

to_end : (e : Entry) (es : List Entry) → Every (λ (y : ℤ). y <ℤ e.cost) (costs es) → insert earlier_entry e es ≡ es ++ (e ∷ [])
to_end e [] h = refl
to_end e (d ∷ ds) h =
    ap (λ (t : Bool). elim t as (λ (_ : Bool). List Entry) [ true ↦ e ∷ (d ∷ ds) | false ↦ d ∷ insert earlier_entry e ds ]) (dear_later e d h.0)
    ∙ ap (λ (r : List Entry). d ∷ r) (to_end e ds h.1)

module _ (s k : ℕ) (p : Pool) (low : 1 ≤ k) (ascends : Ascending (costs_of p)) (e : Entry)
    (beyond : beyond_of (length (take p.count p.order)) k e.cost p.costs (take p.count p.order) ≡ true) where
  abbrev waiting : List ℕ
  waiting = take p.count p.order

  abbrev at : ℕ → ℤ
  at j = get_or p.costs j (pos 0)

  tests : T (eqb (length waiting) k) × T (lt_z (at (get_or waiting (k - 1) 0)) e.cost)
  tests = and_T (eqb (length waiting) k) (lt_z (at (get_or waiting (k - 1) 0)) e.cost) (true-T beyond)

  all : length waiting ≡ k
  all = eqb→eq (length waiting) k tests.0

  below : Every (λ (y : ℤ). y <ℤ e.cost) (costs (entries s p))
  below =
      let dear : get_or (costs_of p) (k - 1) (at 0) <ℤ e.cost = rw (get_or-map at waiting (k - 1) 0) (lt_z_yes tests.1) in
      subst (Every (λ (y : ℤ). y <ℤ e.cost)) (sym (costs_are s p))
      (every_imp (λ (y : ℤ) (l : y ≤ℤ get_or (costs_of p) (k - 1) (at 0)). omega (ints, lt_in, l, dear)) (costs_of p)
      (last-most (costs_of p) (k - 1) (at 0) ascends (omega (arith, all, length-map waiting at))))

  pub not_kept : entries s p ≡ take k (insert earlier_entry e (entries s p))
  not_kept =
      sym (ap (take k) (to_end e (entries s p) below)
      ∙ take_at (entries s p) (e ∷ []) k (length-map waiting (entry_at s p) ∙ all))

-- ---- the slots that cost less

module _ (zs : List ℤ) where
  abbrev cost_at : ℕ → ℤ
  cost_at j = get_or zs j (pos 0)

  -- the cost of a slot is at most that of a later one
  rises : (xs : List ℕ) (d : ℕ) → Ascending (slot_costs zs xs) → (i j : ℕ) → i ≤ j → j < length xs → cost_at (get_or xs i d) ≤ℤ cost_at (get_or xs j d)
  rises [] d a i j h l = absurd (omega arith)
  rises (x ∷ xs) d a zero zero h l = ≤ℤ_refl (cost_at x)
  rises (x ∷ xs) d a zero (suc j) h l =
      subst (λ (y : ℤ). cost_at x ≤ℤ y) (get_or-map cost_at xs j d)
      (every_in (λ (y : ℤ). cost_at x ≤ℤ y) (slot_costs zs xs) a.0 (get_or (slot_costs zs xs) j (cost_at d))
      (at_in (slot_costs zs xs) j (cost_at d) (omega (arith, length-map xs cost_at))))
  rises (x ∷ xs) d a (suc i) zero h l = absurd (omega arith)
  rises (x ∷ xs) d a (suc i) (suc j) h l = rises xs d a.1 i j (omega arith) (omega arith)

  -- the test that the code asks of a byte, which is for a slot whether it costs less
  abbrev pub costs_less : ℤ → ℕ → Bool
  costs_less x j = lt_z (cost_at (j % 64)) x

  a_slot : (xs : List ℕ) (i d : ℕ) → Every (λ (j : ℕ). j < 64) xs → i < length xs → get_or xs i d % 64 ≡ get_or xs i d
  a_slot xs i d low l = let h : get_or xs i d < 64 = every_in (λ (j : ℕ). j < 64) xs low (get_or xs i d) (at_in xs i d l) in omega arith

  -- no slot that costs less comes after one that does not
  pub parted : (x : ℤ) (xs : List ℕ) → Every (λ (j : ℕ). j < 64) xs → Ascending (slot_costs zs xs) → IsPartitionedBy (costs_less x) xs
  parted x xs low a i j d h l t =
      let less : cost_at (get_or xs j d) <ℤ x = lt_z_yes (true-T (rw (a_slot xs j d low l) at t)) in
      let more = rises xs d a i j h l in
      let goes : cost_at (get_or xs i d) <ℤ x = omega (ints, lt_in, less, more) in
      rw (a_slot xs i d low (omega arith)) (T_true _ goes.lt)

  pub cheaper_before : (x : ℤ) (xs : List ℕ) (n : ℕ) → Every (λ (j : ℕ). j < 64) xs → n ≤ length xs
      → ((k d : ℕ) → 0 ≤ k → k < n → costs_less x (get_or xs k d) ≡ true) → Cheaper zs x (take n xs)
  cheaper_before x xs zero low l h = tt
  cheaper_before x [] (suc n) low l h = absurd (omega arith)
  cheaper_before x (y ∷ xs) (suc n) low l h = (
    lt_z_yes (true-T (rw (a_slot (y ∷ xs) 0 0 low (omega arith)) at (h 0 0 (omega arith) (omega arith)))),
    cheaper_before x xs n low.1 (omega arith) (λ k d p q. h (suc k) d (omega arith) (omega arith)),
  )

  pub cheaper_no : (ps bs : List ℕ) (s : ℕ) (x : ℤ) (js : List ℕ) → Cheaper zs x js → Every (λ (j : ℕ). earlier_than x bs s zs ps j ≡ false) js
  cheaper_no ps bs s x js h =
      every_imp (λ (j : ℕ) (k : cost_at j <ℤ x).
      dear_later (record { cost = x; plan = bs; split = 0; mask = 0 }) (record { cost = cost_at j; plan = row s ps j; split = 0; mask = 0 }) k) js h
