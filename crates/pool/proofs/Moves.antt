-- The slots in another order: the same slots, each once.
-- Assumes nothing.
use mathlib.Core.Path.{◌≡◌, sym, ap, ◌∙◌, subst}
use mathlib.Core.Logic.{◌⊎◌, inl, inr}
use mathlib.Core.List.{List, [], ◌∷◌, ◌++◌, append_assoc}
use Prim.Native.Nat.{ℕ, suc, ◌+◌, ◌-◌, ◌≤◌, ◌<◌}
use native.Mathlib.Nat.{zero-add}
use native.Mathlib.Numerals.{add-one}
use native.Mathlib.Omega.{arith}
use lib.ListN.{length, get_or, take, drop, length-append, length-drop, take-append-drop}
use lib.Seq.{drop-cons, split_at, drop-drop, take-add, take_at, length-take-le, ext_get_or}
use Rattle.model.specs.Lists.{up_from}
use Rattle.laws.specs.Joined.{up_from_long, up_from_at}
use Rattle.laws.specs.Members.{In, every_in, in_every, in_++, ++-in, Apart, up_from_in, up_from_rising}
use Rattle.pool.specs.Entries.{Slots, moved_up, moved_back}
use Rattle.pool.proofs.Lists.{at_in, rising_apart}

-- ---- lists of the same elements

record Moved (xs ys : List ℕ) : Type 0 where
  long : length ys ≡ length xs
  inside : (z : ℕ) → In z ys → In z xs
  once : Apart xs → Apart ys

module _ (x : ℕ) where
  -- x in front of two lists, and between them
  front_in : (z : ℕ) (b c : List ℕ) → In z (x ∷ (b ++ c)) → In z (b ++ (x ∷ c))
  front_in z b c (inl e) = ++-in z b (x ∷ c) (inr (inl e))
  front_in z b c (inr i) = go (in_++ z b c i)
    where
      go : In z b ⊎ In z c → In z (b ++ (x ∷ c))
      go (inl j) = ++-in z b (x ∷ c) (inl j)
      go (inr j) = ++-in z b (x ∷ c) (inr (inr j))

  between_in : (z : ℕ) (b c : List ℕ) → In z (b ++ (x ∷ c)) → In z (x ∷ (b ++ c))
  between_in z b c i = go (in_++ z b (x ∷ c) i)
    where
      go : In z b ⊎ In z (x ∷ c) → In z (x ∷ (b ++ c))
      go (inl j) = inr (++-in z b c (inl j))
      go (inr (inl e)) = inl e
      go (inr (inr j)) = inr (++-in z b c (inr j))

  pub between_apart : (b c : List ℕ) → Apart (b ++ (x ∷ c)) → Apart (x ∷ (b ++ c))
  between_apart [] c a = a
  between_apart (y ∷ b) c a =
      let ih = between_apart b c a.1 in
      (go ih.0, (λ i. a.0 (front_in y b c (inr i)), ih.1))
    where
      go : (In x (b ++ c) → ⊥) → In x (y ∷ (b ++ c)) → ⊥
      go none (inl e) = a.0 (front_in y b c (inl (sym e)))
      go none (inr i) = none i

  front_apart : (b c : List ℕ) → Apart (x ∷ (b ++ c)) → Apart (b ++ (x ∷ c))
  front_apart [] c a = a
  front_apart (y ∷ b) c a = (λ i. go (between_in y b c i), front_apart b c (λ i. a.0 (inr i), a.1.1))
    where
      go : In y (x ∷ (b ++ c)) → ⊥
      go (inl e) = a.0 (inl (sym e))
      go (inr i) = a.1.0 i

  to_front : (b c : List ℕ) → Moved (b ++ (x ∷ c)) (x ∷ (b ++ c))
  to_front b c =
      record { long = simp length-append (omega arith); inside = λ z i. front_in z b c i; once = between_apart b c }

  to_back : (b c : List ℕ) → Moved (x ∷ (b ++ c)) (b ++ (x ∷ c))
  to_back b c =
      record { long = simp length-append (omega arith); inside = λ z i. between_in z b c i; once = front_apart b c }

after : (a : List ℕ) {xs ys : List ℕ} → Moved xs ys → Moved (a ++ xs) (a ++ ys)
after [] m = m
after (x ∷ a) {xs} {ys} m =
    let ih = after a m in
    record { long = ap suc ih.long; inside = go ih.inside; once = λ p. (λ i. p.0 (ih.inside x i), ih.once p.1) }
  where
    go : ((z : ℕ) → In z (a ++ ys) → In z (a ++ xs)) → (z : ℕ) → In z (x ∷ (a ++ ys)) → In z (x ∷ (a ++ xs))
    go rest z (inl e) = inl e
    go rest z (inr i) = inr (rest z i)

slots_moved : {xs ys : List ℕ} → Moved xs ys → Slots xs → Slots ys
slots_moved {xs} {ys} m s =
    record {
      long = m.long ∙ s.long;
      low = in_every (λ (j : ℕ). j < 64) ys (λ z i. every_in (λ (j : ℕ). j < 64) xs s.low z (m.inside z i));
      apart = m.once s.apart;
    }

first_slots : Slots (up_from 0 64)
first_slots =
    record {
      long = up_from_long 0 64;
      low = in_every (λ (j : ℕ). j < 64) (up_from 0 64) (λ z i. omega (arith, (up_from_in 0 64 {c = z} i).1));
      apart = rising_apart (up_from 0 64) (up_from_rising 0 64);
    }

pub slot_low : {xs : List ℕ} → Slots xs → (i : ℕ) → i < 64 → get_or xs i 0 < 64
slot_low {xs} s i h = every_in (λ (j : ℕ). j < 64) xs s.low (get_or xs i 0) (at_in xs i 0 (omega (arith, s.long)))

-- each slot at its own place
pub in_order_slots : (xs : List ℕ) → length xs ≡ 64 → ((i : ℕ) → i < 64 → get_or xs i 0 ≡ i) → Slots xs
in_order_slots xs long at =
    subst Slots
    (ext_get_or 0 (up_from 0 64) xs (up_from_long 0 64 ∙ sym long)
    (λ i h. let l : i < 64 = omega (arith, up_from_long 0 64) in up_from_at 0 64 i l ∙ zero-add i ∙ sym (at i l)))
    first_slots

-- ---- slot n moved up to place i

-- the slots from place i up to place n
abbrev pub between : List ℕ → ℕ → ℕ → List ℕ
between o i n = take (n - i) (drop i o)

module _ (o : List ℕ) (i n : ℕ) (le : i ≤ n) (lt : n < length o) where
  pub before_long : length (take i o) ≡ i
  before_long = length-take-le i o (omega arith)

  pub between_long : length (between o i n) ≡ n - i
  between_long = length-take-le (n - i) (drop i o) (simp length-drop (omega arith))

  -- all slots, and the first n
  cut : o ≡ take i o ++ (between o i n ++ (get_or o n 0 ∷ drop (n + 1) o))
  cut =
      let e : i + (n - i) ≡ n = omega arith in
      sym (take-append-drop i o)
      ∙ ap (λ (r : List ℕ). take i o ++ r)
      (sym (take-append-drop (n - i) (drop i o))
      ∙ ap (λ (r : List ℕ). between o i n ++ r) (rw (drop-drop, e, add-one) (drop-cons o n 0 lt)))

  pub first-n : take n o ≡ take i o ++ between o i n
  first-n = let e : i + (n - i) ≡ n = omega arith in rw e at (take-add i (n - i) o)

  pub up_slots : Slots o → Slots (moved_up i n o)
  up_slots s = slots_moved (after (take i o) (to_front (get_or o n 0) (between o i n) (drop (n + 1) o))) (subst Slots cut s)

  -- the first n + 1 after the move
  pub up_first : take (n + 1) (moved_up i n o) ≡ take i o ++ (get_or o n 0 ∷ between o i n)
  up_first =
      ap (take (n + 1)) (sym (append_assoc (take i o) (get_or o n 0 ∷ between o i n) (drop (n + 1) o)))
      ∙ take_at (take i o ++ (get_or o n 0 ∷ between o i n)) (drop (n + 1) o) (n + 1)
      (simp length-append (omega (arith, before_long, between_long)))

-- slot n is none of those before it
pub slot_new : (o : List ℕ) (n : ℕ) → n < length o → Apart o → In (get_or o n 0) (take n o) → ⊥
slot_new o n lt a k =
    (between_apart (get_or o n 0) (take n o) (drop (suc n) o) (subst Apart (split_at o n 0 lt) a)).0
    (++-in (get_or o n 0) (take n o) (drop (suc n) o) (inl k))

-- ---- the first slot moved back to the end of the first n

-- the others of the first n
abbrev pub others : List ℕ → ℕ → List ℕ
others o n = take (n - 1) (drop 1 o)

module _ (o : List ℕ) (n : ℕ) (low : 1 ≤ n) (high : n ≤ length o) where
  others_long : length (others o n) ≡ n - 1
  others_long = length-take-le (n - 1) (drop 1 o) (simp length-drop (omega arith))

  cut_first : o ≡ get_or o 0 0 ∷ (others o n ++ drop n o)
  cut_first =
      let e : 1 + (n - 1) ≡ n = omega arith in
      drop-cons o 0 0 (omega arith)
      ∙ ap (λ (r : List ℕ). get_or o 0 0 ∷ r)
      (sym (take-append-drop (n - 1) (drop 1 o)) ∙ ap (λ (r : List ℕ). others o n ++ r) (rw (drop-drop, e)))

  pub back-slots : Slots o → Slots (moved_back n o)
  back-slots s = slots_moved (to_back (get_or o 0 0) (others o n) (drop n o)) (subst Slots cut_first s)

  -- the first n, and what is left of them
  pub first_others : take n o ≡ get_or o 0 0 ∷ others o n
  first_others =
      ap (take n) cut_first ∙ take_at (get_or o 0 0 ∷ others o n) (drop n o) n (omega (arith, others_long))

  pub back_first : take (n - 1) (moved_back n o) ≡ others o n
  back_first = take_at (others o n) (get_or o 0 0 ∷ drop n o) (n - 1) others_long
