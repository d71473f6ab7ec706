-- The elements of a list: what is one of them, what holds for every one, lists with no element twice, and lists of numbers that rise.
-- Assumes nothing.
use Rattle.std.specs.Prelude.{◌≡◌, refl, Bool, true, false, not, ◌||◌, ◌&&◌, ◌⊎◌, List, [], ◌∷◌, ◌++◌, map, ℕ, zero, suc, ◌+◌, ◌≤◌, ◌<◌, T, eqb, take, drop}
use Rattle.std.proofs.Common.{sym, ap₂, subst, inl, inr, eq-or-lt_of_le, arith, eqb→eq}
use Rattle.std.proofs.Math.Dec.{eqb_refl}
use Rattle.model.specs.Lists.{up_from, is_in, for_each}
use Rattle.model.specs.Model.{Transition}
use Rattle.model.specs.Policy.{nexts}

-- ---- tests

pub T_true : (b : Bool) → T b → b ≡ true
T_true true t = refl
T_true false t = absurd t

pub true-T : {b : Bool} → b ≡ true → T b
true-T e = subst T (sym e) tt

pub false-T : {b : Bool} → b ≡ false → T (not b)
false-T e = subst (λ (b : Bool). T (not b)) (sym e) tt

pub and_T : (a b : Bool) → T (a && b) → T a × T b
and_T true b t = (tt, t)
and_T false b t = absurd t

-- tests that follow from each other
pub same_test : (a b : Bool) → (T a → T b) → (T b → T a) → a ≡ b
same_test true true h k = refl
same_test true false h k = absurd (h tt)
same_test false true h k = absurd (k tt)
same_test false false h k = refl

pub T_and : (a b : Bool) → T a → T b → T (a && b)
T_and true b h k = k
T_and false b h k = h

or_T : (a b : Bool) → T (a || b) → T a ⊎ T b
or_T true b t = inl tt
or_T false b t = inr t

T-or : (a b : Bool) → T a ⊎ T b → T (a || b)
T-or true b t = tt
T-or false b (inl t) = absurd t
T-or false b (inr t) = t

-- ---- elements

module _ {A : Type 0} where
  -- x is an element
  abbrev pub In : A → List A → Type 0
  In x [] = ⊥
  In x (y ∷ ys) = (x ≡ y) ⊎ In x ys

  -- P holds for every element
  abbrev pub Every : (A → Type 0) → List A → Type 0
  Every P [] = Unit {0}
  Every P (x ∷ xs) = P x × Every P xs

  -- what holds for every element holds for each, and the other way round
  pub every_in : (P : A → Type 0) (xs : List A) → Every P xs → (x : A) → In x xs → P x
  every_in P [] h x i = absurd i
  every_in P (y ∷ ys) h x (inl e) = subst P (sym e) h.0
  every_in P (y ∷ ys) h x (inr i) = every_in P ys h.1 x i

  pub in_every : (P : A → Type 0) (xs : List A) → ((x : A) → In x xs → P x) → Every P xs
  in_every P [] h = tt
  in_every P (x ∷ xs) h = (h x (inl refl), in_every P xs (λ y i. h y (inr i)))

  -- what follows from one property, or from two, of each element
  pub every_imp : {P Q : A → Type 0} → ((x : A) → P x → Q x) → (xs : List A) → Every P xs → Every Q xs
  every_imp f [] h = tt
  every_imp f (x ∷ xs) h = (f x h.0, every_imp f xs h.1)

  pub every_both : {P Q R : A → Type 0} → ((x : A) → P x → Q x → R x) → (xs : List A) → Every P xs → Every Q xs → Every R xs
  every_both f [] h k = tt
  every_both f (x ∷ xs) h k = (f x h.0 k.0, every_both f xs h.1 k.1)

  -- what holds for every element holds for the first i, and for the others
  pub every_take : (P : A → Type 0) (i : ℕ) (xs : List A) → Every P xs → Every P (take i xs)
  every_take P zero xs h = tt
  every_take P (suc i) [] h = tt
  every_take P (suc i) (x ∷ xs) h = (h.0, every_take P i xs h.1)

  pub every_drop : (P : A → Type 0) (i : ℕ) (xs : List A) → Every P xs → Every P (drop i xs)
  every_drop P zero xs h = h
  every_drop P (suc i) [] h = tt
  every_drop P (suc i) (x ∷ xs) h = every_drop P i xs h.1

  pub in_one : {x y : A} → In x (y ∷ []) → x ≡ y
  in_one (inl e) = e
  in_one (inr i) = absurd i

  -- an element of two lists joined is one of either
  pub in_++ : (x : A) (xs ys : List A) → In x (xs ++ ys) → In x xs ⊎ In x ys
  in_++ x [] ys i = inr i
  in_++ x (z ∷ zs) ys (inl e) = inl (inl e)
  in_++ x (z ∷ zs) ys (inr i) = go (in_++ x zs ys i)
    where
      go : In x zs ⊎ In x ys → In x (z ∷ zs) ⊎ In x ys
      go (inl j) = inl (inr j)
      go (inr j) = inr j

  pub ++-in : (x : A) (xs ys : List A) → In x xs ⊎ In x ys → In x (xs ++ ys)
  ++-in x [] ys (inl i) = absurd i
  ++-in x [] ys (inr i) = i
  ++-in x (z ∷ zs) ys (inl (inl e)) = inl e
  ++-in x (z ∷ zs) ys (inl (inr i)) = inr (++-in x zs ys (inl i))
  ++-in x (z ∷ zs) ys (inr i) = inr (++-in x zs ys (inr i))

module _ {A B : Type 0} where
  -- an element of the lists that f gives is one of the list that f gives for some x
  pub in_for_each : (f : A → List B) (y : B) (xs : List A) → In y (for_each f xs) → (x : A) × In x xs × In y (f x)
  in_for_each f y [] i = absurd i
  in_for_each f y (x ∷ xs) i = go (in_++ y (f x) (for_each f xs) i) (in_for_each f y xs)
    where
      go : In y (f x) ⊎ In y (for_each f xs) → (In y (for_each f xs) → (z : A) × In z xs × In y (f z)) → (z : A) × In z (x ∷ xs) × In y (f z)
      go (inl j) ih = (x, inl refl, j)
      go (inr j) ih = let r = ih j in (r.0, inr r.1, r.2)

  pub for_each_in : (f : A → List B) (y : B) (xs : List A) (x : A) → In x xs → In y (f x) → In y (for_each f xs)
  for_each_in f y [] x i j = absurd i
  for_each_in f y (z ∷ zs) x (inl e) j = ++-in y (f z) (for_each f zs) (inl (subst (λ w. In y (f w)) e j))
  for_each_in f y (z ∷ zs) x (inr i) j = ++-in y (f z) (for_each f zs) (inr (for_each_in f y zs x i j))

  -- an element of the list that f maps to is f of an element
  pub in_map : (f : A → B) (y : B) (xs : List A) → In y (map f xs) → (x : A) × (y ≡ f x) × In x xs
  in_map f y [] i = absurd i
  in_map f y (x ∷ xs) (inl e) = (x, e, inl refl)
  in_map f y (x ∷ xs) (inr i) = let r = in_map f y xs i in (r.0, r.1, inr r.2)

  -- functions that agree on a list's elements map it alike
  pub map_same : (f g : A → B) (xs : List A) → ((x : A) → In x xs → f x ≡ g x) → map f xs ≡ map g xs
  map_same f g [] h = refl
  map_same f g (x ∷ xs) h = ap₂ ◌∷◌ (h x (inl refl)) (map_same f g xs (λ y i. h y (inr i)))

  pub map_in : (f : A → B) (x : A) (xs : List A) → In x xs → In (f x) (map f xs)
  map_in f x [] i = i
  map_in f x (y ∷ ys) (inl e) = inl (rw e)
  map_in f x (y ∷ ys) (inr i) = inr (map_in f x ys i)

-- the test `is_in` decides `In`
pub is_in_in : (x : ℕ) (ys : List ℕ) → T (is_in x ys) → In x ys
is_in_in x [] t = t
is_in_in x (y ∷ ys) t = go (or_T (eqb x y) (is_in x ys) t) (is_in_in x ys)
  where
    go : T (eqb x y) ⊎ T (is_in x ys) → (T (is_in x ys) → In x ys) → (x ≡ y) ⊎ In x ys
    go (inl e) ih = inl (eqb→eq x y e)
    go (inr i) ih = inr (ih i)

pub in_is_in : (x : ℕ) (ys : List ℕ) → In x ys → T (is_in x ys)
in_is_in x [] i = i
in_is_in x (y ∷ ys) (inl e) = T-or (eqb x y) (is_in x ys) (inl (rw e (eqb_refl y)))
in_is_in x (y ∷ ys) (inr i) = T-or (eqb x y) (is_in x ys) (inr (in_is_in x ys i))

-- ---- no element twice

module _ {A : Type 0} where
  abbrev pub Apart : List A → Type 0
  Apart [] = Unit {0}
  Apart (x ∷ xs) = (In x xs → ⊥) × Apart xs

-- ---- numbers that rise

-- x is below each of ys
abbrev pub Below : ℕ → List ℕ → Type 0
Below x ys = Every (λ (y : ℕ). x < y) ys

-- each number is below all that follow it
abbrev pub Rising : List ℕ → Type 0
Rising [] = Unit {0}
Rising (x ∷ xs) = Below x xs × Rising xs

pub below_in : {x y : ℕ} (ys : List ℕ) → Below x ys → In y ys → x < y
below_in {x} {y} ys b i = every_in (λ (z : ℕ). x < z) ys b y i

-- the numbers i, i + 1, .., i + n - 1
pub up_from_in : (i n : ℕ) {c : ℕ} → In c (up_from i n) → (i ≤ c) × (c < i + n)
up_from_in i zero h = absurd h
up_from_in i (suc n) (inl e) = omega arith
up_from_in i (suc n) (inr h) = let ih = up_from_in (suc i) n h in omega arith

pub in_up_from : (i n c : ℕ) → i ≤ c → c < i + n → In c (up_from i n)
in_up_from i zero c h k = absurd (omega arith)
in_up_from i (suc n) c h k = go (eq-or-lt_of_le h) (λ l. in_up_from (suc i) n c l (omega arith))
  where
    go : (i ≡ c) ⊎ (i < c) → (i < c → In c (up_from (suc i) n)) → In c (up_from i (suc n))
    go (inl e) ih = inl (sym e)
    go (inr l) ih = inr (ih l)

pub up_from_rising : (i n : ℕ) → Rising (up_from i n)
up_from_rising i zero = tt
up_from_rising i (suc n) =
    (in_every (λ (c : ℕ). i < c) (up_from (suc i) n) (λ c h. (up_from_in (suc i) n h).0), up_from_rising (suc i) n)

-- ---- transitions

-- P holds for the next state of every transition
abbrev pub AtNexts : (ℕ → Type 0) → List Transition → Type 0
AtNexts P ts = Every (λ (t : Transition). P t.next) ts

-- the same by the list of next states
pub at_nexts : (P : ℕ → Type 0) (ts : List Transition) → AtNexts P ts → (q : ℕ) → In q (nexts ts) → P q
at_nexts P ts h q i =
    let t = in_map (λ (t : Transition). t.next) q ts i in
    subst P (sym t.1) (every_in (λ (t : Transition). P t.next) ts h t.0 t.2)

pub nexts_at : (P : ℕ → Type 0) (ts : List Transition) → ((q : ℕ) → In q (nexts ts) → P q) → AtNexts P ts
nexts_at P ts h = in_every (λ (t : Transition). P t.next) ts (λ t i. h t.next (map_in (λ (t : Transition). t.next) t ts i))
