-- Rows of numbers, lists joined, and the lists that f gives for the elements of a list, one after another.
-- Assumes nothing.
use Rattle.std.specs.Prelude.{◌≡◌, refl, List, [], ◌∷◌, ◌++◌, map, ℕ, zero, suc, ◌+◌, ◌*◌, ◌<◌, length, get_or, take, drop, replicate}
use Rattle.std.proofs.Common.{sym, ap, ap₂, ◌∙◌, append-nil, append_assoc, add-zero, arith, length-append, take-suc, get_or-append-add}
use Rattle.std.proofs.lemmas.List.{map-append, length-map}
use Rattle.std.proofs.Math.ListN.{get_or-append}
use Rattle.std.proofs.Math.Seq.{split_at}
use Rattle.model.specs.Lists.{up_from, for_each}

-- ---- the numbers i, i + 1, ..

pub up_from_long : (i n : ℕ) → length (up_from i n) ≡ n
up_from_long i zero = refl
up_from_long i (suc n) = ap suc (up_from_long (suc i) n)

pub up_from_at : (i n k : ℕ) → k < n → get_or (up_from i n) k 0 ≡ i + k
up_from_at i zero k h = absurd (omega arith)
up_from_at i (suc n) zero h = omega arith
up_from_at i (suc n) (suc k) h = omega (arith, up_from_at (suc i) n k (omega arith))

pub up_from_split : (i a b : ℕ) → up_from i (a + b) ≡ up_from i a ++ up_from (i + a) b
up_from_split i zero b = let e : i + 0 ≡ i = omega arith in let f : 0 + b ≡ b = omega arith in rw (e, f)
up_from_split i (suc a) b =
    let e : i + suc a ≡ suc i + a = omega arith in
    let f : suc a + b ≡ suc (a + b) = omega arith in
    rw (e, f) (ap (λ (xs : List ℕ). i ∷ xs) (up_from_split (suc i) a b))

-- mapped: how many, and each of them
module _ {B : Type 0} (h : ℕ → B) where
  pub mapped_long : (i n : ℕ) → length (map h (up_from i n)) ≡ n
  mapped_long i n = length-map (up_from i n) h ∙ up_from_long i n

  pub mapped_at : (d : B) (i n a : ℕ) → a < n → get_or (map h (up_from i n)) a d ≡ h (i + a)
  mapped_at d i zero a l = absurd (omega arith)
  mapped_at d i (suc n) zero l = ap h (sym (add-zero i))
  mapped_at d i (suc n) (suc a) l = let e : suc i + a ≡ i + suc a = omega arith in mapped_at d (suc i) n a (omega arith) ∙ ap h e

-- each raised by d
pub mapped_raised : {A : Type 0} (f : ℕ → A) (d i n : ℕ) → map (λ (s : ℕ). f (d + s)) (up_from i n) ≡ map f (up_from (d + i) n)
mapped_raised f d i zero = refl
mapped_raised f d i (suc n) =
    let e : d + suc i ≡ suc (d + i) = omega arith in
    ap (λ (zs : List _). f (d + i) ∷ zs) (mapped_raised f d (suc i) n ∙ ap (λ (k : ℕ). map f (up_from k n)) e)

-- ---- lists joined

module _ {A : Type 0} where
  -- past the first of two lists, which has k elements
  pub join_at : (xs ys : List A) (d : A) (k i : ℕ) → length xs ≡ k → get_or (xs ++ ys) (k + i) d ≡ get_or ys i d
  join_at xs ys d k i e = ap (λ (n : ℕ). get_or (xs ++ ys) (n + i) d) (sym e) ∙ get_or-append-add xs ys i d

  -- five lists, the third with those before it and those after it
  pub regroup : (u v x y z : List A) → u ++ (v ++ (x ++ y) ++ z) ≡ u ++ v ++ (x ++ (y ++ z))
  regroup u v x y z = simp append_assoc

module _ {A B : Type 0} where
  -- the numbers from k on, mapped as the elements are
  pub map_from : (g : ℕ → B) (f : A → B) (d : A) (k : ℕ) (xs : List A) → ((i : ℕ) → i < length xs → g (k + i) ≡ f (get_or xs i d))
      → map g (up_from k (length xs)) ≡ map f xs
  map_from g f d k [] h = refl
  map_from g f d k (x ∷ xs) h =
      ap₂ ◌∷◌ (ap g (sym (add-zero k)) ∙ h 0 (omega arith))
      (map_from g f d (suc k) xs
      (λ i l. let e : suc k + i ≡ k + suc i = omega arith in ap g e ∙ h (suc i) (omega arith)))

  module _ (f : A → List B) where
    pub for_each_++ : (xs ys : List A) → for_each f (xs ++ ys) ≡ for_each f xs ++ for_each f ys
    for_each_++ [] ys = refl
    for_each_++ (x ∷ xs) ys =
        ap (λ (l : List B). f x ++ l) (for_each_++ xs ys) ∙ sym (append_assoc (f x) (for_each f xs) (for_each f ys))

    -- up to element i and with it
    pub for_each-suc : (xs : List A) (i : ℕ) (d : A) → i < length xs → for_each f (take (suc i) xs) ≡ for_each f (take i xs) ++ f (get_or xs i d)
    for_each-suc xs i d l =
        ap (for_each f) (take-suc xs i d l) ∙ for_each_++ (take i xs) (get_or xs i d ∷ [])
        ∙ ap (λ (r : List B). for_each f (take i xs) ++ r) (append-nil (f (get_or xs i d)))

    -- before element i, of it and after it
    pub for_each_split : (xs : List A) (i : ℕ) (d : A) → i < length xs
        → for_each f xs ≡ for_each f (take i xs) ++ (f (get_or xs i d) ++ for_each f (drop (suc i) xs))
    for_each_split xs i d l = ap (for_each f) (split_at xs i d l) ∙ for_each_++ (take i xs) (get_or xs i d ∷ drop (suc i) xs)

    -- element j of what f gives for element i
    pub for_each_at : (xs : List A) (i : ℕ) (d : A) (j : ℕ) (e : B) → i < length xs → j < length (f (get_or xs i d))
        → get_or (for_each f xs) (length (for_each f (take i xs)) + j) e ≡ get_or (f (get_or xs i d)) j e
    for_each_at xs i d j e l k =
        ap (λ (r : List B). get_or r (length (for_each f (take i xs)) + j) e) (for_each_split xs i d l)
        ∙ get_or-append-add (for_each f (take i xs)) (f (get_or xs i d) ++ for_each f (drop (suc i) xs)) j e
        ∙ get_or-append (f (get_or xs i d)) (for_each f (drop (suc i) xs)) e j k

-- ---- of lists that f gives

module _ {A B C : Type 0} where
  pub each_each : (f : B → List C) (g : A → List B) (xs : List A) → for_each f (for_each g xs) ≡ for_each (λ (x : A). for_each f (g x)) xs
  each_each f g [] = refl
  each_each f g (x ∷ xs) = for_each_++ f (g x) (for_each g xs) ∙ ap (λ (zs : List C). for_each f (g x) ++ zs) (each_each f g xs)

  pub each_map : (f : B → List C) (g : A → B) (xs : List A) → for_each f (map g xs) ≡ for_each (λ (x : A). f (g x)) xs
  each_map f g [] = refl
  each_map f g (x ∷ xs) = ap (λ (zs : List C). f (g x) ++ zs) (each_map f g xs)

  pub map_each : (g : B → C) (f : A → List B) (xs : List A) → map g (for_each f xs) ≡ for_each (λ (x : A). map g (f x)) xs
  map_each g f [] = refl
  map_each g f (x ∷ xs) = map-append g (f x) (for_each f xs) ∙ ap (λ (zs : List C). map g (f x) ++ zs) (map_each g f xs)

  pub map-map : (g : B → C) (f : A → B) (xs : List A) → map g (map f xs) ≡ map (λ (x : A). g (f x)) xs
  map-map g f [] = refl
  map-map g f (x ∷ xs) = ap (λ (zs : List C). g (f x) ∷ zs) (map-map g f xs)

module _ {A B : Type 0} where
  pub each_same : (f g : A → List B) (xs : List A) → ((x : A) → f x ≡ g x) → for_each f xs ≡ for_each g xs
  each_same f g [] h = refl
  each_same f g (x ∷ xs) h = ap₂ ◌++◌ (h x) (each_same f g xs h)

  -- one list, m times
  pub each_copies : (f : A → List B) (m : ℕ) (x : A) → for_each f (replicate m x) ≡ for_each (λ (ys : List B). ys) (replicate m (f x))
  each_copies f zero x = refl
  each_copies f (suc m) x = ap (λ (zs : List B). f x ++ zs) (each_copies f m x)

  pub map_copies : (g : A → B) (m : ℕ) (x : A) → map g (replicate m x) ≡ replicate m (g x)
  map_copies g zero x = refl
  map_copies g (suc m) x = ap (λ (zs : List B). g x ∷ zs) (map_copies g m x)

pub copies_last : {A : Type 0} (m : ℕ) (x : A) → replicate m x ++ (x ∷ []) ≡ replicate (suc m) x
copies_last zero x = refl
copies_last (suc m) x = ap (λ (zs : List _). x ∷ zs) (copies_last m x)

pub copies_long : {A : Type 0} (m : ℕ) (xs : List A) → length (for_each (λ (ys : List A). ys) (replicate m xs)) ≡ m * length xs
copies_long zero xs = omega arith
copies_long (suc m) xs = rw (length-append, copies_long m xs) (omega arith)
