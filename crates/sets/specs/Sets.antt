-- A set of numbers as the bits of a number, the list that it stands for, and what it leaves of a list. A byte has room for the actions of a state, and 64
-- bits for the states of a model.
-- Assumes nothing.
use Rattle.std.specs.Prelude.{◌≡◌, refl, Bool, true, false, not, cond, ◌||◌, ◌&&◌, List, [], ◌∷◌, ◌++◌, ℕ, zero, suc, ◌*◌, ◌/◌, ◌%◌, ◌^◌, ◌<◌, eqb}
use Rattle.std.proofs.Common.{sym, ap, ap₂, ◌∙◌, inl, inr, div-one, mod-eq_of_lt, pow-suc, arith}
use Rattle.std.proofs.Math.Nat.{zero-div, div-eq_of_lt, mul-div-mul_right, mul-mod_left, one-le-pow, pow-le-pow_right}
use Rattle.std.specs.Int.Bits.{bit_or}
use Rattle.std.proofs.lemmas.Nat.{or_shr, or_mod}
use Rattle.std.proofs.Math.Dec.{eqb-zero-suc, eqb-suc-zero, eqb-suc-suc}
use Rattle.model.specs.Lists.{is_in, keep}
use Rattle.laws.specs.Members.{In}
use Rattle.laws.specs.Kept.{keep-keep, keep_same}

-- is q in the set?
abbrev pub has : ℕ → ℕ → Bool
has m q = eqb (m / 2 ^ q % 2) 1

-- the set with q
unfoldable pub with : ℕ → ℕ → ℕ
with m q = bit_or m (2 ^ q)

-- the numbers of either set
abbrev pub union : ℕ → ℕ → ℕ
union m n = bit_or m n

-- of a list, the numbers that are not in the set
abbrev pub free : ℕ → List ℕ → List ℕ
free m [] = []
free m (x ∷ xs) = cond (has m x) (free m xs) (x ∷ free m xs)

-- the set stands for the list
pub record SetOf (m : ℕ) (qs : List ℕ) : Type 0 where
  pub at : (q : ℕ) → has m q ≡ is_in q qs

-- ---- bits

-- 1 shifted by q places, in a word of w bits
pub one_shifted : (w q : ℕ) → q < w → 1 * 2 ^ q % 2 ^ w ≡ 2 ^ q
one_shifted w q h =
    let e : 1 * 2 ^ q ≡ 2 ^ q = omega arith in
    let small : 2 ^ q < 2 ^ w = omega (arith, pow-suc 2 q, one-le-pow q 2 (omega arith), pow-le-pow_right {n = 2} (omega arith) {i = suc q} {j = w} (omega arith)) in
    rw e (mod-eq_of_lt small)

or_bits : (x y : ℕ) → x < 2 → y < 2 → eqb (bit_or x y) 1 ≡ (eqb x 1 || eqb y 1)
or_bits zero zero h k = refl
or_bits zero (suc zero) h k = refl
or_bits zero (suc (suc y)) h k = absurd (omega arith)
or_bits (suc zero) zero h k = refl
or_bits (suc zero) (suc zero) h k = refl
or_bits (suc zero) (suc (suc y)) h k = absurd (omega arith)
or_bits (suc (suc x)) y h k = absurd (omega arith)

pub has-union : (m n q : ℕ) → has (union m n) q ≡ (has m q || has n q)
has-union m n q =
    ap (λ (x : ℕ). eqb (x % 2) 1) (or_shr m n q) ∙ ap (λ (x : ℕ). eqb x 1) (or_mod (m / 2 ^ q) (n / 2 ^ q) 1)
    ∙ or_bits (m / 2 ^ q % 2) (n / 2 ^ q % 2) (omega arith) (omega arith)

pub has-none : (q : ℕ) → has 0 q ≡ false
has-none q = rw (zero-div (2 ^ q))

-- one bit
has_one : (q k : ℕ) → has (2 ^ q) k ≡ eqb k q
has_one zero zero = refl
has_one zero (suc k) =
    let big : 1 < 2 ^ suc k = omega (arith, pow-suc 2 k, one-le-pow k 2 (omega arith)) in
    rw (div-eq_of_lt big) (sym (eqb-suc-zero k))
has_one (suc q) zero = rw (div-one (2 ^ suc q), pow-suc 2 q, mul-mod_left (2 ^ q) 2) (sym (eqb-zero-suc q))
has_one (suc q) (suc k) =
    rw (pow-suc 2 q, pow-suc 2 k, mul-div-mul_right {m = 2} (2 ^ q) (2 ^ k) (omega arith)) (has_one q k ∙ sym (eqb-suc-suc k q))

or_swap : (a b : Bool) → (a || b) ≡ (b || a)
or_swap true true = refl
or_swap true false = refl
or_swap false true = refl
or_swap false false = refl

-- k is in the set with q if it is q or in the set
pub has-with : (m q k : ℕ) → has (with m q) k ≡ (eqb k q || has m k)
unfolding with
has-with m q k = has-union m (2 ^ q) k ∙ ap (λ (b : Bool). has m k || b) (has_one q k) ∙ or_swap (has m k) (eqb k q)

-- ---- what a set leaves

-- the empty set leaves every number
pub free_all : (xs : List ℕ) → free 0 xs ≡ xs
free_all [] = refl
free_all (x ∷ xs) = rw (has-none x, free_all xs)

-- it is what passes the test
pub free-keep : (m : ℕ) (xs : List ℕ) → free m xs ≡ keep (λ (x : ℕ). not (has m x)) xs
free-keep m [] = refl
free-keep m (x ∷ xs) = go (has m x) (free-keep m xs)
  where
    go : (b : Bool) → free m xs ≡ keep (λ (x : ℕ). not (has m x)) xs
        → cond b (free m xs) (x ∷ free m xs)
        ≡ cond (not b) (x ∷ keep (λ (x : ℕ). not (has m x)) xs) (keep (λ (x : ℕ). not (has m x)) xs)
    go true ih = ih
    go false ih = ap (λ (ys : List ℕ). x ∷ ys) ih

-- what is in either of two sets is left by neither
free_both : (m n k : ℕ) → ((x : ℕ) → has k x ≡ (has m x || has n x)) → (xs : List ℕ) → free k xs ≡ free m (free n xs)
free_both m n k h xs =
    free-keep k xs
    ∙ keep_same (λ (x : ℕ). not (has k x)) (λ (x : ℕ). not (has n x) && not (has m x)) xs (λ x i. ap not (h x) ∙ neither (has m x) (has n x))
    ∙ sym (keep-keep (λ (x : ℕ). not (has n x)) (λ (x : ℕ). not (has m x)) xs)
    ∙ ap (keep (λ (x : ℕ). not (has m x))) (sym (free-keep n xs)) ∙ sym (free-keep m (free n xs))
  where
    neither : (a b : Bool) → not (a || b) ≡ (not b && not a)
    neither true true = refl
    neither true false = refl
    neither false true = refl
    neither false false = refl

pub free-union : (m n : ℕ) (xs : List ℕ) → free (union m n) xs ≡ free m (free n xs)
free-union m n xs = free_both m n (union m n) (has-union m n) xs

pub free-with : (m c : ℕ) (xs : List ℕ) → free (with m c) xs ≡ free (with 0 c) (free m xs)
free-with m c xs =
    free_both (with 0 c) m (with m c)
    (λ x. has-with m c x ∙ ap (λ (b : Bool). b || has m x) (sym (has-with 0 c x ∙ ap (λ (b : Bool). eqb x c || b) (has-none x) ∙ or_swap (eqb x c) false)))
    xs

-- what is left is of the list
pub free_in : (m c : ℕ) (xs : List ℕ) → In c (free m xs) → In c xs
free_in m c [] i = i
free_in m c (x ∷ xs) i = go (has m x) i (free_in m c xs)
  where
    go : (b : Bool) → In c (cond b (free m xs) (x ∷ free m xs)) → (In c (free m xs) → In c xs) → In c (x ∷ xs)
    go true j ih = inr (ih j)
    go false (inl e) ih = inl e
    go false (inr j) ih = inr (ih j)

-- ---- sets that stand for lists

pub set-none : SetOf 0 []
set-none = record { at = has-none }

pub set-with : (m q : ℕ) (qs : List ℕ) → SetOf m qs → SetOf (with m q) (q ∷ qs)
set-with m q qs s = record { at = λ k. has-with m q k ∙ ap (λ (b : Bool). eqb k q || b) (s.at k) }

-- state 0 alone
pub first-set : SetOf 1 (0 ∷ [])
unfolding with
first-set = set-with 0 0 [] set-none

in_++ : (k : ℕ) (xs ys : List ℕ) → is_in k (xs ++ ys) ≡ (is_in k xs || is_in k ys)
in_++ k [] ys = refl
in_++ k (x ∷ xs) ys = ap (λ (b : Bool). eqb k x || b) (in_++ k xs ys) ∙ or_assoc (eqb k x) (is_in k xs) (is_in k ys)
  where
    or_assoc : (a b c : Bool) → (a || (b || c)) ≡ ((a || b) || c)
    or_assoc true b c = refl
    or_assoc false b c = refl

pub set-union : (m n : ℕ) (xs ys : List ℕ) → SetOf m xs → SetOf n ys → SetOf (union m n) (xs ++ ys)
set-union m n xs ys s t = record { at = λ k. has-union m n k ∙ ap₂ ◌||◌ (s.at k) (t.at k) ∙ sym (in_++ k xs ys) }
