-- Tests, sums and maxima over the numbers below n, and lists. Nothing here is about tours.
-- Assumes nothing.
use Rattle.std.specs.Prelude.{ℕ, zero, suc, ◌+◌, max, Bool, true, false, ◌&&◌, ◌||◌, cond, List, [], ◌∷◌, ◌++◌, eqb}

-- ---- over the numbers 0, 1, .., n - 1

-- each of them passes the test
abbrev pub all : ℕ → (ℕ → Bool) → Bool
all zero test = true
all (suc n) test = all n test && test n

-- the sum of f
abbrev pub sum_to : ℕ → (ℕ → ℕ) → ℕ
sum_to zero f = 0
sum_to (suc n) f = sum_to n f + f n

-- the largest f, 0 where there is none
abbrev pub max_to : ℕ → (ℕ → ℕ) → ℕ
max_to zero f = 0
max_to (suc n) f = max (max_to n f) (f n)

-- the list i, i + 1, .., of n numbers
abbrev pub up_from : ℕ → ℕ → List ℕ
up_from i zero = []
up_from i (suc n) = i ∷ up_from (suc i) n

abbrev pub bit : Bool → ℕ
bit true = 1
bit false = 0

-- ---- over a list

abbrev pub is_in : ℕ → List ℕ → Bool
is_in x [] = false
is_in x (y ∷ ys) = eqb x y || is_in x ys

abbrev pub same : List ℕ → List ℕ → Bool
same [] [] = true
same [] (y ∷ ys) = false
same (x ∷ xs) [] = false
same (x ∷ xs) (y ∷ ys) = eqb x y && same xs ys

module _ {A B : Type 0} where
  -- the lists that f gives for the elements, one after another
  abbrev pub for_each : (A → List B) → List A → List B
  for_each f [] = []
  for_each f (x ∷ xs) = f x ++ for_each f xs

module _ {A : Type 0} where
  abbrev pub is_empty : List A → Bool
  is_empty [] = true
  is_empty (x ∷ xs) = false

  -- the elements that pass the test
  abbrev pub keep : (A → Bool) → List A → List A
  keep test [] = []
  keep test (x ∷ xs) = cond (test x) (x ∷ keep test xs) (keep test xs)

  -- does each of them pass it?
  abbrev pub every : (A → Bool) → List A → Bool
  every test [] = true
  every test (x ∷ xs) = test x && every test xs

  -- how many elements stand before the first that passes the test: all of them where none does
  abbrev pub first_where : (A → Bool) → List A → ℕ
  first_where test [] = 0
  first_where test (x ∷ xs) = cond (test x) 0 (suc (first_where test xs))

  -- how many elements pass the test
  abbrev pub count : (A → Bool) → List A → ℕ
  count test [] = 0
  count test (x ∷ xs) = bit (test x) + count test xs

  -- the list in the order `lt`, by insertion
  abbrev pub insert : (A → A → Bool) → A → List A → List A
  insert lt a [] = a ∷ []
  insert lt a (b ∷ bs) = elim (lt a b) [ true ↦ a ∷ (b ∷ bs) | false ↦ b ∷ insert lt a bs ]

  abbrev pub sorted : (A → A → Bool) → List A → List A
  sorted lt [] = []
  sorted lt (a ∷ rest) = insert lt a (sorted lt rest)
