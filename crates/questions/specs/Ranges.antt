-- Tests, sums and maxima over the numbers below n, as a loop that counts up meets them.
-- Assumes nothing.
use Rattle.std.specs.Prelude.{◌≡◌, refl, Bool, true, false, ◌&&◌, ◌⊎◌, ℕ, zero, suc, ◌+◌, ◌≤◌, ◌<◌, max, leb, ℤ, pos, negsuc, nat_abs}
use Rattle.std.proofs.Common.{sym, ap, ap₂, ◌∙◌, inl, inr, eq-or-lt_of_le, add-one, arith, leb-true, le-leb}
use Rattle.model.specs.Lists.{all, sum_to, max_to}
use Rattle.model.specs.Questions.{inside}

pub and-true : (a b : Bool) → (a && b) ≡ true → (a ≡ true) × (b ≡ true)
and-true true b e = (refl, e)
and-true false b e = let z : ◌≡◌ {A = ℕ} 0 1 = cc in absurd (omega arith)

pub and_right : (a : Bool) → (a && false) ≡ false
and_right true = refl
and_right false = refl

pub all_step : (n : ℕ) (f : ℕ → Bool) → all (n + 1) f ≡ (all n f && f n)
all_step n f = rw add-one

-- one number more that passes
pub all_more : (n : ℕ) (f : ℕ → Bool) → all n f ≡ true → f n ≡ true → all (n + 1) f ≡ true
all_more n f h k = rw (all_step n f, h, k)

pub sum_step : (n : ℕ) (f : ℕ → ℕ) → sum_to (n + 1) f ≡ sum_to n f + f n
sum_step n f = rw add-one

pub max_step : (n : ℕ) (f : ℕ → ℕ) → max_to (n + 1) f ≡ max (max_to n f) (f n)
max_step n f = rw add-one

-- i is n, or below it
split : (i n : ℕ) → i < suc n → (i ≡ n) ⊎ (i < n)
split i n h = eq-or-lt_of_le (omega arith)

-- what passes for each number below n passes for i
pub all-at : (n : ℕ) (f : ℕ → Bool) → all n f ≡ true → (i : ℕ) → i < n → f i ≡ true
all-at zero f e i h = absurd (omega arith)
all-at (suc n) f e i h = go (split i n h) (and-true (all n f) (f n) e) (all-at n f)
  where
    go : (i ≡ n) ⊎ (i < n) → (all n f ≡ true) × (f n ≡ true) → (all n f ≡ true → (i : ℕ) → i < n → f i ≡ true) → f i ≡ true
    go (inl q) p ih = ap f q ∙ p.1
    go (inr l) p ih = ih p.0 i l

-- what passes for each number below n passes for all of them
pub all_yes : (n : ℕ) (f : ℕ → Bool) → ((i : ℕ) → i < n → f i ≡ true) → all n f ≡ true
all_yes zero f h = refl
all_yes (suc n) f h = rw (all_yes n f (λ i l. h i (omega arith)), h n (omega arith))

-- one number that fails settles the test
pub all_fails : (n : ℕ) (f : ℕ → Bool) (i : ℕ) → i < n → f i ≡ false → all n f ≡ false
all_fails zero f i h e = absurd (omega arith)
all_fails (suc n) f i h e = go (split i n h) (all_fails n f i)
  where
    go : (i ≡ n) ⊎ (i < n) → (i < n → f i ≡ false → all n f ≡ false) → (all n f && f n) ≡ false
    go (inl q) ih = rw (sym (ap f q) ∙ e) (and_right (all n f))
    go (inr l) ih = rw (ih l e)

-- tests that agree below n give one answer
pub all_same : (n : ℕ) (f g : ℕ → Bool) → ((i : ℕ) → i < n → f i ≡ g i) → all n f ≡ all n g
all_same zero f g h = refl
all_same (suc n) f g h = ap₂ ◌&&◌ (all_same n f g (λ i l. h i (omega arith))) (h n (omega arith))

-- two tests at once
pub all_both : (n : ℕ) (f g : ℕ → Bool) → all n (λ (i : ℕ). f i && g i) ≡ (all n f && all n g)
all_both zero f g = refl
all_both (suc n) f g = ap (λ (b : Bool). b && (f n && g n)) (all_both n f g) ∙ mixed (all n f) (all n g) (f n) (g n)
  where
    mixed : (a b c d : Bool) → (a && b && (c && d)) ≡ (a && c && (b && d))
    mixed true true c d = refl
    mixed true false true d = refl
    mixed true false false d = refl
    mixed false b c d = refl

-- a sum grows with n
pub sum_mono : (m n : ℕ) (f : ℕ → ℕ) → m ≤ n → sum_to m f ≤ sum_to n f
sum_mono m zero f h = let e : m ≡ 0 = omega arith in rw e (omega arith)
sum_mono m (suc n) f h = go (eq-or-lt_of_le h) (sum_mono m n f)
  where
    go : (m ≡ suc n) ⊎ (m < suc n) → (m ≤ n → sum_to m f ≤ sum_to n f) → sum_to m f ≤ sum_to n f + f n
    go (inl e) ih = rw e (omega arith)
    go (inr l) ih = omega (arith, ih (omega arith))

pub sum_same : (n : ℕ) (f g : ℕ → ℕ) → ((i : ℕ) → i < n → f i ≡ g i) → sum_to n f ≡ sum_to n g
sum_same zero f g h = refl
sum_same (suc n) f g h = ap₂ ◌+◌ (sum_same n f g (λ i l. h i (omega arith))) (h n (omega arith))

-- no term is above the maximum
pub max_least : (n : ℕ) (f : ℕ → ℕ) (i : ℕ) → i < n → f i ≤ max_to n f
max_least zero f i h = absurd (omega arith)
max_least (suc n) f i h = go (split i n h) (max_least n f i)
  where
    go : (i ≡ n) ⊎ (i < n) → (i < n → f i ≤ max_to n f) → f i ≤ max (max_to n f) (f n)
    go (inl q) ih = rw q (omega arith)
    go (inr l) ih = omega (arith, ih l)

-- a word from lo to hi, where lo is 0 or more, is its own size
pub inside_range : (lo hi : ℕ) (z : ℤ) → inside (pos lo) (pos hi) z ≡ true → (lo ≤ nat_abs z) × (nat_abs z ≤ hi)
inside_range lo hi (pos n) e = let p = and-true (leb lo n) (leb n hi) e in (leb-true lo n p.0, leb-true n hi p.1)
inside_range lo hi (negsuc n) e = let z : ◌≡◌ {A = ℕ} 0 1 = cc in absurd (omega arith)

-- a word that is at most one limit is at most any that is higher
pub inside_wider : (lo hi to : ℕ) (z : ℤ) → nat_abs z ≤ hi → hi ≤ to → inside (pos lo) (pos hi) z ≡ inside (pos lo) (pos to) z
inside_wider lo hi to (pos n) h w = rw (le-leb n hi h, le-leb n to (omega arith))
inside_wider lo hi to (negsuc n) h w = refl
