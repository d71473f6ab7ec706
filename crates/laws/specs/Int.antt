-- ℤ by differences of naturals: each integer z is up z − dn z, so every law of the sum, the product and the order becomes one of ℕ, which `omega`
-- proves. A linear fact about integers is `omega (ints, le_in, sum_is x y, scale_is n x)`: `ints` reads the orders among the hypotheses, `le_in`,
-- `lt_in` or `eq_in` the goal, and `sum_is x y`, `scale_is n x` each sum and each product that is met. An equation with products of unknowns is
-- `rw (is x, is y) (simp ring (dif_eq _ _ _ _ (omega arith)))`.
-- Assumes nothing.
use Rattle.std.specs.Prelude.{◌≡◌, refl, Bool, true, false, not, cond, ℕ, zero, suc, ◌+◌, ◌*◌, ◌-◌, ◌≤◌, ◌<◌, T, ltb, ℤ, pos, negsuc, nat_abs, neg_ℤ, ◌+ℤ◌, ◌-ℤ◌, ◌*ℤ◌, ◌≤ℤ◌, ◌<ℤ◌}
use Rattle.std.proofs.Common.{sym, ap, ap₂, ◌∙◌, subst, zero-add, le_refl, mul-le-mul_left, arith, ltb→lt, lt→ltb, le→leb, leb→le}
use Rattle.std.proofs.Math.Nat.{le_of_mul-le-mul_left}
use Rattle.std.proofs.Math.Decide.{dec_lt}
use Rattle.std.proofs.Math.Arith.{le→nltb}
use Rattle.std.proofs.Math.Dec.{nleb→lt}
use Rattle.std.proofs.Math.IntN.{sub_ℕ}
use Rattle.std.specs.Int.Signed.{le_z, lt_z}

-- ---- differences

-- a − b
pub dif : ℕ → ℕ → ℤ
dif a b = sub_ℕ a b

-- b is at most a, or above it
data Side : ℕ → ℕ → Type 0 where
  above : (b n : ℕ) → Side (b + n) b
  below : (a n : ℕ) → Side a (a + suc n)

side : (a b : ℕ) → Side a b
side a b = go (dec_lt a b)
  where
    go : Dec (a < b) → Side a b
    go (yes h) = let e : a + suc (b - suc a) ≡ b = omega arith in subst (Side a) e (below a (b - suc a))
    go (no h) = let e : b + (a - b) ≡ a = omega arith in subst (λ (m : ℕ). Side m b) e (above b (a - b))

cond_yes : (c : Bool) (x y : ℤ) → T c → cond c x y ≡ x
cond_yes true x y t = refl
cond_yes false x y t = absurd t

cond_no : (c : Bool) (x y : ℤ) → T (not c) → cond c x y ≡ y
cond_no true x y t = absurd t
cond_no false x y t = refl

dif_above : (b n : ℕ) → dif (b + n) b ≡ pos n
unfolding dif
dif_above b n =
    cond_no (ltb (b + n) b) (negsuc (b - suc (b + n))) (pos (b + n - b)) (le→nltb (b + n) b (omega arith)) ∙ ap pos (omega arith)

dif_below : (a n : ℕ) → dif a (a + suc n) ≡ negsuc n
unfolding dif
dif_below a n =
    cond_yes (ltb a (a + suc n)) (negsuc (a + suc n - suc a)) (pos (a - (a + suc n))) (lt→ltb a (a + suc n) (omega arith))
    ∙ ap negsuc (omega arith)

-- a difference is known by how far apart the two are
pub dif_eq : (a b c d : ℕ) → a + d ≡ c + b → dif a b ≡ dif c d
dif_eq a b c d h = go (side a b) (side c d) h
  where
    go : {a b c d : ℕ} → Side a b → Side c d → a + d ≡ c + b → dif a b ≡ dif c d
    go (above b n) (above d m) h = dif_above b n ∙ ap pos (omega arith) ∙ sym (dif_above d m)
    go (above b n) (below c m) h = absurd (omega arith)
    go (below a n) (above d m) h = absurd (omega arith)
    go (below a n) (below c m) h = dif_below a n ∙ ap negsuc (omega arith) ∙ sym (dif_below c m)

-- each integer is a difference
abbrev pub up : ℤ → ℕ
up (pos n) = n
up (negsuc n) = 0

abbrev pub dn : ℤ → ℕ
dn (pos n) = 0
dn (negsuc n) = suc n

pub pos_is : (n : ℕ) → pos n ≡ dif n 0
pos_is n = sym (dif_above 0 n) ∙ ap (λ (k : ℕ). dif k 0) (zero-add n)

negsuc_is : (n : ℕ) → negsuc n ≡ dif 0 (suc n)
negsuc_is n = sym (dif_below 0 n) ∙ ap (λ (k : ℕ). dif 0 k) (zero-add (suc n))

pub is : (z : ℤ) → z ≡ dif (up z) (dn z)
is (pos n) = pos_is n
is (negsuc n) = negsuc_is n

neg_is : (n : ℕ) → neg_ℤ (pos n) ≡ dif 0 n
neg_is zero = pos_is 0
neg_is (suc n) = negsuc_is n

sub_is : (a b : ℕ) → sub_ℕ a b ≡ dif a b
unfolding dif
sub_is a b = refl

-- ---- sums and products of differences

pub dif_add : (a b c d : ℕ) → dif a b +ℤ dif c d ≡ dif (a + c) (b + d)
dif_add a b c d = go (side a b) (side c d)
  where
    go : {a b c d : ℕ} → Side a b → Side c d → dif a b +ℤ dif c d ≡ dif (a + c) (b + d)
    go (above b n) (above d m) = rw (dif_above b n, dif_above d m) (pos_is (n + m) ∙ dif_eq _ _ _ _ (omega arith))
    go (above b n) (below c m) = rw (dif_above b n, dif_below c m) (sub_is n (suc m) ∙ dif_eq _ _ _ _ (omega arith))
    go (below a n) (above d m) = rw (dif_below a n, dif_above d m) (sub_is m (suc n) ∙ dif_eq _ _ _ _ (omega arith))
    go (below a n) (below c m) = rw (dif_below a n, dif_below c m) (negsuc_is (suc (n + m)) ∙ dif_eq _ _ _ _ (omega arith))

pub dif_mul : (a b c d : ℕ) → dif a b *ℤ dif c d ≡ dif (a * c + b * d) (a * d + b * c)
dif_mul a b c d = go (side a b) (side c d)
  where
    go : {a b c d : ℕ} → Side a b → Side c d → dif a b *ℤ dif c d ≡ dif (a * c + b * d) (a * d + b * c)
    go (above b n) (above d m) = rw (dif_above b n, dif_above d m) (pos_is (n * m) ∙ dif_eq _ _ _ _ (omega arith))
    go (above b n) (below c m) = rw (dif_above b n, dif_below c m) (neg_is (n * suc m) ∙ dif_eq _ _ _ _ (omega arith))
    go (below a n) (above d m) = rw (dif_below a n, dif_above d m) (neg_is (suc n * m) ∙ dif_eq _ _ _ _ (omega arith))
    go (below a n) (below c m) = rw (dif_below a n, dif_below c m) (pos_is (suc n * suc m) ∙ dif_eq _ _ _ _ (omega arith))

-- rewrites a sum of products of differences to one difference
pub ruleset ring = (pos_is, dif_add, dif_mul)

-- ---- the order of differences

dif_le : (a b c d : ℕ) → a + d ≤ c + b → dif a b ≤ℤ dif c d
dif_le a b c d h = go (side a b) (side c d) h
  where
    go : {a b c d : ℕ} → Side a b → Side c d → a + d ≤ c + b → dif a b ≤ℤ dif c d
    go (above b n) (above d m) h = rw (dif_above b n, dif_above d m) (record { le = le→leb n m (omega arith) })
    go (above b n) (below c m) h = absurd (omega arith)
    go (below a n) (above d m) h = rw (dif_below a n, dif_above d m) (record { le = tt })
    go (below a n) (below c m) h = rw (dif_below a n, dif_below c m) (record { le = le→leb m n (omega arith) })

dif_lt : (a b c d : ℕ) → a + d < c + b → dif a b <ℤ dif c d
dif_lt a b c d h = go (side a b) (side c d) h
  where
    go : {a b c d : ℕ} → Side a b → Side c d → a + d < c + b → dif a b <ℤ dif c d
    go (above b n) (above d m) h = rw (dif_above b n, dif_above d m) (record { lt = lt→ltb n m (omega arith) })
    go (above b n) (below c m) h = absurd (omega arith)
    go (below a n) (above d m) h = rw (dif_below a n, dif_above d m) (record { lt = tt })
    go (below a n) (below c m) h = rw (dif_below a n, dif_below c m) (record { lt = lt→ltb m n (omega arith) })

-- ---- rules of omega

-- of a hypothesis: an order of two integers is one of naturals
pub le_out : {x y : ℤ} → x ≤ℤ y → up x + dn y ≤ up y + dn x
le_out {x} {y} h = go x y h.le
  where
    go : (x y : ℤ) → T (le_z x y) → up x + dn y ≤ up y + dn x
    go (pos n) (pos m) h = omega (arith, leb→le n m h)
    go (pos n) (negsuc m) h = absurd h
    go (negsuc n) (pos m) h = omega arith
    go (negsuc n) (negsuc m) h = omega (arith, leb→le m n h)

pub lt_out : {x y : ℤ} → x <ℤ y → up x + dn y < up y + dn x
lt_out {x} {y} h = go x y h.lt
  where
    go : (x y : ℤ) → T (lt_z x y) → up x + dn y < up y + dn x
    go (pos n) (pos m) h = omega (arith, ltb→lt n m h)
    go (pos n) (negsuc m) h = absurd h
    go (negsuc n) (pos m) h = omega arith
    go (negsuc n) (negsuc m) h = omega (arith, ltb→lt m n h)

pub ruleset ints = (arith, le_out, lt_out)

-- of the goal: the other way round
pub le_in : {x y : ℤ} → up x + dn y ≤ up y + dn x → x ≤ℤ y
le_in {x} {y} h = rw (is x, is y) (dif_le _ _ _ _ h)

pub lt_in : {x y : ℤ} → up x + dn y < up y + dn x → x <ℤ y
lt_in {x} {y} h = rw (is x, is y) (dif_lt _ _ _ _ h)

pub eq_in : {x y : ℤ} → up x + dn y ≡ up y + dn x → x ≡ y
eq_in {x} {y} h = rw (is x, is y) (dif_eq _ _ _ _ h)

-- of a sum and of a product with a natural
dif_out : (a b : ℕ) → up (dif a b) + b ≡ a + dn (dif a b)
dif_out a b = go (side a b)
  where
    go : {a b : ℕ} → Side a b → up (dif a b) + b ≡ a + dn (dif a b)
    go (above b n) = rw (dif_above b n) (omega arith)
    go (below a n) = rw (dif_below a n) (omega arith)

pub sum_is : (x y : ℤ) → up (x +ℤ y) + (dn x + dn y) ≡ up x + up y + dn (x +ℤ y)
sum_is x y = rw e (dif_out (up x + up y) (dn x + dn y))
  where
    e : x +ℤ y ≡ dif (up x + up y) (dn x + dn y)
    e = ap₂ ◌+ℤ◌ (is x) (is y) ∙ dif_add (up x) (dn x) (up y) (dn y)

pub scale_is : (n : ℕ) (x : ℤ) → up (pos n *ℤ x) + n * dn x ≡ n * up x + dn (pos n *ℤ x)
scale_is n x = rw e (dif_out (n * up x) (n * dn x))
  where
    e : pos n *ℤ x ≡ dif (n * up x) (n * dn x)
    e = ap₂ ◌*ℤ◌ (pos_is n) (is x) ∙ dif_mul n 0 (up x) (dn x) ∙ dif_eq _ _ _ _ (omega arith)

-- ---- the order

pub ≤ℤ-trans : {x y z : ℤ} → x ≤ℤ y → y ≤ℤ z → x ≤ℤ z
≤ℤ-trans h k = omega (ints, le_in)

pub ≤ℤ-antisym : {x y : ℤ} → x ≤ℤ y → y ≤ℤ x → x ≡ y
≤ℤ-antisym h k = eq_in (omega ints)

pub <→≤ : {x y : ℤ} → x <ℤ y → x ≤ℤ y
<→≤ h = omega (ints, le_in)

-- a test that fails
pub le_z_no : {a b : ℤ} → T (not (le_z a b)) → b <ℤ a
le_z_no {a} {b} t = record { lt = go a b t }
  where
    go : (a b : ℤ) → T (not (le_z a b)) → T (lt_z b a)
    go (pos a) (pos b) t = lt→ltb b a (nleb→lt a b t)
    go (pos a) (negsuc b) t = tt
    go (negsuc a) (pos b) t = t
    go (negsuc a) (negsuc b) t = lt→ltb a b (nleb→lt b a t)

-- ---- the order of sums, and of products with a natural

pub +-mono : (x y z w : ℤ) → x ≤ℤ y → z ≤ℤ w → (x +ℤ z) ≤ℤ (y +ℤ w)
+-mono x y z w h k = omega (ints, le_in, sum_is x z, sum_is y w)

-- the sum of two orders is an equality only if both are
pub +-tight : (x y z w : ℤ) → x ≤ℤ y → z ≤ℤ w → (y +ℤ w) ≤ℤ (x +ℤ z) → (y ≤ℤ x) × (w ≤ℤ z)
+-tight x y z w h k l = (omega (ints, le_in, sum_is y w, sum_is x z), omega (ints, le_in, sum_is y w, sum_is x z))

pub scale_mono : (n : ℕ) {x y : ℤ} → x ≤ℤ y → (pos n *ℤ x) ≤ℤ (pos n *ℤ y)
scale_mono n {x} {y} h = omega (arith, le_in, mul-le-mul_left n (le_out h), scale_is n x, scale_is n y)

pub scale_cancel : (n : ℕ) {x y : ℤ} → 0 < n → (pos n *ℤ x) ≤ℤ (pos n *ℤ y) → x ≤ℤ y
scale_cancel n {x} {y} p h =
    le_in (le_of_mul-le-mul_left {m = up x + dn y} {n = up y + dn x} {k = n} (omega (ints, scale_is n x, scale_is n y)) p)

-- ---- the absolute value

abs_sub : (a b : ℕ) → nat_abs (sub_ℕ a b) ≤ a + b
abs_sub a b = rw (sub_is a b) (go (side a b))
  where
    go : {a b : ℕ} → Side a b → nat_abs (dif a b) ≤ a + b
    go (above b n) = rw (dif_above b n) (omega arith)
    go (below a n) = rw (dif_below a n) (omega arith)

abs_neg : (n : ℕ) → nat_abs (neg_ℤ (pos n)) ≡ n
abs_neg zero = refl
abs_neg (suc n) = refl

pub abs_add : (a b : ℤ) → nat_abs (a +ℤ b) ≤ nat_abs a + nat_abs b
abs_add (pos a) (pos b) = le_refl (a + b)
abs_add (pos a) (negsuc b) = abs_sub a (suc b)
abs_add (negsuc a) (pos b) = omega (arith, abs_sub b (suc a))
abs_add (negsuc a) (negsuc b) = omega arith

pub abs_minus : (a b : ℤ) → nat_abs (a -ℤ b) ≤ nat_abs a + nat_abs b
abs_minus a b = omega (arith, abs_add a (neg_ℤ b), size b)
  where
    size : (z : ℤ) → nat_abs (neg_ℤ z) ≡ nat_abs z
    size (pos n) = abs_neg n
    size (negsuc n) = refl

pub abs_mul : (a b : ℤ) → nat_abs (a *ℤ b) ≡ nat_abs a * nat_abs b
abs_mul (pos a) (pos b) = refl
abs_mul (pos a) (negsuc b) = abs_neg (a * suc b)
abs_mul (negsuc a) (pos b) = abs_neg (suc a * b)
abs_mul (negsuc a) (negsuc b) = refl
