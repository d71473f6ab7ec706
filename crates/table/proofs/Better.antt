-- The first best of a list of actions, taken from the front one by one.
-- Assumes nothing.
use mathlib.Core.Path.{◌≡◌, refl, sym, ap, ◌∙◌}
use mathlib.Core.Bool.{Bool, true, false, cond}
use mathlib.Core.Logic.{inl, inr}
use mathlib.Core.List.{List, [], ◌∷◌}
use Prim.Native.Nat.{ℕ, suc, ◌+◌, ◌-◌, ◌≤◌, ◌<◌}
use native.Mathlib.Numerals.{add-one}
use native.Mathlib.Omega.{arith}
use borrow.Author.Tests.{ne_eqb}
use lib.Dec.{eqb}
use lib.IntN.{ℤ}
use lib.Signed.{le_z, le_z_yes, <ℤ-≤ℤ_trans, clash_ℤ}
use Rattle.model.specs.Lists.{up_from}
use Rattle.model.specs.Recursion.{pick, first_least, best_of}
use Rattle.laws.specs.Int.{≤ℤ-trans, le_z_no, <→≤}
use Rattle.laws.specs.Members.{Every, every_in, in_every, true-T, false-T, up_from_in}
use Rattle.laws.specs.Best.{best_in}
use Rattle.sets.specs.Sets.{has, free, free_in}
use Rattle.table.specs.Table.{Chosen, better}

some_action : {c : ℕ} → c < 8 → eqb c 255 ≡ false
some_action {c} h = ne_eqb c 255 (λ e. omega arith)

module _ (f : ℕ → ℤ) where
  two : (x y : ℕ) → x < 8 → y < 8 → better f x y ≡ pick (le_z (f x) (f y)) x y
  two x y h k = rw (some_action h, some_action k)

  pick_below : (b : Bool) (x y : ℕ) → x < 8 → y < 8 → pick b x y < 8
  pick_below true x y h k = h
  pick_below false x y h k = k

  pub none_right : (x : ℕ) → Chosen x → better f x 255 ≡ x
  none_right x (inl e) = rw e
  none_right x (inr h) = rw (some_action h)

  better-chosen : (x y : ℕ) → Chosen x → Chosen y → Chosen (better f x y)
  better-chosen x y (inl e) k = rw e k
  better-chosen x y (inr h) (inl e) = rw (some_action h, e) (inr h)
  better-chosen x y (inr h) (inr k) = rw (two x y h k) (inr (pick_below (le_z (f x) (f y)) x y h k))

  -- three actions: it does not matter which two are compared first
  three : (x y z : ℕ) (a b c : Bool) → le_z (f x) (f y) ≡ a → le_z (f y) (f z) ≡ b → le_z (f x) (f z) ≡ c
      → pick (le_z (f (pick a x y)) (f z)) (pick a x y) z ≡ pick (le_z (f x) (f (pick b y z))) x (pick b y z)
  three x y z true true true p q r = rw (r, p)
  three x y z true true false p q r =
      absurd (clash_ℤ (le_z_no {a = f x} {b = f z} (false-T r)) (≤ℤ-trans (le_z_yes {a = f x} {b = f y} (true-T p)) (le_z_yes {a = f y} {b = f z} (true-T q))))
  three x y z true false c p q r = refl
  three x y z false true c p q r = rw (q, p)
  three x y z false false true p q r =
      absurd (clash_ℤ (<ℤ-≤ℤ_trans (le_z_no {a = f y} {b = f z} (false-T q)) (<→≤ (le_z_no {a = f x} {b = f y} (false-T p)))) (le_z_yes {a = f x} {b = f z} (true-T r)))
  three x y z false false false p q r = rw (r, q)

  better_assoc : (x y z : ℕ) → Chosen x → Chosen y → Chosen z → better f (better f x y) z ≡ better f x (better f y z)
  better_assoc x y z (inl e) k l = rw e
  better_assoc x y z (inr h) (inl e) l = rw (some_action h, e, some_action h)
  better_assoc x y z (inr h) (inr k) (inl e) =
      rw e (none_right (better f x y) (better-chosen x y (inr h) (inr k)) ∙ ap (better f x) (sym (none_right y (inr k))))
  better_assoc x y z (inr h) (inr k) (inr l) =
      ap (λ (w : ℕ). better f w z) (two x y h k)
      ∙ two (pick (le_z (f x) (f y)) x y) z (pick_below (le_z (f x) (f y)) x y h k) l
      ∙ three x y z (le_z (f x) (f y)) (le_z (f y) (f z)) (le_z (f x) (f z)) refl refl refl
      ∙ sym (two x (pick (le_z (f y) (f z)) y z) h (pick_below (le_z (f y) (f z)) y z k l))
      ∙ ap (better f x) (sym (two y z k l))

  -- ---- lists of actions

  best-chosen : (xs : List ℕ) → Every (λ c. c < 8) xs → Chosen (best_of f xs)
  best-chosen [] h = inl refl
  best-chosen (x ∷ xs) h = inr (every_in (λ c. c < 8) (x ∷ xs) h (best_of f (x ∷ xs)) (best_in f (x ∷ xs) x (inl refl)))

  best_cons : (x : ℕ) (xs : List ℕ) → x < 8 → Every (λ c. c < 8) xs → best_of f (x ∷ xs) ≡ better f x (best_of f xs)
  best_cons x [] h k = sym (none_right x (inr h))
  best_cons x (y ∷ ys) h k =
      sym (two x (first_least f y ys) h (every_in (λ c. c < 8) (y ∷ ys) k (first_least f y ys) (best_in f (y ∷ ys) y (inl refl))))

-- what a set leaves of the actions from c on, of n
abbrev pub rest : ℕ → ℕ → ℕ → List ℕ
rest mask c n = free mask (up_from c (n - c))

rest_below : (mask c n : ℕ) → c < n → n ≤ 8 → Every (λ d. d < 8) (rest mask (c + 1) n)
rest_below mask c n h k =
    in_every (λ d. d < 8) (rest mask (c + 1) n)
    (λ d i. omega (arith, up_from_in (c + 1) (n - (c + 1)) (free_in mask d (up_from (c + 1) (n - (c + 1))) i)))

-- one action from the front
rest_step : (mask c n : ℕ) → c < n → rest mask c n ≡ cond (has mask c) (rest mask (c + 1) n) (c ∷ rest mask (c + 1) n)
rest_step mask c n h = let e : n - c ≡ suc (n - (c + 1)) = omega arith in rw (e, add-one c)

-- the loop's step
pub best_step : (f : ℕ → ℤ) (mask c n best : ℕ) → c < n → n ≤ 8 → Chosen best
    → better f best (best_of f (rest mask c n)) ≡ better f (cond (has mask c) best (better f best c)) (best_of f (rest mask (c + 1) n))
best_step f mask c n best h k b = rw (rest_step mask c n h) (go (has mask c))
  where
    small : Every (λ c. c < 8) (rest mask (c + 1) n)
    small = rest_below mask c n h k

    go : (t : Bool) → better f best (best_of f (cond t (rest mask (c + 1) n) (c ∷ rest mask (c + 1) n)))
        ≡ better f (cond t best (better f best c)) (best_of f (rest mask (c + 1) n))
    go true = refl
    go false =
        ap (better f best) (best_cons f c (rest mask (c + 1) n) (omega arith) small)
        ∙ sym (better_assoc f best c (best_of f (rest mask (c + 1) n)) b (inr (omega arith)) (best-chosen f (rest mask (c + 1) n) small))

pub chosen_step : (f : ℕ → ℤ) (t : Bool) (best c : ℕ) → Chosen best → c < 8 → Chosen (cond t best (better f best c))
chosen_step f true best c h k = h
chosen_step f false best c h k = better-chosen f best c h (inr k)

-- two tables that agree on a list choose alike
pub best-same : (f g : ℕ → ℤ) (xs : List ℕ) → Every (λ c. f c ≡ g c) xs → best_of f xs ≡ best_of g xs
best-same f g [] h = refl
best-same f g (x ∷ xs) h = go x xs h
  where
    go : (x : ℕ) (xs : List ℕ) → Every (λ c. f c ≡ g c) (x ∷ xs) → first_least f x xs ≡ first_least g x xs
    go x [] h = refl
    go x (y ∷ ys) h =
        let i = go y ys h.1 in
        let e : f (first_least f y ys) ≡ g (first_least g y ys)
        = every_in (λ c. f c ≡ g c) (y ∷ ys) h.1 (first_least f y ys) (best_in f (y ∷ ys) y (inl refl)) ∙ ap g i in
        rw (h.0, e, i)
