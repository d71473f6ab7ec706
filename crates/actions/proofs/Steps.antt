-- The questions 9 to 13 of one action, by the words that are read.
-- Assumes nothing.
use mathlib.Core.Path.{◌≡◌, refl, sym, ap, ap₂, ◌∙◌}
use mathlib.Core.Bool.{Bool, true, false, ◌&&◌, ◌||◌, cond}
use Prim.Native.Nat.{ℕ, zero, suc, ◌+◌, ◌-◌, ◌≤◌, ◌<◌}
use native.Mathlib.Numerals.{add-one}
use native.Mathlib.Omega.{arith}
use borrow.Author.Tests.{le-leb, leb-true, ltb-true, lt-ltb}
use lib.IntN.{ℤ, pos, negsuc, nat_abs}
use lib.Signed.{lt_z}
use lib.Dec.{leb, eqb, leb-suc-suc}
use Rattle.model.specs.Lists.{all, sum_to}
use Rattle.model.specs.Model.{Words, word, scale, horizon, line_count, left, right, branches, line_after, stage_size, closed}
use Rattle.model.specs.Questions.{inside, most_branches, branches_inside, cost_inside, next_before, branches_allowed, cost_allowed, nexts_allowed, weight_sum, weights_allowed, open_size}
use Rattle.questions.specs.Ranges.{and-true, and_right, all-at, all_yes, all_same, all_both, sum_same, sum_step, sum_mono, inside_range}
use Rattle.book.specs.Read.{SizesAre}
use Rattle.book.specs.declared.Sizes.{Sizes}
use Rattle.book.proofs.Columns.{left_is, right_is}
use Rattle.actions.specs.Action.{prev_at, next_above, next_allowed, weights_fit, cost_up_to, action_number}

-- two tests that each follow from the other
same_test : (a b : Bool) → (a ≡ true → b ≡ true) → (b ≡ true → a ≡ true) → a ≡ b
same_test true b f g = sym (f refl)
same_test false true f g = g refl
same_test false false f g = refl

same-leb : (a b c d : ℕ) → (a ≤ b → c ≤ d) → (c ≤ d → a ≤ b) → leb a b ≡ leb c d
same-leb a b c d f g =
    same_test (leb a b) (leb c d) (λ e. le-leb c d (f (leb-true a b e))) (λ e. le-leb a b (g (leb-true c d e)))

and_end : (a : Bool) → (a && true) ≡ a
and_end true = refl
and_end false = refl

-- ---- 9

-- the most transitions are tested where the definition has a test for each kind of stage
pub inside-most : (z : ℤ) (n h : ℕ) → inside (pos 0) (cond (eqb n h) (pos 0) (pos most_branches)) z ≡ branches_inside z n h
inside-most z n h = go (eqb n h)
  where
    go : (b : Bool) → inside (pos 0) (cond b (pos 0) (pos most_branches)) z ≡ cond b (inside (pos 0) (pos 0) z) (inside (pos 0) (pos most_branches) z)
    go true = refl
    go false = refl

module _ (ws : Words) (z : Sizes) (are : SizesAre ws z) (n j at : ℕ) (a : at ≡ z.columns + j) where
  abbrev tested : Bool
  tested = inside (pos 0) (cond (eqb n z.h) (pos 0) (pos most_branches)) (word ws at)

  inside_is : branches_inside (left ws j) n (horizon ws) ≡ tested
  inside_is =
      ap₂ (λ (x : ℤ) (h : ℕ). branches_inside x n h) (sym (left_is ws z are j at a)) (sym are.h_is)
      ∙ sym (inside-most (word ws at) n z.h)

  pub unbranched : tested ≡ false → false ≡ branches_allowed ws n j
  unfolding branches_allowed
  unbranched e = rw (inside_is, e)

  pub fit_is : tested ≡ true → (r : ℕ) → r ≡ nat_abs (word ws at) → leb (at + 1 + r) (z.columns + z.l) ≡ branches_allowed ws n j
  unfolding branches_allowed line_after branches
  fit_is e r b =
      rw (inside_is, e, sym (left_is ws z are j at a), sym b, sym are.l_is)
      (same-leb (at + 1 + r) (z.columns + z.l) (j + 1 + r) z.l (λ h. omega (arith, a)) (λ h. omega (arith, a)))

-- what it leaves
module _ (ws : Words) (n j : ℕ) (e : branches_allowed ws n j ≡ true) where
  pub fit_bound : line_after ws j ≤ line_count ws
  unfolding branches_allowed
  fit_bound =
      leb-true (line_after ws j) (line_count ws)
      (and-true (branches_inside (left ws j) n (horizon ws)) (leb (line_after ws j) (line_count ws)) e).1

  -- at stage H an action has no transition
  none_at_last : eqb n (horizon ws) ≡ true → branches ws j ≡ 0
  unfolding branches_allowed branches
  none_at_last l =
      let i = (and-true (branches_inside (left ws j) n (horizon ws)) (leb (line_after ws j) (line_count ws)) e).0 in
      let k : inside (pos 0) (pos 0) (left ws j) ≡ true = rw l at i in
      omega (arith, inside_range 0 0 (left ws j) k)

-- ---- 10

pub cost_is : (z : ℤ) → leb (open_size z) 100000 ≡ cost_inside z
cost_is (pos m) = go (closed (pos m))
  where
    go : (b : Bool) → leb (cond b 0 m) 100000 ≡ (b || leb m 100000)
    go true = refl
    go false = refl
cost_is (negsuc m) = leb-suc-suc m 99999 ∙ sym (and_end (leb m 99999))

module _ (ws : Words) (z : Sizes) (are : SizesAre ws z) (n j at size : ℕ) (a : at ≡ z.columns + j + z.l) (e : size ≡ open_size (word ws at)) where
  size_is : size ≡ open_size (right ws j)
  size_is = e ∙ ap open_size (right_is ws z are j at (omega (arith, a)))

  pub cost-asked : leb size 100000 ≡ cost_allowed ws n j
  unfolding cost_allowed
  cost-asked = rw size_is (cost_is (right ws j))

  pub bound_asked : (most : ℕ) → leb size most ≡ cost_up_to most ws n j
  unfolding cost_up_to
  bound_asked most = rw size_is

-- ---- 11

-- the next state before that of the transition after transition i
pub prev_step : (ws : Words) (at i : ℕ) → prev_at ws at (i + 1) ≡ word ws (at + i)
prev_step ws at i = rw add-one

below : (x y : ℤ) (w : ℕ) → lt_z x y ≡ true → lt_z y (pos w) ≡ true → lt_z x (pos w) ≡ true
below (pos a) (pos b) w e f = lt-ltb a w (omega (arith, ltb-true a b e, ltb-true b w f))
below (pos a) (negsuc b) w e f = let z : ◌≡◌ {A = ℕ} 0 1 = cc in absurd (omega arith)
below (negsuc a) y w e f = refl

module _ (ws : Words) (at width : ℕ) where
  abbrev next : ℕ → Bool
  next = next_allowed ws at width

  abbrev low : ℕ → Bool
  low i = lt_z (word ws (at + i)) (pos width)

  -- next states that rise are below the width if the last is
  module _ (n : ℕ) (rise : all (suc n) (next_above ws at) ≡ true) (last : low n ≡ true) where
    under : (k i : ℕ) → i + k ≡ n → low i ≡ true
    under zero i q = let s : i ≡ n = omega arith in rw s last
    under (suc k) i q =
        below (word ws (at + i)) (word ws (at + suc i)) width (all-at (suc n) (next_above ws at) rise (suc i) (omega arith)) (under k (suc i) (omega arith))

  settled : (n : ℕ) → all (suc n) (next_above ws at) ≡ true → low n ≡ all (suc n) low
  settled n rise =
      same_test (low n) (all (suc n) low) (λ e. all_yes (suc n) low (λ i h. under n rise e (n - i) i (omega arith)))
      (λ e. all-at (suc n) low e n (omega arith))

  -- together with another test
  module _ (b : Bool) where
    pub lines_no : (r : ℕ) → (all r (next_above ws at) && b) ≡ false → false ≡ (all r next && b)
    lines_no r e = rw (all_both r (next_above ws at) low) (go (all r (next_above ws at)) (all r low) e)
      where
        go : (x y : Bool) → (x && b) ≡ false → false ≡ (x && y && b)
        go true y h = rw h (sym (and_right y))
        go false y h = refl

    pub lines_last : (r : ℕ) → (r ≡ 0 → ⊥) → (all r (next_above ws at) && b) ≡ true → low (r - 1) ≡ (all r next && b)
    lines_last zero some e = absurd (some refl)
    lines_last (suc n) some e =
        let k : suc n - 1 ≡ n = omega arith in
        let p = and-true (all (suc n) (next_above ws at)) b e in
        rw k (settled n p.0 ∙ rw (all_both (suc n) (next_above ws at) low, p.0, p.1) (sym (and_end (all (suc n) low))))

module _ (ws : Words) (z : Sizes) (are : SizesAre ws z) (n j : ℕ) where
  pub nexts_are : (at r width : ℕ) → at ≡ z.columns + j + 1 → r ≡ branches ws j → width ≡ stage_size ws (n + 1)
      → all r (next_allowed ws at width) ≡ nexts_allowed ws n j
  unfolding nexts_allowed
  nexts_are at r width a b w = rw (b, w) (all_same (branches ws j) _ _ one)
    where
      next_is : (i : ℕ) → word ws (at + i) ≡ left ws (j + 1 + i)
      next_is i = left_is ws z are (j + 1 + i) (at + i) (omega (arith, a))

      prev : (i : ℕ) → prev_at ws at i ≡ next_before ws j i
      prev zero = refl
      prev (suc i) = next_is i

      one : (i : ℕ) → i < branches ws j → next_allowed ws at (stage_size ws (n + 1)) i
          ≡ (lt_z (next_before ws j i) (left ws (j + 1 + i)) && lt_z (left ws (j + 1 + i)) (pos (stage_size ws (n + 1))))
      one i h = ap₂ (λ (x y : ℤ). lt_z x y && lt_z y (pos (stage_size ws (n + 1)))) (prev i) (next_is i)

-- ---- 12

-- a word that is at most d, tested from above 0 only
positive : (x : ℤ) (d : ℕ) → nat_abs x ≤ d → lt_z (pos 0) x ≡ inside (pos 1) (pos d) x
positive (pos m) d h = rw (le-leb m d h) (sym (and_end (leb 1 m)))
positive (negsuc m) d h = refl

module _ (ws : Words) (at r d : ℕ) where
  abbrev size : ℕ → ℕ
  size i = nat_abs (word ws (at + i))

  abbrev each : ℕ → Bool
  each i = inside (pos 1) (pos d) (word ws (at + i))

  -- no weight is above the sum
  weights_fit_lem : weights_fit ws at r d ≡ (all r each && leb (sum_to r size) d)
  weights_fit_lem = go (leb (sum_to r size) d) refl
    where
      term : (i : ℕ) → i < r → size i ≤ sum_to r size
      term i h = omega (arith, sum_step i size, sum_mono (i + 1) r size (omega arith))

      go : (b : Bool) → leb (sum_to r size) d ≡ b → (all r (λ (i : ℕ). lt_z (pos 0) (word ws (at + i))) && b) ≡ (all r each && b)
      go true e =
          ap (λ (b : Bool). b && true)
          (all_same r (λ (i : ℕ). lt_z (pos 0) (word ws (at + i))) each
          (λ i h. positive (word ws (at + i)) d (omega (arith, term i h, leb-true (sum_to r size) d e))))
      go false e = and_right (all r (λ (i : ℕ). lt_z (pos 0) (word ws (at + i)))) ∙ sym (and_right (all r each))

module _ (ws : Words) (z : Sizes) (are : SizesAre ws z) (n j : ℕ) (fit : branches_allowed ws n j ≡ true) (at r : ℕ) (a : at ≡ z.columns + j + z.l + 1)
    (b : r ≡ branches ws j) where
  weight : (i : ℕ) → word ws (at + i) ≡ right ws (j + 1 + i)
  weight i = right_is ws z are (j + 1 + i) (at + i) (omega (arith, a))

  each-is : all r (λ (i : ℕ). inside (pos 1) (pos z.d) (word ws (at + i)))
      ≡ all (branches ws j) (λ (i : ℕ). inside (pos 1) (pos (scale ws)) (right ws (j + 1 + i)))
  each-is =
      rw (b, are.d_is) (all_same (branches ws j) _ _ (λ i h. ap (λ (x : ℤ). inside (pos 1) (pos (scale ws)) x) (weight i)))

  sum_is : sum_to r (λ (i : ℕ). nat_abs (word ws (at + i))) ≡ weight_sum ws j
  unfolding weight_sum
  sum_is = rw b (sum_same (branches ws j) _ _ (λ i h. ap nat_abs (weight i)))

  -- without transitions the sum is 0
  sum-asked : leb (weight_sum ws j) (scale ws) ≡ (eqb n (horizon ws) || leb (weight_sum ws j) (scale ws))
  unfolding weight_sum
  sum-asked = go (eqb n (horizon ws)) refl
    where
      go : (c : Bool) → eqb n (horizon ws) ≡ c → leb (weight_sum ws j) (scale ws) ≡ (c || leb (weight_sum ws j) (scale ws))
      go true e = rw (none_at_last ws n j fit e) (le-leb 0 (scale ws) (omega arith))
      go false e = refl

  pub weights_are : weights_fit ws at r z.d ≡ weights_allowed ws n j
  unfolding weights_allowed
  weights_are = weights_fit_lem ws at r z.d ∙ ap₂ ◌&&◌ each-is (ap₂ leb sum_is are.d_is ∙ sum-asked)

-- ---- the number of one action that passes question 9

module _ (most : ℕ) (ws : Words) (n j : ℕ) (e : branches_allowed ws n j ≡ true) where
  pub ten : cost_allowed ws n j ≡ false → 10 ≡ action_number most ws n j
  unfolding action_number
  ten f = rw (e, f)

  module _ (f : cost_allowed ws n j ≡ true) where
    pub eleven : nexts_allowed ws n j ≡ false → 11 ≡ action_number most ws n j
    unfolding action_number
    eleven g = rw (e, f, g)

    module _ (g : nexts_allowed ws n j ≡ true) where
      pub twelve : weights_allowed ws n j ≡ false → 12 ≡ action_number most ws n j
      unfolding action_number
      twelve h = rw (e, f, g, h)

      module _ (h : weights_allowed ws n j ≡ true) where
        pub thirteen : cost_up_to most ws n j ≡ false → 13 ≡ action_number most ws n j
        unfolding action_number
        thirteen k = rw (e, f, g, h, k)

        pub zero-all : cost_up_to most ws n j ≡ true → 0 ≡ action_number most ws n j
        unfolding action_number
        zero-all k = rw (e, f, g, h, k)
