-- No number of transitions, next state or weight of an accepted book is below 0.
-- Assumes nothing.
use mathlib.Core.Path.{◌≡◌, refl}
use mathlib.Core.Bool.{Bool, true, false, cond}
use mathlib.Core.Logic.{◌⊎◌, inl, inr}
use Prim.Native.Nat.{ℕ, zero, suc, ◌+◌, ◌<◌}
use native.Mathlib.Omega.{arith}
use borrow.Author.Tests.{ltb-true}
use lib.Dec.{eqb}
use lib.IntN.{ℤ, pos, negsuc}
use lib.Signed.{lt_z}
use Rattle.model.specs.Model.{Words, word, scale, horizon, state_count, stage, action_count, left, right, branches, action_line}
use Rattle.model.specs.Questions.{inside, fewest_branches, most_branches, branches_allowed, next_before, nexts_allowed, weights_allowed, book_number}
use Rattle.questions.specs.Ranges.{and-true, all-at}
use Rattle.accepted.specs.Facts.{accepted}
use Rattle.book.specs.declared.Sizes.{Sizes}
use Rattle.book.proofs.Columns.{left_is}
use Rattle.index.specs.Index.{NotBelow0, Checked, ActionAt}

-- what is lo or more
from_up : (lo : ℕ) (hi z : ℤ) → inside (pos lo) hi z ≡ true → NotBelow0 z
from_up lo hi (pos n) e = refl
from_up lo hi (negsuc n) e = let z : ◌≡◌ {A = ℕ} 0 1 = cc in absurd (omega arith)

-- what is above -1, or above a number that is not below 0
above : (y x : ℤ) → (y ≡ negsuc 0) ⊎ NotBelow0 y → lt_z y x ≡ true → NotBelow0 x
above y (pos n) h e = refl
above y (negsuc n) h e = absurd (go y h e)
  where
    go : (y : ℤ) → (y ≡ negsuc 0) ⊎ NotBelow0 y → lt_z y (negsuc n) ≡ true → ⊥
    go (pos m) h e = let z : ◌≡◌ {A = ℕ} 0 1 = cc in omega arith
    go (negsuc m) (inl q) e = let k : m ≡ 0 = cc in omega (arith, ltb-true n m e)
    go (negsuc m) (inr q) e = let z : ◌≡◌ {A = ℕ} 0 1 = cc in omega arith

module _ (ws : Words) (ok : book_number ws ≡ 0) (p : ℕ) (hp : p < state_count ws) (c : ℕ) (hc : c < action_count ws p) where
  abbrev line : ℕ
  line = action_line ws p c

  first-up : NotBelow0 (left ws line)
  unfolding branches_allowed
  first-up = go (eqb (stage ws p) (horizon ws)) (and-true _ _ ((accepted ws ok).branches-allowed p c hp hc)).0
    where
      go : (b : Bool) → cond b (inside (pos 0) (pos 0) (left ws line)) (inside (pos fewest_branches) (pos most_branches) (left ws line)) ≡ true → NotBelow0 (left ws line)
      go true e = from_up 0 (pos 0) _ e
      go false e = from_up fewest_branches (pos most_branches) _ e

  nexts_rise : (i : ℕ) → i < branches ws line → lt_z (next_before ws line i) (left ws (line + 1 + i)) ≡ true
  unfolding nexts_allowed
  nexts_rise i h = (and-true _ _ (all-at (branches ws line) _ ((accepted ws ok).nexts-allowed p c hp hc) i h)).0

  pub nexts-up : (i : ℕ) → i < branches ws line → NotBelow0 (left ws (line + 1 + i))
  nexts-up zero h = above (negsuc 0) _ (inl refl) (nexts_rise zero h)
  nexts-up (suc i) h = above (left ws (line + 1 + i)) _ (inr (nexts-up i (omega arith))) (nexts_rise (suc i) h)

  pub weights-up : (i : ℕ) → i < branches ws line → NotBelow0 (right ws (line + 1 + i))
  unfolding weights_allowed
  weights-up i h =
      from_up 1 (pos (scale ws)) _
      (all-at (branches ws line) _ (and-true _ _ ((accepted ws ok).weights-allowed p c hp hc)).0 i h)

-- the word of an action's first line, which is r
pub line_up : (ws : Words) (z : Sizes) (p c j : ℕ) → Checked ws z → ActionAt ws p c j → NotBelow0 (word ws (z.columns + j))
line_up ws z p c j k a =
    rw (left_is ws z k.sizes j (z.columns + j) refl, a.line_is) (first-up ws k.ok p a.state c a.action)
