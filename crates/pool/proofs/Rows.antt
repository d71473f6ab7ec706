-- The bytes of the slots: one row is written, and the others stay.
-- Assumes nothing.
use mathlib.Core.Path.{◌≡◌, sym, ap, ◌∙◌}
use mathlib.Core.Logic.{◌⊎◌, inl, inr}
use mathlib.Core.List.{List, ◌++◌, append_assoc}
use Prim.Native.Nat.{ℕ, ◌+◌, ◌*◌, ◌-◌, ◌≤◌, ◌<◌}
use native.Mathlib.Decide.{dec_lt}
use native.Mathlib.Omega.{arith}
use lib.ListN.{length, get_or, take, drop, length-drop, get_or-append}
use lib.Seq.{drop_at, take_at, take_all, length-take-le, length-paste, length_paste_head, get_or-take, get_or-drop, ext_get_or, paste}
use Rattle.pool.specs.Entries.{row}
use Rattle.laws.specs.Shift.{front_at}
use Rattle.pool.proofs.Lists.{after_front}

pub row_long : (s : ℕ) (plans : List ℕ) (j : ℕ) → length plans ≡ 4096 → j < 64 → s ≤ 64 → length (row s plans j) ≡ s
row_long s plans j long low short = length-take-le s (drop (j * 64) plans) (simp length-drop (omega arith))

pub row_at : (s : ℕ) (plans : List ℕ) (j i : ℕ) → i < s → get_or (row s plans j) i 0 ≡ get_or plans (j * 64 + i) 0
row_at s plans j i h = get_or-take s (drop (j * 64) plans) i 0 h ∙ get_or-drop (j * 64) plans i 0

-- ---- one row written

module _ (plans : List ℕ) (j : ℕ) (bs : List ℕ) (long : length plans ≡ 4096) (low : j < 64) (short : length bs ≤ 64) where
  abbrev s : ℕ
  s = length bs

  abbrev written : List ℕ
  written = paste plans (j * 64) bs s

  pub written_long : length written ≡ 4096
  written_long = length-paste plans (j * 64) bs s (omega arith) (omega arith) ∙ long

  head_long : length (take (j * 64) plans ++ take s bs) ≡ j * 64 + s
  head_long = length_paste_head plans (j * 64) bs s (omega arith) (omega arith)

  -- a byte before the row, and one after it
  outside : (m : ℕ) → (m < j * 64) ⊎ (j * 64 + s ≤ m) → get_or written m 0 ≡ get_or plans m 0
  outside m (inl h) =
      get_or-append (take (j * 64) plans ++ take s bs) (drop (j * 64 + s) plans) 0 m (omega (arith, head_long))
      ∙ front_at plans (take s bs) (j * 64) m 0 h (omega arith)
  outside m (inr h) =
      let e : m ≡ j * 64 + s + (m - (j * 64 + s)) = omega arith in
      rw e
      (after_front (take (j * 64) plans ++ take s bs) (drop (j * 64 + s) plans) (j * 64 + s) (m - (j * 64 + s)) 0 head_long
      ∙ get_or-drop (j * 64 + s) plans (m - (j * 64 + s)) 0)

  pub row_same : row s written j ≡ bs
  row_same =
      ap (take s)
      (ap (drop (j * 64)) (append_assoc (take (j * 64) plans) (take s bs) (drop (j * 64 + s) plans))
      ∙ drop_at (take (j * 64) plans) (take s bs ++ drop (j * 64 + s) plans) (j * 64) (length-take-le (j * 64) plans (omega arith)))
      ∙ take_at (take s bs) (drop (j * 64 + s) plans) s (length-take-le s bs (omega arith))
      ∙ take_all s bs (omega arith)

  pub row_other : (k : ℕ) → k < 64 → (k ≡ j → ⊥) → row s written k ≡ row s plans k
  row_other k h d =
      ext_get_or 0 (row s written k) (row s plans k) (row_long s written k written_long h short ∙ sym (row_long s plans k long h short))
      (λ i l. let m : i < s = omega (arith, row_long s written k written_long h short) in
      row_at s written k i m ∙ outside (k * 64 + i) (side i m (dec_lt k j)) ∙ sym (row_at s plans k i m))
    where
      side : (i : ℕ) → i < s → Dec (k < j) → (k * 64 + i < j * 64) ⊎ (j * 64 + s ≤ k * 64 + i)
      side i m (yes l) = inl (omega arith)
      side i m (no n) = inr (let g : j < k = go (dec_lt j k) in omega arith)
        where
          go : Dec (j < k) → j < k
          go (yes g) = g
          go (no g) = absurd (d (omega arith))
