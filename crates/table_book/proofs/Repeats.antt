-- One run of words, written m times in a row.
-- Assumes nothing.
use mathlib.Core.Path.{◌≡◌, refl, sym, ap, ap₂, ◌∙◌}
use mathlib.Core.List.{List, ◌++◌, append_assoc}
use Prim.Native.Nat.{ℕ, zero, suc, ◌+◌, ◌*◌, ◌-◌, ◌≤◌, ◌<◌}
use native.Mathlib.Omega.{arith}
use lib.IntN.{ℤ}
use lib.ListN.{length, take, drop, length-append}
use lib.Seq.{length-take-le, take-append-le, take-take, take-add, take_at, drop_at}
use Rattle.bytes_io.specs.Slices.{written}
use Rattle.bytes_io.proofs.Parts.{Filling, fill_part, fill_end, written_join}
use Rattle.table_book.specs.Columns.{repeated}
use Rattle.table_book.proofs.Lists.{one_more, row_fits, last_row, copies_step}

-- what stands before a part that is written stays
kept : (o : List ℤ) (p n : ℕ) (ys : List ℤ) (j : ℕ) → j ≤ p → p ≤ length o → take j (written o p n ys) ≡ take j o
kept o p n ys j l h =
    let e = length-take-le p o h in
    take-append-le j (take p o ++ ys) (drop (p + n) o) (omega (arith, e, length-append (take p o) ys))
    ∙ take-append-le j (take p o) ys (omega (arith, e)) ∙ take-take j p o l

-- a part of what is the same up to where it ends
part_same : (o o₀ : List ℤ) (i w : ℕ) → i + w ≤ length o → i + w ≤ length o₀ → take (i + w) o ≡ take (i + w) o₀
    → take w (drop i o) ≡ take w (drop i o₀)
part_same o o₀ i w h h₀ e = sym (part o h) ∙ ap (drop i) e ∙ part o₀ h₀
  where
    part : (o : List ℤ) → i + w ≤ length o → drop i (take (i + w) o) ≡ take w (drop i o)
    part o h = ap (drop i) (take-add i w o) ∙ drop_at (take i o) (take w (drop i o)) i (length-take-le i o (omega arith))

-- the part that was written
part-written : (o : List ℤ) (at w : ℕ) (xs : List ℤ) → length xs ≡ w → at ≤ length o → take w (drop at (written o at w xs)) ≡ xs
part-written o at w xs e h =
    ap (λ (zs : List ℤ). take w (drop at zs)) (append_assoc (take at o) xs (drop (at + w) o))
    ∙ ap (take w) (drop_at (take at o) (xs ++ drop (at + w) o) at (length-take-le at o h)) ∙ take_at xs (drop (at + w) o) w e

module _ (o₀ : List ℤ) (at m w : ℕ) (xs : List ℤ) where
  -- it was written k times
  pub record Repeating (o : List ℤ) (k : ℕ) : Type 0 where
    pub filling : Filling o₀ at (m * w) (repeated m xs) o (k * w) (repeated (m - k) xs)

  module _ (fits : at + m * w ≤ length o₀) {o : List ℤ} {k : ℕ} (h : Repeating o k) where
    pub rep_step : length xs ≡ w → {o' : List ℤ} → k < m → o' ≡ written o (at + k * w) w xs → Repeating o' (k + 1)
    rep_step e l q =
        record {
          filling =
              fill_part o₀ at (m * w) (repeated m xs) fits h.filling w ((k + 1) * w) xs (repeated (m - (k + 1)) xs) e refl (one_more k w)
              (omega (arith, row_fits k m w l, one_more k w)) (copies_step k m xs l) q;
        }

    -- what stands before them stays
    pub rep_kept : (i n : ℕ) → i + n ≤ at → take n (drop i o) ≡ take n (drop i o₀)
    rep_kept i n l =
        part_same o o₀ i n (omega (arith, h.filling.long)) (omega arith)
        (sym (kept o (at + k * w) (m * w - k * w) (repeated (m - k) xs) (i + n) (omega arith) (omega (arith, h.filling.long, h.filling.most)))
        ∙ ap (take (i + n)) (sym h.filling.whole) ∙ kept o₀ at (m * w) (repeated m xs) (i + n) l (omega arith))

    pub rep_end : k ≡ m → o ≡ written o₀ at (m * w) (repeated m xs)
    rep_end e =
        let z : m - k ≡ 0 = omega arith in
        fill_end o₀ at (m * w) (repeated m xs) fits h.filling (rw e (omega arith)) (rw z)

-- ---- a run that is written once, and then repeated

module _ (o₀ : List ℤ) (at m w : ℕ) (xs : List ℤ) where
  module _ (some : m ≡ 0 → ⊥) (fits : at + m * w ≤ length o₀) (long : length xs ≡ w) {o : List ℤ} (e : o ≡ written o₀ at w xs) where
    rows : m * w ≡ w + (m - 1) * w
    rows = omega (arith, last_row m w (pos_of m some))
      where
        pos_of : (n : ℕ) → (n ≡ 0 → ⊥) → 1 ≤ n
        pos_of zero h = absurd (h refl)
        pos_of (suc n) h = omega arith

    pub rep_more : {o' : List ℤ} → o' ≡ written o (at + w) ((m - 1) * w) (repeated (m - 1) (take w (drop at o))) → o' ≡ written o₀ at (m * w) (repeated m xs)
    rep_more q =
        let first = ap (λ (zs : List ℤ). take w (drop at zs)) e ∙ part-written o₀ at w xs long (omega arith) in
        let split : m ≡ suc (m - 1) = omega (arith, some) in
        q ∙ ap₂ (λ (zs ys : List ℤ). written zs (at + w) ((m - 1) * w) (repeated (m - 1) ys)) e first
        ∙ written_join o₀ at w xs long (omega (arith, rows)) ((m - 1) * w) (repeated (m - 1) xs)
        ∙ ap₂ (written o₀ at) (sym rows) (ap (λ (n : ℕ). repeated n xs) (sym split))
