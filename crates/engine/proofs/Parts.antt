-- A part of a slice that is written and then read.
-- Assumes nothing.
use mathlib.Core.Path.{◌≡◌, sym, ap, ◌∙◌}
use mathlib.Core.List.{List, [], ◌∷◌, ◌++◌, append_assoc}
use Prim.Native.Nat.{ℕ, zero, suc, ◌+◌, ◌-◌, ◌≤◌}
use native.Mathlib.Omega.{arith}
use lib.ListN.{length, take, drop, length-drop}
use lib.Seq.{length-take-le}
use borrow.Rule.Slice.PartMut.{put_mid, Post-is}
use Rattle.bytes_io.specs.Slices.{written}
use Rattle.pool.specs.Entries.{moved_back}

module _ (o : List ℕ) (a s S : ℕ) (same : s ≡ S) (room : a + s ≤ length o) where
  pub part_long : length (take (a + s - a) (drop a o)) ≡ s
  part_long = length-take-le (a + s - a) (drop a o) (omega (arith, length-drop a o)) ∙ omega arith

  module _ {ys : List ℕ} (xs : List ℕ) (e : ys ≡ xs) (long : length xs ≡ S) where
    pub put_is : put_mid a (a + s - a) o ys ≡ written o a S xs
    put_is =
        ap (λ (zs : List ℕ). take a o ++ (zs ++ drop (a + s - a) (drop a o))) e
        ∙ ap (λ (r : List ℕ). take a o ++ (xs ++ r)) (Post-is a (a + s) o (omega arith) ∙ ap (λ (n : ℕ). drop (a + n) o) same)
        ∙ sym (append_assoc (take a o) xs (drop (a + S) o))

-- the first n slots turned by one
pub turned : (o r : List ℕ) (n : ℕ) → 1 ≤ n → n ≤ length o → r ≡ drop 1 (take n o) ++ take 1 (take n o) → r ++ drop n o ≡ moved_back n o
turned [] r n l h e = absurd (omega arith)
turned (x ∷ o) r zero l h e = absurd (omega arith)
turned (x ∷ o) r (suc n) l h e = let one : suc n - 1 ≡ n = omega arith in rw (e, one) (append_assoc (take n o) (x ∷ []) (drop n o))
