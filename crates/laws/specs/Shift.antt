-- Elements of a list that are moved up by some places, one at a time, from the last on.
-- Assumes nothing.
use Rattle.std.specs.Prelude.{◌≡◌, List, ◌∷◌, ◌++◌, ℕ, suc, ◌+◌, ◌-◌, ◌≤◌, ◌<◌, length, get_or, set, take, drop}
use Rattle.std.proofs.Common.{sym, ap, ◌∙◌, add-one, arith, take-append-drop, take-suc, drop-cons, length-take-le, get_or-take}
use Rattle.std.proofs.Math.ListN.{get_or-append}
use Rattle.std.proofs.Math.Seq.{append_snoc}
use Rattle.std.proofs.lemmas.List.{set_at}

module _ {A : Type 0} where
  -- a store at the end of a front takes that element out of it
  pub set_last : (l rest : List A) (n : ℕ) (a z : A) → n < length l → set (take (n + 1) l ++ rest) n a ≡ take n l ++ (a ∷ rest)
  set_last l rest n a z h =
      rw (add-one, take-suc l n z h, append_snoc (take n l) (get_or l n z) rest)
      (set_at (take n l) (get_or l n z) rest a n (length-take-le n l (omega arith)))

  -- an element of a front
  pub front_at : (l rest : List A) (n i : ℕ) (z : A) → i < n → n ≤ length l → get_or (take n l ++ rest) i z ≡ get_or l i z
  front_at l rest n i z h k =
      get_or-append (take n l) rest z i (omega (arith, length-take-le n l k)) ∙ get_or-take n l i z h

  -- the elements from place t to place n moved up by d places
  abbrev pub shifted_from : ℕ → List A → ℕ → ℕ → List A
  shifted_from d o n t = take (t + d) o ++ (take (n - t) (drop t o) ++ drop (n + d) o)

  pub shift_start : (d : ℕ) (o : List A) (n : ℕ) → o ≡ shifted_from d o n n
  shift_start d o n = let z : n - n ≡ 0 = omega arith in rw z (sym (take-append-drop (n + d) o))

  -- one more of them: that of place t
  pub shift_more : (d : ℕ) (o : List A) (n t : ℕ) (z : A) → 1 ≤ d → t < n → n + d ≤ length o
      → set (shifted_from d o n (t + 1)) (t + d) (get_or (shifted_from d o n (t + 1)) t z) ≡ shifted_from d o n t
  shift_more d o n t z low l long =
      let e : t + 1 + d ≡ t + d + 1 = omega arith in
      let m : n - t ≡ suc (n - (t + 1)) = omega arith in
      let f : suc t ≡ t + 1 = omega arith in
      let rest = take (n - (t + 1)) (drop (t + 1) o) ++ drop (n + d) o in
      ap (set (shifted_from d o n (t + 1)) (t + d)) (front_at o rest (t + 1 + d) t z (omega arith) (omega arith))
      ∙ ap (λ (k : ℕ). set (take k o ++ rest) (t + d) (get_or o t z)) e
      ∙ set_last o rest (t + d) (get_or o t z) z (omega arith)
      ∙ rw (m, drop-cons o t z (omega arith), f)

  -- by one place
  pub shift_one : (o : List A) (n t : ℕ) (z : A) → 0 < t → t ≤ n → n < length o
      → set (shifted_from 1 o n t) t (get_or (shifted_from 1 o n t) (t - 1) z) ≡ shifted_from 1 o n (t - 1)
  shift_one o n t z low l long =
      let e : t - 1 + 1 ≡ t = omega arith in
      ap (λ (k : ℕ). set (shifted_from 1 o n k) k (get_or (shifted_from 1 o n k) (t - 1) z)) (sym e)
      ∙ shift_more 1 o n (t - 1) z (omega arith) (omega arith) (omega arith)
