-- The lines of the page as they are written from a list, and that they are those of the ranking.
-- Assumes nothing.
use Rattle.std.specs.Prelude.{◌≡◌, pos, take, drop, get_or}
use Rattle.std.proofs.Math.Path.{refl, sym, ap, ap₂}
use Rattle.std.proofs.Common.{◌∙◌, zero-add, arith, take_all}
use mathlib.Core.List.{List, [], ◌∷◌, ◌++◌, append_assoc, append-nil}
use Rattle.std.proofs.Math.Option.{some}
use Prim.Native.Nat.{ℕ, zero, suc, ◌+◌, ◌*◌, ◌≤◌, ◌<◌}
use Rattle.std.proofs.Math.ListN.{length, get_elem?}
use Rattle.std.proofs.Math.Seq.{length-take-le}
use Rattle.model.specs.Model.{Words}
use Rattle.model.specs.Questions.{book_number}
use Rattle.model.specs.Policy.{Policy}
use Rattle.model.specs.Order.{ranking}
use Rattle.model.specs.Page.{decimal, policy_line, policy_lines}
use Rattle.laws.specs.Entries.{some_at}
use Rattle.laws.specs.Sorting.{at_in}
use Rattle.text.specs.Text.{line_text}
use Rattle.record.specs.declared.Listing.{Listing}
use Rattle.record.specs.Listed.{Listed}
use Rattle.record.specs.Entries.{entry_cost, entry_bytes}

-- the title, of any three numbers
abbrev pub title_text : ℕ → ℕ → ℕ → List ℕ
title_text n k scale =
    decimal n ++ (32 ∷ 111 ∷ 102 ∷ 32 ∷ []) ++ decimal k
    ++ (44 ∷ 32 ∷ 115 ∷ 99 ∷ 97 ∷ 108 ∷ 101 ∷ 32 ∷ []) ++ decimal scale ++ (10 ∷ [])

-- the first n lines
abbrev pub array_lines : Listing → ℕ → List ℕ
array_lines l zero = []
array_lines l (suc n) = array_lines l n ++ line_text (suc n) (get_or l.costs n (pos 0)) (take l.s (drop (n * l.s) l.plans))

-- ---- entries of lists

module _ {A : Type 0} where
  take_snoc : (xs : List A) (j : ℕ) (x : A) → get_elem? xs j ≡ some x → take (suc j) xs ≡ take j xs ++ (x ∷ [])
  take_snoc [] j x e = absurd (at_in [] j x e)
  take_snoc (y ∷ ys) zero x e = let s : y ≡ x = cc in rw s
  take_snoc (y ∷ ys) (suc j) x e = ap (λ (zs : List A). y ∷ zs) (take_snoc ys j x e)

-- ---- the lines of a list of policies

lines_snoc : (ws : Words) (r : ℕ) (ps : List Policy) (p : Policy)
    → policy_lines ws r (ps ++ (p ∷ [])) ≡ policy_lines ws r ps ++ policy_line ws (length ps + r) p
unfolding policy_lines
lines_snoc ws r [] p = append-nil (policy_line ws r p) ∙ ap (λ (m : ℕ). policy_line ws m p) (sym (zero-add r))
lines_snoc ws r (q ∷ ps) p =
    let m : length ps + suc r ≡ suc (length ps) + r = omega arith in
    ap (λ (t : List ℕ). policy_line ws r q ++ t) (lines_snoc ws (suc r) ps p ∙ ap (λ (x : ℕ). policy_lines ws (suc r) ps ++ policy_line ws x p) m)
    ∙ sym (append_assoc (policy_line ws r q) (policy_lines ws (suc r) ps) (policy_line ws (suc (length ps) + r) p))

module _ (ws : Words) (ok : book_number ws ≡ 0) (k : ℕ) (l : Listing) (h : Listed ws k l) where
  one_line : (j : ℕ) (p : Policy) → j < l.n → get_elem? (ranking ws k) j ≡ some p
      → line_text (suc j) (get_or l.costs j (pos 0)) (take l.s (drop (j * l.s) l.plans)) ≡ policy_line ws (suc j) p
  unfolding policy_line
  one_line j p i e = ap₂ (line_text (suc j)) (entry_cost ws ok k l h j p e i) (entry_bytes ws ok k l h j p e)

  up_to : (j : ℕ) → j ≤ l.n → array_lines l j ≡ policy_lines ws 1 (take j (ranking ws k))
  unfolding policy_lines
  up_to zero i = refl
  up_to (suc j) i =
      let e = some_at (ranking ws k) j (omega (arith, h.count)) in
      let rank : length (take j (ranking ws k)) + 1 ≡ suc j = omega (arith, length-take-le j (ranking ws k) (omega (arith, h.count))) in
      ap₂ ◌++◌ (up_to j (omega arith)) (one_line j e.0 (omega arith) e.1 ∙ ap (λ (r : ℕ). policy_line ws r e.0) (sym rank))
      ∙ sym (lines_snoc ws 1 (take j (ranking ws k)) e.0)
      ∙ ap (policy_lines ws 1) (sym (take_snoc (ranking ws k) j e.0 e.1))

  pub lines_are : array_lines l l.n ≡ policy_lines ws 1 (ranking ws k)
  lines_are = up_to l.n (omega arith) ∙ ap (policy_lines ws 1) (take_all l.n (ranking ws k) (omega (arith, h.count)))
