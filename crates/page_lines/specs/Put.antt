-- A text at the front of a lent slice that has enough places, nothing in a shorter one; the line of a refusal in place of what is due; and the text of an
-- answer.
-- Assumes nothing.
use Rattle.std.specs.Prelude.{◌≡◌, refl, Bool, List, ℕ, zero, suc, ◌≤◌, ◌<◌, leb, eqb, take, drop}
use Rattle.std.proofs.Common.{sym, ◌∙◌, zero-add, arith, length-take-le}
use Rattle.std.proofs.Math.Path.{ap}
use Rattle.std.proofs.Math.Bool.{true, false, cond}
use borrow.Author.Tests.{le-leb, lt-leb, eq-eqb, ne_eqb}
use Rattle.std.proofs.Math.ListN.{length, length-append}
use Rattle.model.specs.Calls.{over}
use Rattle.model.specs.Page.{refused_line, or_refused, put_length, put_slice}
use Rattle.bytes_io.proofs.Parts.{written-front}
use Rattle.text.specs.Text.{Appended}

-- text t is put to the front of a slice, for which `most` places are needed: r is what is given, and out' the slice afterwards
pub record Put (most : ℕ) (t out out' : List ℕ) (r : ℕ) : Type 0 where
  pub long : r ≡ put_length most t (length out)
  pub slice : out' ≡ put_slice most t out
  -- both follow; they stand here since a part `&out[..r]` asks for them
  pub inside : r ≤ length out'
  pub counted : r ≡ length (take r out')

module _ (most : ℕ) (t out : List ℕ) where
  inside_of : {out' : List ℕ} {r : ℕ} → r ≡ put_length most t (length out) → out' ≡ put_slice most t out → r ≤ length out'
  unfolding put_length put_slice
  inside_of {out'} {r} e s = go (leb most (length out)) e s
    where
      go : (b : Bool) → r ≡ cond b (length t) 0 → out' ≡ cond b (over t out) out → r ≤ length out'
      go true e s = omega (arith, e, ap length s, length-append t (drop (length t) out))
      go false e s = omega (arith, e)

  given : {out' : List ℕ} {r : ℕ} → r ≡ put_length most t (length out) → out' ≡ put_slice most t out → Put most t out out' r
  given {out'} {r} e s = let i = inside_of e s in record { long = e; slice = s; inside = i; counted = sym (length-take-le r out' i) }

  -- a slice that may be too short gets nothing
  pub too_short : length out < most → Put most t out out 0
  unfolding put_length put_slice
  too_short h = given (rw (lt-leb most (length out) h)) (rw (lt-leb most (length out) h))

  pub put : {out' : List ℕ} {r : ℕ} → most ≤ length out → r ≡ length t → out' ≡ over t out → Put most t out out' r
  unfolding put_length put_slice
  put h e o = given (rw (le-leb most (length out) h) e) (rw (le-leb most (length out) h) o)

-- where a question is answered no, the line of its refusal; where none is, what is due
module _ {most n : ℕ} (due : List ℕ) {out : List ℕ} (h : most ≤ length out) where
  pub put_refused : (m : ℕ) {out' : List ℕ} {r : ℕ} → m ≡ n → (m ≡ 0 → ⊥) → Appended out 0 (refused_line m) out' r → Put most (or_refused n due) out out' r
  put_refused zero e i a = absurd (i refl)
  put_refused (suc m) e i a =
      let line = refused_line (suc m) in
      rw (← e) (put most line out h (a.end ∙ zero-add (length line)) (a.text ∙ written-front out (length line) line refl))

  pub put_due : {out' : List ℕ} {r : ℕ} → n ≡ 0 → r ≡ length due → out' ≡ over due out → Put most (or_refused n due) out out' r
  put_due e l o = rw e (put most due out h l o)

  pub put_text : {out' : List ℕ} {r : ℕ} → n ≡ 0 → Appended out 0 due out' r → Put most (or_refused n due) out out' r
  put_text e a = put_due e (a.end ∙ zero-add (length due)) (a.text ∙ written-front out (length due) due refl)

-- the text of a number, and where it is 0 what is due
module _ (n : ℕ) (due : List ℕ) where
  pub is_refused : (n ≡ 0 → ⊥) → refused_line n ≡ or_refused n due
  is_refused h = go n h
    where
      go : (m : ℕ) → (m ≡ 0 → ⊥) → refused_line m ≡ or_refused m due
      go zero i = absurd (i refl)
      go (suc m) i = refl

  pub is_due : n ≡ 0 → due ≡ or_refused n due
  is_due e = rw e

-- the same number, and where it is 0 the same text
pub put_same : {most m n : ℕ} {due due' out out' : List ℕ} {r : ℕ} → m ≡ n → (n ≡ 0 → due ≡ due') → Put most (or_refused m due) out out' r
    → Put most (or_refused n due') out out' r
put_same {n = zero} e d p = rw (e, d refl) at p
put_same {n = suc n} e d p = rw e at p

-- the text of an answer, of those of the answers 1, 2 and 3
unfoldable pub one_of : ℕ → List ℕ → List ℕ → List ℕ → List ℕ
one_of a t u v = cond (eqb a 1) t (cond (eqb a 2) u v)

module _ (a : ℕ) (t u v : List ℕ) where
  pub first_of : a ≡ 1 → t ≡ one_of a t u v
  unfolding one_of
  first_of e = rw (eq-eqb a 1 e)

  pub second_of : (a ≡ 1 → ⊥) → a ≡ 2 → u ≡ one_of a t u v
  unfolding one_of
  second_of h e = rw (ne_eqb a 1 h, eq-eqb a 2 e)

  pub third_of : (a ≡ 1 → ⊥) → (a ≡ 2 → ⊥) → v ≡ one_of a t u v
  unfolding one_of
  third_of h i = rw (ne_eqb a 1 h, ne_eqb a 2 i)

  -- it is no longer than the longest
  pub length_of : {most : ℕ} → length t ≤ most → length u ≤ most → length v ≤ most → length (one_of a t u v) ≤ most
  unfolding one_of
  length_of {most} h i j = go (eqb a 1) (eqb a 2)
    where
      go : (b c : Bool) → length (cond b t (cond c u v)) ≤ most
      go true c = h
      go false true = i
      go false false = j
