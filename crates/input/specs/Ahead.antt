-- K and a book after other bytes: where these end, what is asked of the book that was read after them, and that bytes beyond those that count change nothing.
-- Assumes nothing.
use Rattle.std.specs.Prelude.{◌≡◌, Bool, Option, Some, None, List, [], ◌∷◌, ℕ, zero, suc, ◌+◌, ◌-◌, ◌≤◌, ◌<◌, take, drop}
use Rattle.std.proofs.Math.Path.{refl}
use Rattle.std.proofs.Common.{ap, ap₂, ◌∙◌, arith, length-drop, drop_of_length-le, take_all, take-take}
use Rattle.std.proofs.Math.Bool.{true, false, cond}
use Rattle.std.proofs.Math.Numerals.{unary_clauses}
use borrow.Author.Tests.{leb-true, leb-false, le-leb, lt-leb}
use Rattle.std.proofs.Math.Dec.{leb}
use Rattle.std.proofs.Math.ListN.{length}
use Rattle.std.proofs.Math.Seq.{take-nil}
use Rattle.model.specs.Model.{Words}
use Rattle.model.specs.Questions.{and_then}
use Rattle.model.specs.Record.{asked_number}
use Rattle.model.specs.Page.{input_count, input_book, input_number}
use Rattle.questions.specs.FirstNo.{then_zero}
use Rattle.input.specs.declared.Input.{Input}
use Rattle.input.specs.Read.{Read, book}

-- the index n after the other bytes, if the input goes so far
unfoldable pub end_ahead : ℕ → List ℕ → Option ℕ
end_ahead n input = cond (leb n (length input)) (Some n) None

module _ (n : ℕ) (input : List ℕ) where
  pub cut_short : length input < n → None ≡ end_ahead n input
  unfolding end_ahead
  cut_short h = rw (lt-leb n (length input) h)

  pub whole : {e : ℕ} → e ≡ n → n ≤ length input → Some e ≡ end_ahead n input
  unfolding end_ahead
  whole i h = rw (le-leb n (length input) h, i)

  -- what an end says
  pub ends : {e : ℕ} → Some e ≡ end_ahead n input → (e ≡ n) × (e ≤ length input)
  unfolding end_ahead
  ends {e} i = go (leb n (length input)) refl i
    where
      go : (b : Bool) → leb n (length input) ≡ b → Some e ≡ cond b (Some n) None → (e ≡ n) × (e ≤ length input)
      go true t z = let k : e ≡ n = cc in (k, omega (arith, k, leb-true n (length input) t))
      go false t z = cc

  -- nothing follows bytes that are cut short
  pub nothing : (later : ℕ) → None ≡ end_ahead n input → 1 ≡ and_then (input_number (drop n input)) later
  unfolding end_ahead input_number
  nothing later i = go (leb n (length input)) refl i
    where
      go : (b : Bool) → leb n (length input) ≡ b → None ≡ cond b (Some n) None → 1 ≡ and_then (input_number (drop n input)) later
      go true t z = cc
      go false t z = rw (drop_of_length-le input {i = n} (omega (arith, leb-false n (length input) t)))

  pub rest-is : {e : ℕ} → e ≡ n → take (length input - e) (drop e input) ≡ drop n input
  rest-is {e} i = take_all (length input - e) (drop e input) (rw length-drop (omega arith)) ∙ ap (λ (m : ℕ). drop m input) i

-- the m bytes from index a on, which end at e
pub part_is : (a m : ℕ) {e : ℕ} (input : List ℕ) → e ≡ a + m → take (e - a) (drop a input) ≡ take m (drop a input)
part_is a m {e} input i = let l : e - a ≡ m = omega (arith, i) in ap (λ (n : ℕ). take n (drop a input)) l

-- a question after 1 to 14 and 28, and what is due where none is answered no: of the K and the book that were read, and of those of the input
module _ {rest : List ℕ} {q : Input} (h : Read rest q) (later : Words → ℕ) where
  pub later-number : and_then (asked_number (book q) q.k) (later (book q)) ≡ and_then (input_number rest) (later (input_book rest))
  later-number = ap (λ (n : ℕ). and_then n (later (book q))) h.number ∙ go (input_number rest) refl
    where
      go : (n : ℕ) → input_number rest ≡ n → and_then n (later (book q)) ≡ and_then n (later (input_book rest))
      go zero e = ap later (h.words e)
      go (suc n) e = refl

  pub later_due : (due : Words → ℕ → List ℕ) → and_then (input_number rest) (later (input_book rest)) ≡ 0
      → due (book q) q.k ≡ due (input_book rest) (input_count rest)
  later_due due z = let e = (then_zero (input_number rest) _ z).0 in ap₂ due (h.words e) (h.count e)

-- a part of the first `most`, which reaches as far, is that part of all
module _ {A : Type 0} where
  drop-take : (n m : ℕ) (xs : List A) → drop n (take (m + n) xs) ≡ take m (drop n xs)
  drop-take zero m xs = simp unary_clauses
  drop-take (suc n) m [] = simp take-nil
  drop-take (suc n) m (x ∷ xs) = simp unary_clauses (drop-take n m xs)

  pub front-part : (m n most : ℕ) (xs : List A) → n + m ≤ most → take m (drop n (take most xs)) ≡ take m (drop n xs)
  front-part m n most xs h =
      let e : most ≡ most - n + n = omega arith in
      ap (λ (l : ℕ). take m (drop n (take l xs))) e ∙ ap (take m) (drop-take n (most - n) xs) ∙ take-take m (most - n) (drop n xs) (omega arith)
