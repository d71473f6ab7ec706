-- No accepted record has more than 21,308 bytes, and what follows one byte more changes no answer: a program need not read it.
-- Assumes nothing.
use Rattle.std.specs.Prelude.{◌≡◌, Bool, cond, ℤ, length, take, drop}
use Rattle.std.proofs.Math.Path.{refl, ap, ap₂}
use Rattle.std.proofs.Common.{sym, ◌∙◌, mul-le-mul, arith, take-append-drop, take_all, length-take-le}
use Rattle.std.proofs.Math.Bool.{true, false}
use mathlib.Core.List.{List, ◌∷◌, ◌++◌}
use Prim.Native.Nat.{ℕ, zero, suc, ◌*◌, ◌≤◌, ◌<◌}
use borrow.Author.Tests.{leb-true, leb-false, le-leb}
use Rattle.std.proofs.Math.Dec.{leb}
use Rattle.std.proofs.Math.ListN.{length-drop}
use Rattle.std.proofs.Math.Seq.{take-append-le}
use Rattle.std.proofs.lemmas.List.{drop-append-le}
use Rattle.model.specs.Bytes.{from_bytes, signed, words_of}
use Rattle.model.specs.Model.{Words, state_count}
use Rattle.model.specs.Questions.{first_no, and_then}
use Rattle.model.specs.Record.{carried_length, carried_k, carried_count, carried_book, asked_number, head_questions, tail_questions, accept_number}
use Rattle.model.specs.Page.{or_refused, list_page, record_page, most_record}
use Rattle.questions.specs.FirstNo.{fails}
use Rattle.questions.specs.Answers.{goes_on}
use Rattle.accepted.specs.Facts.{accepted}
use Rattle.asked.specs.Asked.{Asked, asked_says}
use Rattle.record.specs.Passed.{RecordHead, RecordSizes, sizes_fit, sizes_say, head_passed, accept_says}

module _ (bs : List ℕ) where
  short : RecordHead bs → Asked (carried_book bs) (carried_k bs) → RecordSizes bs → length bs ≤ most_record
  short h a z =
      let n = carried_count bs in
      let s = state_count (carried_book bs) in
      let m : n ≤ 64 = omega (arith, z.most, a.high) in
      let p : n * s ≤ 4096 = mul-le-mul {n₁ = n} {m₁ = s} {n₂ = 64} {m₂ = 64} m (accepted (carried_book bs) a.ok).sizes.s_high in
      omega (arith, z.exact, h.words, m, p)

  -- "at most 21,308"
  pub longest : accept_number bs ≡ 0 → length bs ≤ most_record
  longest e = let a = accept_says bs e in short a.head a.asked a.sized

-- what accepting says of bytes that are too many, by what they carry
abbrev long_number : ℕ → Words → ℕ → ℕ
long_number w ws k = cond (leb w 4172) (and_then (asked_number ws k) 20) 19

module _ (bs : List ℕ) (l : most_record < length bs) where
  tail_no : RecordHead bs → Asked (carried_book bs) (carried_k bs) → first_no tail_questions bs ≡ 20
  tail_no h a = go (sizes_fit bs) refl
    where
      go : (b : Bool) → sizes_fit bs ≡ b → first_no tail_questions bs ≡ 20
      go true e = absurd (omega (arith, short bs h a (sizes_say bs e), l))
      go false e = fails bs _ _ e

  long_is : accept_number bs ≡ long_number (carried_length bs) (carried_book bs) (carried_k bs)
  unfolding accept_number
  long_is = go (leb (carried_length bs) 4172) refl
    where
      rest : RecordHead bs → (n : ℕ) → asked_number (carried_book bs) (carried_k bs) ≡ n → and_then n (first_no tail_questions bs) ≡ and_then n 20
      rest h zero z = tail_no h (asked_says _ _ z)
      rest h (suc n) z = refl

      go : (b : Bool) → leb (carried_length bs) 4172 ≡ b
          → accept_number bs ≡ cond b (and_then (asked_number (carried_book bs) (carried_k bs)) 20) 19
      go true e =
          let w : carried_length bs ≤ 4172 = leb-true (carried_length bs) 4172 e in
          let h : RecordHead bs = record { long = omega (arith, l); words = w; follow = omega (arith, l, w) } in
          sym (goes_on (head_passed bs h) (sym (rest h (asked_number (carried_book bs) (carried_k bs)) refl)))
      go false e =
          let i : 12 ≤ length bs = omega (arith, l) in
          let no : first_no head_questions bs ≡ 19 = fails bs _ _ (rw (le-leb 12 (length bs) i, e)) in
          rw no

-- ---- the front of the bytes

words-front : (n : ℕ) (xs ys : List ℕ) → 4 * n ≤ length xs → words_of n (xs ++ ys) ≡ words_of n xs
words-front zero xs ys h = refl
words-front (suc n) xs ys h =
    ap₂ (λ (four : List ℕ) (zs : List ℤ). signed (from_bytes four) ∷ zs) (take-append-le 4 xs ys (omega arith))
    (ap (words_of n) (drop-append-le 4 xs ys (omega arith)) ∙ words-front n (drop 4 xs) ys (rw length-drop (omega arith)))

module _ (xs ys : List ℕ) (l : most_record < length xs) where
  same_length : carried_length (xs ++ ys) ≡ carried_length xs
  unfolding carried_length
  same_length = ap from_bytes (take-append-le 4 xs ys (omega arith))

  same-k : carried_k (xs ++ ys) ≡ carried_k xs
  unfolding carried_k
  same-k =
      ap from_bytes (ap (take 4) (drop-append-le 4 xs ys (omega arith)) ∙ take-append-le 4 (drop 4 xs) ys (rw length-drop (omega arith)))

  same-book : carried_length xs ≤ 4172 → carried_book (xs ++ ys) ≡ carried_book xs
  unfolding carried_book
  same-book h =
      ap₂ words_of same_length (drop-append-le 12 xs ys (omega arith)) ∙ words-front (carried_length xs) (drop 12 xs) ys (rw length-drop (omega arith))

  same_answer : long_number (carried_length (xs ++ ys)) (carried_book (xs ++ ys)) (carried_k (xs ++ ys)) ≡ long_number (carried_length xs) (carried_book xs) (carried_k xs)
  same_answer = ap (λ (w : ℕ). long_number w (carried_book (xs ++ ys)) (carried_k (xs ++ ys))) same_length ∙ go (leb (carried_length xs) 4172) refl
    where
      go : (b : Bool) → leb (carried_length xs) 4172 ≡ b
          → cond b (and_then (asked_number (carried_book (xs ++ ys)) (carried_k (xs ++ ys))) 20) 19 ≡ cond b (and_then (asked_number (carried_book xs) (carried_k xs)) 20) 19
      go true e =
          ap₂ (λ (ws : Words) (k : ℕ). and_then (asked_number ws k) 20) (same-book (leb-true (carried_length xs) 4172 e)) same-k
      go false e = refl

-- ---- the bytes that a program reads

other : (n : ℕ) (a b : List ℕ) → (n ≡ 0 → ⊥) → or_refused n a ≡ or_refused n b
other zero a b h = absurd (h refl)
other (suc n) a b h = refl

module _ (bs : List ℕ) where
  abbrev front : List ℕ
  front = take (suc most_record) bs

  whole : length bs ≤ suc most_record → front ≡ bs
  whole h = take_all (suc most_record) bs h

  module _ (h : suc most_record < length bs) where
    front_long : length front ≡ suc most_record
    front_long = length-take-le (suc most_record) bs (omega (arith, h))

    cut : accept_number front ≡ accept_number bs
    cut =
        let l : most_record < length front = omega (arith, front_long) in
        let e = take-append-drop (suc most_record) bs in
        long_is front l ∙ sym (same_answer front (drop (suc most_record) bs) l)
        ∙ ap (λ (t : List ℕ). long_number (carried_length t) (carried_book t) (carried_k t)) e ∙ sym (long_is bs (omega (arith, h)))

  pub same_number : accept_number front ≡ accept_number bs
  same_number = go (leb (length bs) (suc most_record)) refl
    where
      go : (b : Bool) → leb (length bs) (suc most_record) ≡ b → accept_number front ≡ accept_number bs
      go true e = ap accept_number (whole (leb-true (length bs) (suc most_record) e))
      go false e = cut (leb-false (length bs) (suc most_record) e)

  pub same-page : record_page front ≡ record_page bs
  unfolding record_page
  same-page = go (leb (length bs) (suc most_record)) refl
    where
      go : (b : Bool) → leb (length bs) (suc most_record) ≡ b
          → or_refused (accept_number front) (list_page (carried_book front) (carried_k front)) ≡ or_refused (accept_number bs) (list_page (carried_book bs) (carried_k bs))
      go true e =
          ap (λ (t : List ℕ). or_refused (accept_number t) (list_page (carried_book t) (carried_k t))) (whole (leb-true (length bs) (suc most_record) e))
      go false e =
          let h = leb-false (length bs) (suc most_record) e in
          ap (λ (n : ℕ). or_refused n (list_page (carried_book front) (carried_k front))) same_number
          ∙ other (accept_number bs) _ _ (λ z. omega (arith, longest bs z, h))
