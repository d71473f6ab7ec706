-- What follows the first 82,234 bytes changes no line: a program need not read it.
-- Assumes nothing.
use Rattle.std.specs.Prelude.{◌≡◌, List, [], ◌∷◌, ℕ, ◌+◌, ◌≤◌, drop}
use Rattle.std.proofs.Math.Path.{ap, ap₂}
use Rattle.std.proofs.Common.{◌∙◌, arith, get_or-take}
use Rattle.std.proofs.Math.ListN.{take}
use Rattle.model.specs.Bytes.{from_bytes}
use Rattle.model.specs.Limit.{limit_of}
use Rattle.model.specs.Page.{most_input, input_count, input_book, input_number, mark_count, input_limit, after_marks, marks_number, limit_line}
use Rattle.bytes_io.proofs.Numbers.{Bytes, bytes_drop}
use Rattle.input.specs.Ahead.{front-part}

-- m, two bytes that say how many marks there are, at most 65,535 marks, and the bytes that count of K and a book
abbrev pub most_limit : ℕ
most_limit = 82234

module _ (x y : List ℕ) (l : input_limit x ≡ input_limit y) (a : take most_input (after_marks x) ≡ take most_input (after_marks y)) where
  same : limit_line x ≡ limit_line y
  unfolding limit_line marks_number input_number input_count input_book
  same = rw (l, a)

-- what two bytes can say
two_below : (bs : List ℕ) → Bytes bs → from_bytes (take 2 bs) ≤ 65535
two_below [] h = omega arith
two_below (b ∷ []) h = omega (arith, h.0)
two_below (b ∷ c ∷ bs) h = omega (arith, h.0, h.1.0)

module _ (input : List ℕ) (bytes : Bytes input) where
  abbrev n : ℕ
  n = mark_count input

  abbrev front : List ℕ
  front = take most_limit input

  below : n ≤ 65535
  unfolding mark_count
  below = two_below (drop 1 input) (bytes_drop 1 input bytes)

  count : mark_count front ≡ n
  unfolding mark_count
  count = ap from_bytes (front-part 2 1 most_limit input (omega arith))

  limit : input_limit front ≡ input_limit input
  unfolding input_limit
  limit =
      ap₂ limit_of (ap (λ (m : ℕ). take m (drop 3 front)) count ∙ front-part n 3 most_limit input (omega (arith, below)))
      (get_or-take most_limit input 0 0 (omega arith))

  after : take most_input (after_marks front) ≡ take most_input (after_marks input)
  unfolding after_marks
  after = ap (λ (m : ℕ). take most_input (drop (3 + m) front)) count ∙ front-part most_input (3 + n) most_limit input (omega (arith, below))

  pub same_line : limit_line front ≡ limit_line input
  same_line = same front input limit after
