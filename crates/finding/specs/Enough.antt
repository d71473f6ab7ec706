-- What follows the first 16,952 bytes changes no line: a program need not read it.
-- Assumes nothing.
use Rattle.std.specs.Prelude.{◌≡◌, List, ℕ, ◌+◌, ◌≤◌, drop, get_or}
use Rattle.std.proofs.Math.Path.{ap}
use Rattle.std.proofs.Common.{◌∙◌, arith, get_or-take}
use Rattle.std.proofs.Math.ListN.{take}
use Rattle.model.specs.Page.{most_input, input_count, input_book, input_number, input_plan, after_plan, plan_number, plan_line}
use Rattle.input.specs.Ahead.{front-part}

-- the length of a plan, at most 255 bytes of it, and the bytes that count of K and a book
abbrev pub most_find : ℕ
most_find = 16952

module _ (x y : List ℕ) (p : input_plan x ≡ input_plan y) (a : take most_input (after_plan x) ≡ take most_input (after_plan y)) where
  same : plan_line x ≡ plan_line y
  unfolding plan_line plan_number input_number input_count input_book
  same = rw (p, a)

-- the first number is a byte's
module _ (input : List ℕ) (byte : get_or input 0 0 ≤ 255) where
  abbrev n : ℕ
  n = get_or input 0 0

  abbrev front : List ℕ
  front = take most_find input

  first : get_or front 0 0 ≡ n
  first = get_or-take most_find input 0 0 (omega arith)

  plan : input_plan front ≡ input_plan input
  unfolding input_plan
  plan = ap (λ (m : ℕ). take m (drop 1 front)) first ∙ front-part n 1 most_find input (omega (arith, byte))

  after : take most_input (after_plan front) ≡ take most_input (after_plan input)
  unfolding after_plan
  after = ap (λ (m : ℕ). take most_input (drop (1 + m) front)) first ∙ front-part most_input (1 + n) most_find input (omega (arith, byte))

  pub same_line : plan_line front ≡ plan_line input
  same_line = same front input plan after
