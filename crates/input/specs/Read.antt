-- What is read of a program's input: K and the book.
-- Assumes nothing.
use Rattle.std.specs.Prelude.{◌≡◌, Bool, true, false, cond, List, ℕ, ◌≤◌, length, take}
use Rattle.std.proofs.Common.{arith}
use Rattle.model.specs.Model.{Words}
use Rattle.model.specs.Record.{asked_number}
use Rattle.model.specs.Page.{most_input, whole_words, input_count, input_book, input_number}
use Rattle.input.specs.declared.Input.{Input}

-- the words of the book
abbrev pub book : Input → Words
book q = take q.n q.words

module _ (input : List ℕ) (q : Input) where
  -- what is asked of both is asked of the input; K and the book are known where no question is answered no
  pub record Read : Type 0 where
    pub inside : q.n ≤ length q.words
    -- it follows, and stands here since a part `&words[..n]` asks for it
    pub counted : q.n ≡ length (book q)
    pub number : asked_number (book q) q.k ≡ input_number input
    pub count : input_number input ≡ 0 → q.k ≡ input_count input
    pub words : input_number input ≡ 0 → book q ≡ input_book input

-- what is not refused passes the questions 1 to 14 and 28
pub passes : (input : List ℕ) → input_number input ≡ 0 → asked_number (input_book input) (input_count input) ≡ 0
unfolding input_number
passes input e = go (whole_words (take most_input input)) e
  where
    go : (b : Bool) → cond b (asked_number (input_book input) (input_count input)) 1 ≡ 0 → asked_number (input_book input) (input_count input) ≡ 0
    go true z = z
    go false z = absurd (omega (arith, z))
