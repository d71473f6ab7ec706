-- What every pass over a checked book asks: that the book is accepted, its sizes, and its index, which has three numbers for each state.
-- Assumes nothing.
use Rattle.std.specs.Prelude.{◌≡◌, List, ℕ, ◌+◌, ◌<◌, ℤ, pos, nat_abs, length, get_or}
use Rattle.model.specs.Model.{Words, first_state, state_count, stage, togo, action_count, state_line, action_line}
use Rattle.model.specs.Questions.{book_number}
use Rattle.book.specs.Read.{SizesAre}
use Rattle.book.specs.declared.Sizes.{Sizes}

abbrev pub NotBelow0 : ℤ → Type 0
NotBelow0 z = z ≡ pos (nat_abs z)

-- xs is the index of the states below n
pub record IndexTo (ws : Words) (n : ℕ) (xs : List ℕ) : Type 0 where
  pub long : length xs ≡ 192
  pub line : (p : ℕ) → p < n → get_or xs p 0 ≡ state_line ws p
  pub base : (p : ℕ) → p < n → get_or xs (64 + p) 0 ≡ first_state ws (stage ws p + 1)
  pub to_go_lem : (p : ℕ) → p < n → get_or xs (128 + p) 0 ≡ togo ws p

abbrev pub IndexOf : Words → List ℕ → Type 0
IndexOf ws xs = IndexTo ws (state_count ws) xs

-- the book is accepted, and these are its sizes
pub record Checked (ws : Words) (z : Sizes) : Type 0 where
  pub ok : book_number ws ≡ 0
  pub sizes : SizesAre ws z

-- and this is its index
pub record Indexed (ws : Words) (z : Sizes) (x : List ℕ) : Type 0 where
  pub checked : Checked ws z
  pub index : IndexOf ws x

-- state p has an action c, and its first line is line j
pub record ActionAt (ws : Words) (p c j : ℕ) : Type 0 where
  pub state : p < state_count ws
  pub action : c < action_count ws p
  pub line_is : j ≡ action_line ws p c
