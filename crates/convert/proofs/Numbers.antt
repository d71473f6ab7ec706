-- A book that is too large to be made is refused by its sizes; any other that a table gives is no longer than the longest book.
-- Assumes nothing.
use mathlib.Core.Path.{◌≡◌, sym, ap, ap₂, ◌∙◌}
use mathlib.Core.List.{List}
use mathlib.Core.Bool.{true, false, ◌&&◌}
use Prim.Native.Nat.{ℕ, ◌+◌, ◌*◌, ◌≤◌, ◌<◌}
use native.Mathlib.Omega.{arith}
use borrow.Author.Tests.{le-leb, lt-leb}
use lib.Dec.{leb}
use lib.IntN.{ℤ, pos, nat_abs}
use lib.ListN.{length, take, drop}
use lib.Seq.{take_at}
use Rattle.model.specs.Lists.{all}
use Rattle.model.specs.Model.{Words, word, horizon, state_count}
use Rattle.model.specs.Questions.{first_no, inside, later_size, sizes_allowed, size_questions, book_number}
use Rattle.model.specs.Calls.{over}
use Rattle.questions.specs.Ranges.{and_right}
use Rattle.questions.specs.FirstNo.{AllYes, fails, passes, passed, none}
use Rattle.questions.specs.Answers.{stops, goes_on, leaves, gives}
use Rattle.refusal.specs.Refusal.{number_of, some_number}
use Rattle.refusal.specs.declared.Refusal.{Refusal}
use Rattle.check_book.proofs.Numbers.{of_sizes}
use Rattle.reward_table.specs.Table.{table_scale, table_horizon, table_states, lines_given, table_questions}
use Rattle.reward_table.specs.Read.{Given, TableRead}
use Rattle.reward_table.specs.declared.Table.{Table}
use Rattle.reward_table.specs.Says.{given_says}
use Rattle.reward_table.specs.Convert.{table_book, convert_number, convert_length, convert_slice}
use Rattle.table_book.specs.Columns.{book_lines}
use Rattle.table_book.specs.Read.{Passed, Made}
use Rattle.table_book.specs.declared.Sizes.{Sizes}
use Rattle.table_book.proofs.Book.{book-scale, book-horizon, book_lines_lem, book-states, book_long}

within : (lo hi x : ℕ) → lo ≤ x → x ≤ hi → inside (pos lo) (pos hi) (pos x) ≡ true
within lo hi x h k = rw (le-leb lo x h, le-leb x hi k)

above : (lo hi x : ℕ) → hi < x → inside (pos lo) (pos hi) (pos x) ≡ false
above lo hi x h = rw (lt-leb x hi h) (and_right (leb lo x))

module _ (t : Words) (given : Given t) (ok : lines_given t ≡ true) where
  abbrev ws : Words
  ws = table_book t

  long : length ws ≡ 4 + table_horizon t + (1 + table_horizon t * table_states t) + 2 * book_lines t
  long = book_long t given ok

  lines_some : 1 ≤ book_lines t
  unfolding book_lines
  lines_some = omega (arith, given.n_low)

  -- the questions 1 to 3
  past3 : first_no size_questions ws ≡ first_no (drop 3 size_questions) ws
  past3 =
      passes ws _ _ (le-leb 3 (length ws) (omega (arith, long)))
      ∙ passes ws _ _ (ap (inside (pos 1) (pos 100)) (book-scale t given ok) ∙ within 1 100 (table_scale t) given.d_low given.d_high)
      ∙ passes ws _ _ (ap (inside (pos 1) (pos 8)) (book-horizon t given ok) ∙ within 1 8 (table_horizon t) given.h_low given.h_high)

  by_sizes : (n : ℕ) → 0 < n → first_no size_questions ws ≡ n → book_number ws ≡ n
  by_sizes n l e = of_sizes ws (λ z. omega arith) ∙ e

  pub too_many_lines : 2048 < book_lines t → 4 ≡ book_number ws
  too_many_lines h =
      sym (by_sizes 4 (omega arith) (past3 ∙ fails ws _ _ (ap (inside (pos 1) (pos 2048)) (book_lines_lem t given ok) ∙ above 1 2048 (book_lines t) h)))

  horizon_is : horizon ws ≡ table_horizon t
  unfolding horizon
  horizon_is = ap nat_abs (book-horizon t given ok)

  pub too_many_states : book_lines t ≤ 2048 → 64 < 1 + table_horizon t * table_states t → 6 ≡ book_number ws
  unfolding sizes_allowed
  too_many_states l h =
      sym
      (by_sizes 6 (omega arith)
      (past3
      ∙ passes ws _ _ (ap (inside (pos 1) (pos 2048)) (book_lines_lem t given ok) ∙ within 1 2048 (book_lines t) lines_some l)
      ∙ passes ws _ _ (le-leb (4 + horizon ws) (length ws) (omega (arith, long, horizon_is)))
      ∙ fails ws _ _ (rw (lt-leb (state_count ws) 64 (omega (arith, book-states t given ok, h)))
      (and_right (inside (pos 1) (pos 1) (word ws 3) && all (horizon ws) (later_size ws))))))

-- ---- the number of the call, and what goes with it

module _ (t : Words) (room : ℕ) where
  pub of_table : {n : ℕ} → n ≡ first_no table_questions t → (n ≡ 0 → ⊥) → n ≡ convert_number t room
  unfolding convert_number
  of_table e h = stops e _ h

  module _ (ok : first_no table_questions t ≡ 0) where
    pub of_room : room < length (table_book t) → 27 ≡ convert_number t room
    unfolding convert_number
    of_room h = goes_on ok (stops (sym (fails room _ _ (lt-leb (length (table_book t)) room h))) _ (λ z. omega arith))

    pub of_book : length (table_book t) ≤ room → {n : ℕ} → n ≡ book_number (table_book t) → n ≡ convert_number t room
    unfolding convert_number
    of_book h e = goes_on ok (goes_on (passes room _ _ (le-leb (length (table_book t)) room h) ∙ none room) e)

-- what the table's questions leave
module _ (t : Words) (ok : first_no table_questions t ≡ 0) where
  yes_all : AllYes table_questions t
  yes_all = passed t table_questions (omega arith) ok

  pub table_given : Given t
  table_given = given_says t yes_all.0

  pub table_lines_lem : lines_given t ≡ true
  table_lines_lem = yes_all.1.0

  pub table_passed : {z : Table} → TableRead t z → Passed t z
  table_passed are = record { given = table_given; read = are; lines = table_lines_lem }

-- the book is as long as was measured; one that is not too large has room among the words of the longest book
module _ {t : Words} {z : Table} {s : Sizes} (p : Passed t z) (made : Made t s) where
  pub measured : length (table_book t) ≡ s.length
  measured =
      book_long t p.given p.lines
      ∙ sym (made.length_is ∙ ap₂ (λ (x y : ℕ). 4 + table_horizon t + x + 2 * y) made.states_is made.lines_is)

  pub short : s.lines ≤ 2048 → s.states ≤ 64 → s.length ≤ 4172
  short h k = omega (arith, made.length_is, p.given.h_high)

-- what goes with the number: a refusal leaves the slice, and success gives the length and the book
module _ (t : Words) (slice : List ℤ) where
  pub kept : (q : Refusal) → number_of q ≡ convert_number t (length slice) → slice ≡ convert_slice t slice
  unfolding convert_slice
  kept q e = leaves e (some_number q) _ slice

  module _ (ok : 0 ≡ convert_number t (length slice)) where
    pub long_given : (n : ℕ) → n ≡ length (table_book t) → n ≡ convert_length t (length slice)
    unfolding convert_length
    long_given n e = gives (sym ok) 0 e

    pub book_given : (after : List ℤ) → after ≡ over (table_book t) slice → after ≡ convert_slice t slice
    unfolding convert_slice
    book_given after e = gives (sym ok) slice e

-- a list over the front of another
pub over-front : (xs o : List ℤ) (n : ℕ) → length xs ≡ n → take n (over xs o) ≡ xs
over-front xs o n e = take_at xs (drop (length xs) o) n e
