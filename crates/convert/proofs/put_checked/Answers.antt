-- The book is made apart and asked its own questions, and then copied.
-- Assumes nothing.
use mathlib.Core.Path.{◌≡◌, sym, ap, ap₂, ◌∙◌}
use mathlib.Core.List.{List, ◌++◌}
use Prim.Native.Nat.{ℕ}
use native.Mathlib.Omega.{arith}
use lib.IntN.{ℤ}
use lib.ListN.{length, take, drop}
use Rattle.std.proofs.lemmas.Result.{err_from_is_err_and}
use Rattle.model.specs.Questions.{book_number}
use Rattle.refusal.specs.Refusal.{number_of}
use Rattle.reward_table.specs.Convert.{table_book, convert_number}
use Rattle.convert.proofs.Numbers.{of_book, table_passed, measured, over-front, kept, long_given, book_given}
use Rattle.convert.proofs.put_checked.Goals as goal
use Rattle.convert.proofs.put_checked.Goals.{After-put_book, After-from_residual, After-copy_from_slice}

-- the book is as long as was measured, and stands at the front
long : (c : goal.After-put_book) → length (table_book c.args.t.now) ≡ c.args.s.length
long c = measured (table_passed _ c.requires.0 c.requires.1) c.requires.2

front : (c : goal.After-put_book) → take c.args.s.length c.put_book.new.out ≡ table_book c.args.t.now
front c = ap (take c.args.s.length) c.put_book.ensures ∙ over-front (table_book c.args.t.now) c.args.book.now _ (long c)

-- the number of the book is that of the call
number : (c : goal.After-put_book) → {n : ℕ} → n ≡ book_number (take c.args.s.length c.put_book.new.out) → n ≡ convert_number c.args.t.now (length c.args.out.now)
number c e = of_book _ _ c.requires.0 (omega (arith, long c, c.requires.4)) (e ∙ ap book_number (front c))

pub put_book-requires : goal.put_book-requires
put_book-requires c = (table_passed _ c.requires.0 c.requires.1, c.requires.2, c.requires.3)

refused : (c : goal.After-from_residual) → number_of c.in_err-check.field-0.0 ≡ convert_number c.args.t.now (length c.args.out.now)
refused c = number (goal.at.returns-in_err-check-clause-number c).After-put_book c.in_err-check.ensures

pub returns-in_err-check-clause-number : goal.returns-in_err-check-clause-number
returns-in_err-check-clause-number c =
    let p = err_from_is_err_and c.from_residual.result c.from_residual.ensures.1 in
    rw (p.1, p.2) (refused c)

pub returns-in_err-check-clause-book : goal.returns-in_err-check-clause-book
returns-in_err-check-clause-book c = kept _ _ c.in_err-check.field-0.0 (refused c)

pub returns-clause-number : goal.returns-clause-number
returns-clause-number c = number (goal.at.returns-clause-number c).After-put_book c.in_ok-check.ensures

pub returns-clause-long : goal.returns-clause-long
returns-clause-long c =
    let d = (goal.at.returns-clause-long c).After-put_book in
    long_given c.args.t.now c.args.out.now (number d c.in_ok-check.ensures) c.args.s.length (sym (long d))

pub returns-clause-book : goal.returns-clause-book
returns-clause-book c =
    let d = (goal.at.returns-clause-book c).After-put_book in
    book_given c.args.t.now c.args.out.now (number d c.in_ok-check.ensures) _
    (ap₂ (λ (xs : List ℤ) (n : ℕ). xs ++ drop n c.args.out.now) (c.copy_from_slice.ensures.after ∙ front d) (sym (long d)))
