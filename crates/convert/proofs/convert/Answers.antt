-- The questions of the table in order, and of the book's sizes.
-- Assumes nothing.
use mathlib.Core.Path.{◌≡◌, sym}
use native.Mathlib.Omega.{arith}
use lib.ListN.{length}
use Rattle.std.proofs.lemmas.Result.{err_from_is_err_and}
use Rattle.model.specs.Questions.{first_no}
use Rattle.refusal.specs.Refusal.{number_of, some_number}
use Rattle.refusal.specs.declared.Refusal.TheVariants.{LineCount, StageSizes, BookRoom}
use Rattle.reward_table.specs.Table.{table_questions}
use Rattle.reward_table.specs.Convert.{table_book, convert_number}
use Rattle.table_book.specs.Read.{Passed}
use Rattle.convert.proofs.Numbers.{too_many_lines, too_many_states, of_table, of_room, of_book, table_given, table_passed, measured, short, kept}
use Rattle.convert.proofs.convert.Goals as goal
use Rattle.convert.proofs.convert.Goals.{After-from_residual, In_ok-table_number, After-measure-s}

-- refused by the table's questions
refused : (c : goal.After-from_residual) → number_of c.in_err-table_number.field-0.0 ≡ convert_number c.args.t.now (length c.args.out.now)
refused c = of_table _ _ c.in_err-table_number.ensures (some_number c.in_err-table_number.field-0.0)

pub returns-in_err-table_number-clause-number : goal.returns-in_err-table_number-clause-number
returns-in_err-table_number-clause-number c =
    let p = err_from_is_err_and c.from_residual.result c.from_residual.ensures.1 in
    rw (p.1, p.2) (refused c)

pub returns-in_err-table_number-clause-book : goal.returns-in_err-table_number-clause-book
returns-in_err-table_number-clause-book c = kept _ _ c.in_err-table_number.field-0.0 (refused c)

-- past them
ok : (c : goal.In_ok-table_number) → first_no table_questions c.args.t.now ≡ 0
ok c = sym c.in_ok-table_number.ensures

pub read_table-z-requires : goal.read_table-z-requires
read_table-z-requires c = table_given _ (ok c)

pub measure-s-requires : goal.measure-s-requires
measure-s-requires c = table_passed _ (ok (goal.at.measure-s-requires c).In_ok-table_number) c.read_table-z.ensures

passed : (c : goal.After-measure-s) → Passed c.args.t.now c.read_table-z.result
passed c = table_passed _ (sym c.in_ok-table_number.ensures) c.read_table-z.ensures

long : (c : goal.After-measure-s) → length (table_book c.args.t.now) ≡ c.measure-s.result.length
long c = measured (passed c) c.measure-s.ensures

-- refused by the room, or by the sizes of the book
no_room : (c : goal.Then-out-s) → 27 ≡ convert_number c.args.t.now (length c.args.out.now)
no_room c =
    let d = (goal.at.returns-then-out-s-clause-number c).After-measure-s in
    of_room _ _ (sym c.in_ok-table_number.ensures) (omega (arith, long d))

pub returns-then-out-s-clause-number : goal.returns-then-out-s-clause-number
returns-then-out-s-clause-number c = no_room c

pub returns-then-out-s-clause-book : goal.returns-then-out-s-clause-book
returns-then-out-s-clause-book c = kept _ _ BookRoom (no_room c)

many_lines : (c : goal.Then-s-gt2048) → 4 ≡ convert_number c.args.t.now (length c.args.out.now)
many_lines c =
    let d = (goal.at.returns-then-s-gt2048-clause-number c).After-measure-s in
    let p = passed d in
    of_book _ _ (sym c.in_ok-table_number.ensures) (omega (arith, long d))
    (too_many_lines _ p.given p.lines (omega (arith, c.measure-s.ensures.lines_is)))

pub returns-then-s-gt2048-clause-number : goal.returns-then-s-gt2048-clause-number
returns-then-s-gt2048-clause-number c = many_lines c

pub returns-then-s-gt2048-clause-book : goal.returns-then-s-gt2048-clause-book
returns-then-s-gt2048-clause-book c = kept _ _ LineCount (many_lines c)

many_states : (c : goal.Then-s-gt64) → 6 ≡ convert_number c.args.t.now (length c.args.out.now)
many_states c =
    let d = (goal.at.returns-then-s-gt64-clause-number c).After-measure-s in
    let p = passed d in
    let q = c.measure-s.ensures in
    of_book _ _ (sym c.in_ok-table_number.ensures) (omega (arith, long d))
    (too_many_states _ p.given p.lines (omega (arith, q.lines_is)) (omega (arith, q.states_is)))

pub returns-then-s-gt64-clause-number : goal.returns-then-s-gt64-clause-number
returns-then-s-gt64-clause-number c = many_states c

pub returns-then-s-gt64-clause-book : goal.returns-then-s-gt64-clause-book
returns-then-s-gt64-clause-book c = kept _ _ StageSizes (many_states c)

pub put_checked-requires-else-s-le512 : goal.put_checked-requires-else-s-le512
put_checked-requires-else-s-le512 c =
    let d = (goal.at.put_checked-requires-else-s-le512 c).After-measure-s in
    let s = short (passed d) c.measure-s.ensures (omega arith) (omega arith) in
    (sym c.in_ok-table_number.ensures, c.read_table-z.ensures, c.measure-s.ensures, omega (arith, s), omega arith)
