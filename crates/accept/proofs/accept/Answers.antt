-- 19, then the carried book in an array, and what is asked of it.
-- Assumes nothing.
use mathlib.Core.Path.{◌≡◌, sym, ap, ◌∙◌}
use mathlib.Core.List.{List}
use Prim.Native.Nat.{ℕ, ◌≤◌}
use lib.IntN.{ℤ}
use native.Mathlib.Omega.{arith}
use lib.ListN.{length, take}
use lib.Seq.{length-take-le}
use Rattle.std.proofs.lemmas.Result.{err_from_is_err_and}
use Rattle.model.specs.Record.{carried_length, accept_number}
use Rattle.questions.specs.Answers.{stops}
use Rattle.refusal.specs.Refusal.{some_number}
use Rattle.record.specs.Passed.{RecordHead, head_says}
use Rattle.accept.proofs.accept.Goals as goal
use Rattle.accept.proofs.accept.Goals.{In_ok-head_number}

head : (c : goal.In_ok-head_number) → RecordHead c.args.r.now
head c = head_says _ (sym c.in_ok-head_number.ensures)

words : (r : List ℕ) {w : ℕ} (out : List ℤ) → RecordHead r → w ≡ carried_length r → length out ≡ 4172 → w ≤ length out
words r out h e long = omega (arith, h.words)

pub returns-in_err-head_number-clause-number : goal.returns-in_err-head_number-clause-number
unfolding accept_number
returns-in_err-head_number-clause-number c =
    let p = err_from_is_err_and c.from_residual.result c.from_residual.ensures.1 in
    rw (p.1, p.2) (stops c.in_err-head_number.ensures _ (some_number c.in_err-head_number.field-0.0))

pub carried_length-w-requires : goal.carried_length-w-requires
carried_length-w-requires c = (head (goal.at.carried_length-w-requires c).In_ok-head_number).long

pub slice_bounds-words-end : goal.slice_bounds-words-end
slice_bounds-words-end c = words _ c.read_book.new.out (head (goal.at.slice_bounds-words-end c).In_ok-head_number) c.carried_length-w.ensures.0 c.read_book.ensures.1

pub slice_bounds-accept_book-end : goal.slice_bounds-accept_book-end
slice_bounds-accept_book-end c =
    let h = words _ c.read_book.new.out (head (goal.at.slice_bounds-accept_book-end c).In_ok-head_number) c.carried_length-w.ensures.0 c.read_book.ensures.1 in
    sym (length-take-le c.carried_length-w.result c.read_book.new.out h)

pub accept_book-requires : goal.accept_book-requires
accept_book-requires c =
    (sym c.in_ok-head_number.ensures, ap (λ (n : ℕ). take n c.read_book.new.out) c.carried_length-w.ensures.0 ∙ c.read_book.ensures.0)
