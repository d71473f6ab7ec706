-- Each return carries the first question that is answered no.
-- Assumes nothing.
use mathlib.Core.Path.{◌≡◌, sym, ◌∙◌}
use mathlib.Core.List.{[]}
use native.Mathlib.Omega.{arith}
use borrow.Author.Tests.{le-leb}
use Rattle.model.specs.Questions.{book_number}
use Rattle.questions.specs.FirstNo.{passes, none}
use Rattle.questions.specs.Answers.{stops, goes_on}
use Rattle.asked.specs.Asked.{counted_number}
use Rattle.std.proofs.lemmas.Result.{err_from_is_err_and}
use Rattle.refusal.specs.Refusal.{some_number}
use Rattle.asked.proofs.counted_number.Goals as goal
use Rattle.asked.proofs.counted_number.Goals.{In_ok-check}

good : (c : goal.In_ok-check) → book_number c.args.b.now ≡ 0
good c = sym c.in_ok-check.ensures

pub returns-in_err-check : goal.returns-in_err-check
unfolding counted_number
returns-in_err-check c =
    let p = err_from_is_err_and c.from_residual.result c.from_residual.ensures.1 in
    rw (p.1, p.2) (stops c.in_err-check.ensures _ (some_number c.in_err-check.field-0.0))

pub returns : goal.returns
unfolding counted_number
returns c =
    let k = c.args.k in
    goes_on (good (goal.at.returns c).In_ok-check) (sym (passes k _ [] (rw (le-leb 1 k (omega arith), le-leb k 64 (omega arith))) ∙ none k))
