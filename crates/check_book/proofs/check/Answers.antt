-- Each return is the first question that is answered no: those before it were passed on the way.
-- Assumes nothing.
use mathlib.Core.Path.{◌≡◌, sym, ap, ◌∙◌}
use mathlib.Core.Bool.{Bool}
use native.Mathlib.Omega.{arith}
use Rattle.model.specs.Questions.{first_no, every_action, lines_allowed, cost_allowed, nexts_allowed, weights_allowed, size_questions}
use Rattle.questions.specs.Sizes.{Sized, sized}
use Rattle.std.proofs.lemmas.Result.{err_from_is_err_and}
use Rattle.refusal.specs.Refusal.{some_number}
use Rattle.actions.specs.Action.{code}
use Rattle.check_book.specs.Walk.{walk_number}
use Rattle.check_book.proofs.Numbers.{of_sizes, of_counts, of_lines}
use Rattle.check_book.proofs.Bound.{bounded_is}
use Rattle.check_book.proofs.check.Goals as goal
use Rattle.check_book.proofs.check.Goals.{In_ok-size_number}

-- past the questions 1 to 7
sizes : (c : goal.In_ok-size_number) → first_no size_questions c.args.b.now ≡ 0
sizes c = sym c.in_ok-size_number.ensures

size : (c : goal.In_ok-size_number) → Sized c.args.b.now
size c = sized _ (sizes c)

pub returns-in_err-size_number : goal.returns-in_err-size_number
returns-in_err-size_number c =
    let p = err_from_is_err_and c.from_residual.result c.from_residual.ensures.1 in
    let e = c.in_err-size_number.ensures in
    rw (p.1, p.2) (e ∙ sym (of_sizes _ (λ z. some_number c.in_err-size_number.field-0.0 (e ∙ z))))

pub read_sizes-z-requires : goal.read_sizes-z-requires
read_sizes-z-requires c = record { h_high = (size c).h_high; long = omega (arith, (size c).exact) }

pub counts_allowed-requires : goal.counts_allowed-requires
counts_allowed-requires c = (size (goal.at.counts_allowed-requires c).In_ok-size_number, c.read_sizes-z.ensures)

pub returns-then-not-counts_allowed : goal.returns-then-not-counts_allowed
returns-then-not-counts_allowed c = sym (of_counts _ (sizes (goal.at.returns-then-not-counts_allowed c).In_ok-size_number) (sym c.counts_allowed.ensures ∙ c.if-not-counts_allowed.true))

pub cost_limit-most-requires : goal.cost_limit-most-requires
cost_limit-most-requires c =
    let r = c in
    let z = size (goal.at.cost_limit-most-requires r).In_ok-size_number in
    let a = r.read_sizes-z.ensures in (
      omega (arith, z.d_low, a.d_is),
      omega (arith, z.d_high, a.d_is),
      omega (arith, z.h_high, a.h_is),
    )

pub walk_lines-requires : goal.walk_lines-requires
walk_lines-requires c = let r = c in (size (goal.at.walk_lines-requires r).In_ok-size_number, r.read_sizes-z.ensures)

pub returns : goal.returns
unfolding walk_number
returns c =
    let m = c in
    let k = m in
    let r = k in
    let ws = r.args.b.now in
    let a = r.read_sizes-z.ensures in
    let z = size (goal.at.returns r).In_ok-size_number in
    c.walk_lines.ensures
    ∙ ap (λ (b : Bool). code (lines_allowed ws) (every_action cost_allowed ws) (every_action nexts_allowed ws) (every_action weights_allowed ws) b)
    (rw (m.cost_limit-most.ensures, a.d_is, a.h_is) (bounded_is ws z.d_low z.d_high z.h_high))
    ∙ sym (of_lines ws (sizes (goal.at.returns r).In_ok-size_number) (sym k.counts_allowed.ensures ∙ k.if-not-counts_allowed.false))
