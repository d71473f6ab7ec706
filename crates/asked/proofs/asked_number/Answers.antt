-- Each return carries the first question that is answered no.
-- Assumes nothing.
use mathlib.Core.Path.{sym, ◌∙◌}
use Rattle.asked.specs.Asked.{Counted, counted_says, counted_stops, asked-none, asked_passed}
use Rattle.std.proofs.lemmas.Result.{err_from_is_err_and}
use Rattle.refusal.specs.Refusal.{some_number}
use Rattle.asked.proofs.asked_number.Goals as goal
use Rattle.asked.proofs.asked_number.Goals.{In_ok-counted_number}

good : (c : goal.In_ok-counted_number) → Counted c.args.b.now c.args.k
good c = counted_says _ _ (sym c.in_ok-counted_number.ensures)

pub returns-in_err-counted_number : goal.returns-in_err-counted_number
returns-in_err-counted_number c =
    let p = err_from_is_err_and c.from_residual.result c.from_residual.ensures.1 in
    let e = c.in_err-counted_number.ensures in
    rw (p.1, p.2) (e ∙ counted_stops _ _ (λ z. some_number c.in_err-counted_number.field-0.0 (e ∙ z)))

pub has_policy-requires : goal.has_policy-requires
has_policy-requires c = (good c).ok

pub returns-then-not-has_policy : goal.returns-then-not-has_policy
returns-then-not-has_policy c = sym (asked-none _ _ (good (goal.at.returns-then-not-has_policy c).In_ok-counted_number) (sym c.has_policy.ensures ∙ c.if-not-has_policy.true))

pub returns : goal.returns
returns c =
    let g = good (goal.at.returns c).In_ok-counted_number in
    sym (asked_passed _ _ (record { ok = g.ok; low = g.low; high = g.high; has = sym c.has_policy.ensures ∙ c.if-not-has_policy.false }))
