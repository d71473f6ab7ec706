-- Each return carries the first question that is answered no; the last the cost.
-- Assumes nothing.
use mathlib.Core.Path.{◌≡◌, refl, sym, ◌∙◌}
use mathlib.Core.Bool.{true, false}
use lib.IntN.{ℤ}
use Rattle.std.specs.Prelude.{Option, Some, None, is_some, IfSome, IfOk}
use Rattle.std.specs.Option.{ok_or}
use Rattle.std.proofs.lemmas.Result.{err_from_is_err_and}
use Rattle.model.specs.Model.{Words}
use Rattle.model.specs.Questions.{book_number}
use Rattle.model.specs.Policy.{Policy, is_policy}
use Rattle.model.specs.Path.{policy_cost}
use Rattle.model.specs.Calls.{value_number, value_cost}
use Rattle.questions.specs.FirstNo.{fails, passes, none}
use Rattle.questions.specs.Answers.{stops, goes_on, gives}
use Rattle.refusal.specs.declared.Refusal.TheVariants.{Plan}
use Rattle.refusal.specs.Refusal.{number_in, some_number}
use Rattle.value.proofs.value.Goals as goal

-- of a book that is accepted: by what is said of the plan
module _ (ws : Words) (bs : Policy) (ok : book_number ws ≡ 0) where
  number : (o : Option ℤ) → is_some o ≡ is_policy ws bs → number_in (ok_or o Plan) ≡ value_number ws bs
  unfolding value_number
  number None e = goes_on ok (sym (fails _ _ _ (sym e)))
  number (Some z) e = goes_on ok (sym (passes _ _ _ (sym e) ∙ none _))

  cost : (o : Option ℤ) → is_some o ≡ is_policy ws bs → IfSome o (λ z. z ≡ policy_cost ws bs) → IfOk (ok_or o Plan) (λ z. z ≡ value_cost ws bs)
  unfolding value_cost
  cost None e h = tt
  cost (Some z) e h = gives (sym (number (Some z) e)) _ h

pub returns-in_err-check-clause-number : goal.returns-in_err-check-clause-number
unfolding value_number
returns-in_err-check-clause-number c =
    let p = err_from_is_err_and c.from_residual.result c.from_residual.ensures.1 in
    rw (p.1, p.2) (stops c.in_err-check.ensures _ (some_number c.in_err-check.field-0.0))

pub sizes-z-requires : goal.sizes-z-requires
sizes-z-requires c = sym c.in_ok-check.ensures

pub returns : goal.returns
returns c =
    let ok = sym c.in_ok-check.ensures in
    record {
      number = rw c.ok_or.ensures.value (number c.args.b.now c.args.plan.now ok c.judge.result c.judge.ensures.is);
      cost = rw c.ok_or.ensures.value (cost c.args.b.now c.args.plan.now ok c.judge.result c.judge.ensures.is c.judge.ensures.cost);
    }
