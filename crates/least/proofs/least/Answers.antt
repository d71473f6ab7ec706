-- The first entry of the table is equation (5), which is the cost of the first policy.
-- Assumes nothing.
use mathlib.Core.Path.{◌≡◌, sym, ap, ◌∙◌}
use mathlib.Core.Bool.{true, false, not}
use native.Mathlib.Omega.{arith}
use Rattle.std.proofs.Common.{rules}
use Rattle.model.specs.Model.{Words}
use Rattle.model.specs.Questions.{book_number}
use Rattle.model.specs.Policy.{has_policy}
use Rattle.model.specs.Calls.{least_number}
use Rattle.questions.specs.FirstNo.{then_yes}
use Rattle.questions.specs.Answers.{stops}
use Rattle.std.proofs.lemmas.Result.{err_from_is_err_and}
use Rattle.refusal.specs.Refusal.{some_number}
use Rattle.accepted.specs.Shape.{shape, has_alive, has_is}
use Rattle.accepted.specs.Demands.{no_policy, passes_28, least_28, least_value}
use Rattle.index.proofs.Lines.{headed}
use Rattle.feasible.specs.Barred.{all_barred}
use Rattle.least.proofs.least.Goals as goal
use Rattle.least.proofs.least.Goals.{In_ok-check, After-has}

-- 28 by whether the book has a policy
module _ (ws : Words) (ok : book_number ws ≡ 0) where
  number_28 : has_policy ws ≡ false → least_number ws ≡ 28
  number_28 e = (least_28 ws ok).1 ((no_policy ws ok).0 e)

  number_0 : has_policy ws ≡ true → least_number ws ≡ 0
  unfolding least_number
  number_0 e = then_yes (book_number ws) _ ok ∙ passes_28 ws ok e

good : (c : goal.In_ok-check) → book_number c.args.b.now ≡ 0
good c = sym c.in_ok-check.ensures

pub returns-in_err-check-clause-number : goal.returns-in_err-check-clause-number
unfolding least_number
returns-in_err-check-clause-number c =
    let p = err_from_is_err_and c.from_residual.result c.from_residual.ensures.1 in
    rw (p.1, p.2) (stops c.in_err-check.ensures _ (some_number c.in_err-check.field-0.0))

pub read_sizes-z-requires : goal.read_sizes-z-requires
read_sizes-z-requires c = headed _ (good (goal.at.read_sizes-z-requires c).In_ok-check)

pub index-x-requires : goal.index-x-requires
index-x-requires c = record { ok = good (goal.at.index-x-requires c).In_ok-check; sizes = c.read_sizes-z.ensures }

-- the test of state 0 is the question
has : (c : goal.After-has) → book_number c.args.b.now ≡ 0 → has_policy c.args.b.now ≡ not c.has.result
has c ok =
    has_is c.args.b.now ok
    ∙ ap not (sym (c.has.ensures ∙ c.find_barred-m.ensures.dead_is 0 (omega arith) (shape c.args.b.now ok).some_state))

pub returns-then-has-clause-number : goal.returns-then-has-clause-number
returns-then-has-clause-number c =
    let ok = good (goal.at.returns-then-has-clause-number c).In_ok-check in
    sym (number_28 c.args.b.now ok (has (goal.at.returns-then-has-clause-number c).After-has ok ∙ ap not c.if-has.true))

pub fill_table-requires : goal.fill_table-requires
fill_table-requires c =
    let m = c.find_barred-m in (
      record {
        checked = record { ok = good (goal.at.fill_table-requires c).In_ok-check; sizes = c.read_sizes-z.ensures };
        index = c.index-x.ensures.index;
      },
      all_barred c.args.b.now m.result.off m.result.dead m.ensures,
      c.zero_rows-q.ensures,
      c.zeros-v.ensures,
    )

pub returns : goal.returns
returns c =
    let ws = c.args.b.now in
    let ok = good (goal.at.returns c).In_ok-check in
    let p = has (goal.at.returns c).After-has ok ∙ ap not c.if-has.false in
    record {
      number = sym (number_0 ws ok p);
      cost = search rules ∙ c.fill_table.ensures.least_is 0 (omega arith) (has_alive ws ok p) ∙ sym (least_value ws ok p);
    }
