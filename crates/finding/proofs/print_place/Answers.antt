-- Nothing, the refusal of a plan that is cut short, or the line of what was found.
-- Assumes nothing.
use mathlib.Core.Path.{◌≡◌}
use Prim.Native.Nat.{◌+◌, ◌≤◌}
use native.Mathlib.Omega.{arith}
use lib.ListN.{length, get_or}
use Rattle.model.specs.Page.{input_plan, after_plan, plan_number, plan_line, most_line}
use Rattle.page_lines.specs.Put.{too_short, put_refused}
use Rattle.input.specs.Ahead.{ends, nothing, part_is, rest-is}
use Rattle.finding.proofs.Found.{print}
use Rattle.finding.proofs.print_place.Goals as goal

pub returns-then-out-lt-MOST_LINE : goal.returns-then-out-lt-MOST_LINE
returns-then-out-lt-MOST_LINE c = too_short most_line _ _ c.if-out-lt-MOST_LINE.true

pub returns-in_default : goal.returns-in_default
unfolding plan_line plan_number after_plan
returns-in_default c =
    let e = nothing _ _ _ c.in_default.ensures in
    put_refused _ (omega (arith, c.if-out-lt-MOST_LINE.false)) 1 e (omega arith) c.put_refusal.ensures

pub slice_bounds-read-count : goal.slice_bounds-read-count
slice_bounds-read-count c = (ends _ _ c.in-Some.ensures).1

pub slice_bounds-read-start : goal.slice_bounds-read-start
slice_bounds-read-start c = (ends _ _ c.in-Some.ensures).1

pub slice_bounds-find-count : goal.slice_bounds-find-count
slice_bounds-find-count c = omega (arith, (ends _ _ c.in-Some.ensures).0)

pub slice_bounds-find-start : goal.slice_bounds-find-start
slice_bounds-find-start c = omega (arith, (ends _ _ c.in-Some.ensures).0)

pub slice_bounds-find-end-2 : goal.slice_bounds-find-end-2
slice_bounds-find-end-2 c = (ends _ _ c.in-Some.ensures).1

pub returns : goal.returns
unfolding after_plan input_plan
returns c =
    let input = c.args.input.now in
    let z = (ends _ _ c.in-Some.ensures).0 in
    print input c.find-found.result (rest-is _ input z) (part_is 1 _ input z) c.read-q.ensures c.find-found.ensures.number c.find-found.ensures.answer
    (omega (arith, c.if-out-lt-MOST_LINE.false)) c.put_found.ensures
