-- Nothing, the refusal of marks that are cut short, or the line of the answer.
-- Assumes nothing.
use mathlib.Core.Path.{◌≡◌, ap₂}
use Prim.Native.Nat.{◌+◌, ◌≤◌}
use native.Mathlib.Omega.{arith}
use lib.ListN.{length}
use Rattle.model.specs.Limit.{limit_of}
use Rattle.model.specs.Page.{mark_count, input_limit, after_marks, marks_number, limit_line, most_line}
use Rattle.page_lines.specs.Put.{too_short, put_refused}
use Rattle.input.specs.Ahead.{ends, nothing, part_is, rest-is}
use Rattle.limiting.proofs.Limited.{print}
use Rattle.limiting.proofs.print_limit.Goals as goal

pub returns-then-out-lt-MOST_LINE : goal.returns-then-out-lt-MOST_LINE
returns-then-out-lt-MOST_LINE c = too_short most_line _ _ c.if-out-lt-MOST_LINE.true

pub returns-in_default : goal.returns-in_default
unfolding limit_line marks_number after_marks
returns-in_default c =
    let e = nothing _ _ _ c.in_default.ensures in
    put_refused _ (omega (arith, c.if-out-lt-MOST_LINE.false)) 1 e (omega arith) c.put_refusal.ensures

pub bounds-input-0 : goal.bounds-input-0
bounds-input-0 c = let e = ends _ _ c.in-Some.ensures in omega (arith, e.0, e.1)

pub slice_bounds-read-count : goal.slice_bounds-read-count
slice_bounds-read-count c = (ends _ _ c.in-Some.ensures).1

pub slice_bounds-read-start : goal.slice_bounds-read-start
slice_bounds-read-start c = (ends _ _ c.in-Some.ensures).1

pub slice_bounds-limit-count : goal.slice_bounds-limit-count
slice_bounds-limit-count c = omega (arith, (ends _ _ c.in-Some.ensures).0)

pub slice_bounds-limit-start : goal.slice_bounds-limit-start
slice_bounds-limit-start c = omega (arith, (ends _ _ c.in-Some.ensures).0)

pub slice_bounds-limit-end-2 : goal.slice_bounds-limit-end-2
slice_bounds-limit-end-2 c = (ends _ _ c.in-Some.ensures).1

pub returns : goal.returns
unfolding after_marks input_limit
returns c =
    let input = c.args.input.now in
    let z = (ends _ _ c.in-Some.ensures).0 in
    print input c.limit-limited.result (rest-is _ input z) (ap₂ limit_of (part_is 3 _ input z) c.from-m.ensures) c.read-q.ensures
    c.limit-limited.ensures.number c.limit-limited.ensures.answer (omega (arith, c.if-out-lt-MOST_LINE.false)) c.put_limited.ensures
