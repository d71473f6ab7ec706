-- Assumes nothing.
use mathlib.Core.Path.{◌≡◌, sym, ap, ◌∙◌, subst}
use Prim.Native.Nat.{◌+◌, ◌≤◌}
use native.Mathlib.Omega.{arith}
use Rattle.model.specs.Model.{line_count, state_count}
use Rattle.book.proofs.Stages.{start_near, for_stage, next_near}
use Rattle.book.proofs.Columns.{size_is}
use Rattle.std.proofs.lemmas.Result.{err_from_is_err_and}
use Rattle.check_book.specs.Walk.{Progress}
use Rattle.check_book.proofs.Progress.{begin, next_state, finish, too_short, stopped_at}
use Rattle.check_book.proofs.walk_lines.Goals as goal
use Rattle.check_book.proofs.walk_lines.Goals.{At-loop-p}

pub loop-p-init : goal.loop-p-init
loop-p-init c = (omega arith, start_near c.args.b.now c.requires.0, begin c.args.b.now c.args.z c.args.most)

pub overflow_add-t : goal.overflow_add-t
overflow_add-t c = omega (arith, c.stage_for-t.ensures.last, c.requires.0.h_high)

pub size_at-requires : goal.size_at-requires
size_at-requires c =
    let z = c.requires.0 in
    omega (arith, c.stage_for-t.ensures.last, z.exact, z.l_low)

pub walk_state-requires : goal.walk_state-requires
walk_state-requires c =
    let for = c.stage_for-t in
    let l = c in
    let s = l in (
      s.requires.0,
      s.requires.1,
      record {
        state = omega arith;
        stage_is = for_stage s.args.b.now l.loop-p.p for.result for.ensures;
        width_is = size_is s.args.b.now s.args.z s.requires.1 0 for.result.n c.size_at.result c.size_at.ensures.is;
      },
      l.loop-p.invariant.2,
    )

pub returns-in_err-w : goal.returns-in_err-w
returns-in_err-w c =
    let p = err_from_is_err_and c.from_residual.result c.from_residual.ensures.1 in
    rw (p.1, p.2) (stopped_at c.args.b.now c.args.z c.args.most c.in_err-w.field-0.0 c.in_err-w.ensures)

pub loop-p-preserved : goal.loop-p-preserved
loop-p-preserved c = (
  omega arith,
  next_near c.args.b.now c.loop-p.p c.stage_for-t.result c.stage_for-t.ensures,
  next_state c.args.b.now c.args.z c.args.most c.loop-p.p c.in_ok-w.w c.in_ok-w.ensures,
)

passed_all : (l : goal.At-loop-p) → l.args.z.s ≤ l.loop-p.p
    → Progress l.args.b.now l.args.z l.args.most (state_count l.args.b.now) 0 l.loop-p.w
passed_all l h =
    let s = l.args in
    let e : l.loop-p.p ≡ state_count s.b.now = omega (arith, h) in
    subst (λ n. Progress s.b.now s.z s.most n 0 l.loop-p.w) e l.loop-p.invariant.2

-- the word after the left column
end : (l : goal.At-loop-p) → let s = l.args in s.z.columns + s.z.l ≡ s.z.columns + line_count s.b.now
end l = ap (λ n. l.args.z.columns + n) l.requires.1.l_is

pub returns-then-w-z : goal.returns-then-w-z
returns-then-w-z c =
    let l = c in
    let s = l.args in
    too_short s.b.now s.z s.most l.loop-p.w (passed_all (goal.at.returns-then-w-z l).At-loop-p c.loop-p-test.false) (λ e. c.if-w-z.true (e ∙ sym (end (goal.at.returns-then-w-z l).At-loop-p)))

pub returns : goal.returns
returns c =
    let l = c in
    let s = l.args in
    finish s.b.now s.z s.most l.loop-p.w (passed_all (goal.at.returns l).At-loop-p c.loop-p-test.false) (c.if-w-z.false ∙ end (goal.at.returns l).At-loop-p)
