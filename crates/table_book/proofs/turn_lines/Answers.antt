-- Assumes nothing.
use mathlib.Core.Path.{◌≡◌, ap, ◌∙◌}
use Prim.Native.Nat.{◌+◌, ◌≤◌, ◌<◌}
use native.Mathlib.Omega.{arith}
use lib.IntN.{ℤ, pos, nat_abs, ◌-ℤ◌}
use lib.ListN.{get_or}
use lib.Signed.{mag}
use mir.Syntax.{w32}
use mir.Val.{to_z, of_z}
use mir.Facts.{to_z-of_z}
use borrow.Author.Rules.{rules}
use Rattle.model.specs.Model.{word}
use Rattle.reward_table.specs.Table.{table_right}
use Rattle.reward_table.proofs.Facts.{left_at, right_at}
use Rattle.table_book.proofs.Turns.{reward-fits, neg-fits, turn_first, turn_later, rest-none, rest_some, turnable_step, turn_put}
use Rattle.table_book.proofs.turn_lines.Goals as goal
use Rattle.table_book.proofs.turn_lines.Goals.{then-rest-eq0, else-rest-eq0, At-loop-i}

-- the word on the right of the line
right-word : (c : goal.At-loop-i) → get_or c.args.t.now (c.args.z.columns + c.args.j + c.args.z.l + c.loop-i.i) (pos 0) ≡ table_right c.args.t.now (c.args.j + c.loop-i.i)
unfolding word
right-word c = right_at c.args.t.now c.args.z c.requires.1 (c.args.j + c.loop-i.i) _ (omega arith)

small : (c : goal.At-loop-i) → c.loop-i.i < c.args.count → c.loop-i.rest ≡ 0 → nat_abs (table_right c.args.t.now (c.args.j + c.loop-i.i)) ≤ 100000
small c l e = (turnable_step _ c.loop-i.rest _ c.loop-i.i _ l c.loop-i.invariant.1).0 e

pub overflow_sub-out : goal.overflow_sub-out
overflow_sub-out c =
    let l = (goal.at.overflow_sub-out c).At-loop-i in
    let x = table_right c.args.t.now (c.args.j + c.loop-i.i) in
    let s = small l c.loop-i-test.true c.if-rest-eq0.true in
    rw (right-word l, to_z-of_z (reward-fits x s)) (neg-fits x s)

pub loop-i-preserved : goal.loop-i-preserved
loop-i-preserved c =
    let l = (goal.at.loop-i-preserved c).At-loop-i in
    let a = c.args in
    let t = a.t.now in
    let rest = c.loop-i.rest in
    let i = c.loop-i.i in
    let x = table_right t (a.j + i) in
    let more = c.loop-i-test.true in
    let h = c.loop-i.invariant in
    let fits : mag (get_or t (a.z.columns + a.j + a.z.l + i) (pos 0)) < 2147483648 = search rules in
    elim c.if-rest-eq0.branch [
      | then-rest-eq0 w ↦
          turn_put t a.out.now a.at a.j a.count _ c.requires.4 rest i more h.0 h.1 w.out-is
          (ap (λ (y : ℤ). to_z w32 (of_z w32 (pos 0 -ℤ to_z w32 (of_z w32 y)))) (right-word l)
          ∙ turn_first rest x w.if-rest-eq0.true (small l more w.if-rest-eq0.true))
          (w.rest-is ∙ w.size_at-rest.ensures.is ∙ ap nat_abs (left_at t a.z c.requires.1 (a.j + i) _ (omega arith))
          ∙ rest-none rest _ w.if-rest-eq0.true)
      | else-rest-eq0 w ↦
          turn_put t a.out.now a.at a.j a.count _ c.requires.4 rest i more h.0 h.1 w.out-is
          (ap (λ (y : ℤ). to_z w32 (of_z w32 y)) (right-word l) ∙ turn_later rest x w.if-rest-eq0.false (rw (right-word l) at fits))
          (w.rest-is ∙ rest_some rest _ w.if-rest-eq0.false)
    ]
