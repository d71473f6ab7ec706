-- Assumes nothing.
use mathlib.Core.Path.{sym, ◌∙◌, subst}
use Prim.Native.Nat.{◌+◌, ◌<◌}
use native.Mathlib.Omega.{arith}
use Rattle.model.specs.Model.{action_count}
use Rattle.accepted.specs.Options.{to_option}
use Rattle.index.proofs.Lines.{entered}
use Rattle.costs.proofs.Sums.{read64}
use Rattle.table.specs.Table.{FilledTo}
use Rattle.feasible.proofs.Leaves.{off_none, on_feasible}
use Rattle.table.proofs.Rows.{filled_none, filled_more, filled_skip}
use Rattle.table.proofs.fill_row.Goals as goal
use Rattle.table.proofs.fill_row.Goals.{After-count-n, In-loop-c, then-not-has, else-not-has}

state : (c : goal.After-count-n) → c.args.p < 64
state c = (entered c.requires.0 c.args.p c.requires.1).small

pub offset_bounds-x-p : goal.offset_bounds-x-p
offset_bounds-x-p c = omega (arith, state (goal.at.offset_bounds-x-p c).After-count-n)

pub bounds-x-p : goal.bounds-x-p
bounds-x-p c = omega (arith, state (goal.at.bounds-x-p c).After-count-n)

pub loop-c-init : goal.loop-c-init
loop-c-init c =
    let e = entered c.requires.0 c.args.p c.requires.1 in (
      e.small,
      omega (arith, c.count-n.ensures, e.few),
      filled_none c.args.b.now c.args.p c.args.v.now c.args.q.now c.requires.4,
      e.first,
    )

-- the state has an action c
action_here : (t : goal.In-loop-c) → t.loop-c.c < action_count t.args.b.now t.args.p
action_here t = omega (arith, t.count-n.ensures)

pub action_cost-requires : goal.action_cost-requires
action_cost-requires c =
    let ws = c.args.b.now in
    -- an action that is not in the set is feasible
    let i = on_feasible ws c.args.p c.args.off c.loop-c.c c.requires.2 (action_here (goal.at.action_cost-requires c).In-loop-c) (sym c.has.ensures ∙ c.if-not-has.true) in
    (c.of_line-a.ensures, c.unit-unit.ensures, to_option ws c.args.p c.loop-c.c i, c.requires.3 c.loop-c.c i)

pub loop-c-preserved : goal.loop-c-preserved
loop-c-preserved c =
    let ws = c.args.b.now in
    let i = c.loop-c in
    let p = c.args.p in
    let v = c.args.v.now in
    let q = c.args.q.now in (
      i.invariant.0,
      i.invariant.1,
      elim c.if-not-has.branch [
        | then-not-has w ↦
            subst (FilledTo ws p (i.c + 1) v q) (sym w.q-is)
            (rw (read64 w.action_cost.result w.action_cost.type_inv)
            (filled_more ws p i.c v q i.q w.action_cost.result i.invariant.0 (omega arith) i.invariant.2 w.action_cost.ensures))
        | else-not-has w ↦
            subst (FilledTo ws p (i.c + 1) v q) (sym w.q-is)
            (filled_skip ws p i.c v q i.q i.invariant.2
            (off_none ws p c.args.off i.c c.requires.2 (action_here (goal.at.loop-c-preserved c).In-loop-c) (sym c.has.ensures ∙ w.if-not-has.false)))
      ],
      c.line_after-j.ensures,
    )
