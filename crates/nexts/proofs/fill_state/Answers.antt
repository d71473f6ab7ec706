-- Assumes nothing.
use mathlib.Core.Path.{sym, ◌∙◌, subst}
use Prim.Native.Nat.{◌+◌, ◌<◌}
use native.Mathlib.Omega.{arith}
use Rattle.accepted.specs.Options.{feasible_small}
use Rattle.index.proofs.Lines.{entered}
use Rattle.nexts.specs.Nexts.{NextsTo}
use Rattle.feasible.proofs.Leaves.{off_none}
use Rattle.nexts.proofs.Rows.{one_more, one_skipped}
use Rattle.nexts.proofs.fill_state.Goals as goal
use Rattle.nexts.proofs.fill_state.Goals.{After-count-n, then-not-has, else-not-has}

state : (c : goal.After-count-n) → c.args.p < 64
state c = (entered c.requires.0 c.args.p c.requires.1).small

pub offset_bounds-x-p : goal.offset_bounds-x-p
offset_bounds-x-p c = omega (arith, state c)

pub bounds-x-p : goal.bounds-x-p
bounds-x-p c = omega (arith, state (goal.at.bounds-x-p c).After-count-n)

pub loop-c-init : goal.loop-c-init
loop-c-init c =
    let e = entered c.requires.0 c.args.p c.requires.1 in
    (e.small, omega (arith, c.count-n.ensures, e.few), c.requires.3, e.first)

pub loop-c-preserved : goal.loop-c-preserved
loop-c-preserved c =
    let ws = c.args.b.now in
    let i = c.loop-c in
    let p = c.args.p in (
      i.invariant.0,
      i.invariant.1,
      elim c.if-not-has.branch [
        | then-not-has w ↦
            subst (NextsTo ws p (i.c + 1)) (sym w.t-is)
            (one_more ws p i.c i.t w.next_set.result i.invariant.0 (omega arith)
            (λ q d h k. feasible_small ws c.requires.0.checked.ok q (omega (arith, h, c.requires.1)) k) i.invariant.2 w.next_set.ensures)
        | else-not-has w ↦
            subst (NextsTo ws p (i.c + 1)) (sym w.t-is)
            (one_skipped ws p i.c i.t i.invariant.2
            (off_none ws p c.args.off i.c c.requires.2 (omega (arith, c.count-n.ensures)) (sym c.has.ensures ∙ w.if-not-has.false)))
      ],
      c.line_after-j.ensures,
    )
