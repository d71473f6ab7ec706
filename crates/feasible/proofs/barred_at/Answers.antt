-- Assumes nothing.
use mathlib.Core.Path.{sym, ◌∙◌, subst}
use Prim.Native.Nat.{◌+◌, ◌<◌}
use native.Mathlib.Omega.{arith}
use Rattle.index.proofs.Lines.{entered}
use Rattle.feasible.proofs.Sets.{MaskTo, mask_none, mask_on, mask_off, mask_leaves}
use Rattle.feasible.proofs.barred_at.Goals as goal
use Rattle.feasible.proofs.barred_at.Goals.{After-count-n, then-not-goes_on, else-not-goes_on}

state : (c : goal.After-count-n) → c.args.p < 64
state c = (entered c.requires.0 c.args.p c.requires.1).small

pub offset_bounds-x-p : goal.offset_bounds-x-p
offset_bounds-x-p c = omega (arith, state c)

pub bounds-x-p : goal.bounds-x-p
bounds-x-p c = omega (arith, state (goal.at.bounds-x-p c).After-count-n)

pub loop-c-init : goal.loop-c-init
loop-c-init c =
    let e = entered c.requires.0 c.args.p c.requires.1 in
    (omega (arith, c.count-n.ensures, e.few), mask_none c.args.b.now c.args.p c.args.dead, e.first)

pub loop-c-preserved : goal.loop-c-preserved
loop-c-preserved c =
    let ws = c.args.b.now in
    let m = c.loop-c.invariant.1 in (
      c.loop-c.invariant.0,
      elim c.if-not-goes_on.branch [
        | then-not-goes_on w ↦
            subst (MaskTo ws c.args.p c.args.dead (c.loop-c.c + 1)) (sym (w.mask-is ∙ w.with-mask.ensures))
            (mask_off ws c.args.p c.args.dead c.loop-c.c c.loop-c.mask m (sym c.goes_on.ensures ∙ w.if-not-goes_on.true))
        | else-not-goes_on w ↦
            subst (MaskTo ws c.args.p c.args.dead (c.loop-c.c + 1)) (sym w.mask-is)
            (mask_on ws c.args.p c.args.dead c.loop-c.c c.loop-c.mask m (sym c.goes_on.ensures ∙ w.if-not-goes_on.false))
      ],
      c.line_after-j.ensures,
    )

pub returns : goal.returns
returns c =
    mask_leaves c.args.b.now c.args.p c.args.dead c.loop-c.c c.loop-c.mask c.loop-c.invariant.1 c.requires.0.checked.ok c.requires.1
    c.requires.2 (omega (arith, c.count-n.ensures))
