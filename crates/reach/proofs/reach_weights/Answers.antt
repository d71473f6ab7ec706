-- Assumes nothing.
use Prim.Native.Nat.{◌+◌, ◌<◌}
use mathlib.Core.Path.{sym, subst}
use native.Mathlib.Omega.{arith}
use Rattle.model.specs.Model.{state_count}
use Rattle.accepted.specs.Facts.{accepted}
use Rattle.accepted.specs.Bytes.{policy_long}
use Rattle.reach.proofs.Pass.{Passed, begin, byte-action, room, pass_action, pass_none, finish}
use Rattle.reach.proofs.reach_weights.Goals as goal
use Rattle.reach.proofs.reach_weights.Goals.{then-c-ne255, else-c-ne255}

pub loop-p-init : goal.loop-p-init
loop-p-init c =
    let ok = c.requires.0.checked.ok in
    let bs = c.args.plan.now in (
      (accepted c.args.b.now ok).sizes.s_high,
      policy_long c.args.b.now ok bs c.requires.1,
      begin c.args.b.now bs _ c.first_weights.ensures,
    )

pub spread_action-requires : goal.spread_action-requires
spread_action-requires c =
    let i = c.loop-p in
    let ws = c.args.b.now in
    let ok = c.requires.0.checked.ok in
    let bs = c.args.plan.now in
    let l : i.p < state_count ws = omega arith in (
      c.requires.0,
      l,
      byte-action ws ok bs c.requires.1 i.p l c.if-c-ne255.true,
      i.invariant.2.long,
      room ws ok bs c.requires.1 i.p l i.w i.invariant.2,
    )

pub loop-p-preserved : goal.loop-p-preserved
loop-p-preserved c =
    let i = c.loop-p in
    let ws = c.args.b.now in
    let ok = c.requires.0.checked.ok in
    let bs = c.args.plan.now in
    let l : i.p < state_count ws = omega arith in (
      i.invariant.0,
      i.invariant.1,
      elim c.if-c-ne255.branch [
        | then-c-ne255 k ↦
            subst (Passed ws bs (i.p + 1)) (sym k.w-is)
            (pass_action ws ok bs c.requires.1 i.p l i.w i.invariant.2 _ k.spread_action.ensures)
        | else-c-ne255 k ↦
            subst (Passed ws bs (i.p + 1)) (sym k.w-is)
            (pass_none ws ok bs c.requires.1 i.p l i.w i.invariant.2 k.if-c-ne255.false)
      ],
    )

pub returns : goal.returns
returns c =
    finish c.args.b.now c.requires.0.checked.ok c.args.plan.now c.loop-p.p (omega arith) c.loop-p.w c.loop-p.invariant.2
