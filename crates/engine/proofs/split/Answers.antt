-- Assumes nothing.
use mathlib.Core.Path.{refl}
use Prim.Native.Nat.{◌<◌}
use native.Mathlib.Omega.{arith}
use Rattle.std.proofs.Common.{Some, None}
use Rattle.model.specs.Model.{state_count}
use Rattle.stored.specs.Children.{plan_model}
use Rattle.child.specs.Children.{entry_of}
use Rattle.child.proofs.Plans.{usable}
use Rattle.child.proofs.Children.{own-walk, action_or_none}
use Rattle.engine.proofs.Turns.{split_more, split_end}
use Rattle.engine.proofs.split.Goals as goal
use Rattle.engine.proofs.split.Goals.{in-Some, in_default}

pub reach_weights-requires : goal.reach_weights-requires
reach_weights-requires c =
    (c.requires.0.indexed, plan_model c.args.b.now c.requires.0.indexed.checked.ok _ c.requires.2)

pub reached_before-reach-requires : goal.reached_before-reach-requires
reached_before-reach-requires c =
    let ok = c.requires.0.indexed.checked.ok in
    let r = c.requires.2 in
    (ok, c.requires.0.next, omega (arith, r.split_state), r.lists.first_alive, own-walk c.args.b.now ok _ r, usable c.args.b.now ok _ r c.args.e.split r.split_state)

pub join-requires : goal.join-requires
join-requires c =
    let known = c.requires.0.indexed.checked in
    let i = c.loop-p.invariant in
    let l : c.loop-p.p < state_count c.args.b.now = omega arith in
    (known, c.requires.0.next, c.requires.0.firsts, usable c.args.b.now known.ok _ c.requires.2 c.loop-p.p l, l, c.in-Some.ensures.goes_on, i.passed.walked, i.formed)

pub pass_state-reach-requires : goal.pass_state-reach-requires
pass_state-reach-requires c =
    let known = c.requires.0.indexed.checked in
    let l : c.loop-p.p < state_count c.args.b.now = omega arith in
    (known.ok, c.requires.0.next, l, action_or_none c.args.b.now known.ok _ c.requires.2 c.loop-p.p l, c.loop-p.invariant.passed)

pub loop-p-preserved : goal.loop-p-preserved
loop-p-preserved c =
    let ws = c.args.b.now in
    let en = entry_of c.args.e c.args.plan.now in
    let l : c.loop-p.p < state_count ws = omega arith in
    let i = c.loop-p.invariant in
    elim c.match-child_at.branch [
      | in-Some w ↦
          rw w.pool-is
          (split_more ws en c.args.pool.now i (Some w.in-Some.d) l w.in-Some.ensures w.join.ensures c.pass_state-reach.ensures)
      | in_default w ↦
          rw w.pool-is
          (split_more ws en c.args.pool.now i None l w.in_default.ensures (record { formed = i.formed; same-most = refl; waits = refl }) c.pass_state-reach.ensures)
    ]

pub returns : goal.returns
returns c = split_end c.args.b.now (entry_of c.args.e c.args.plan.now) c.args.pool.now c.loop-p.invariant (omega arith)
