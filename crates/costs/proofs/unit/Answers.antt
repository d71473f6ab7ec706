-- The index has the stages still to come, which are at most 8.
-- Assumes nothing.
use Prim.Native.Nat.{◌≤◌, ◌<◌}
use native.Mathlib.Omega.{arith}
use Rattle.model.specs.Model.{togo}
use Rattle.accepted.specs.Facts.{accepted}
use Rattle.costs.proofs.unit.Goals as goal
use Rattle.costs.proofs.unit.Goals.{Start}

state : (s : goal.Start) → s.args.p < 64
state s = omega (arith, s.requires.1, (accepted s.args.b.now s.requires.0.checked.ok).sizes.s_high)

few : (s : goal.Start) → togo s.args.b.now s.args.p ≤ 8
unfolding togo
few s = let a = (accepted s.args.b.now s.requires.0.checked.ok).sizes in omega arith

pub overflow_add-m : goal.overflow_add-m
overflow_add-m c = omega (arith, state c)

pub offset_bounds-x-p : goal.offset_bounds-x-p
offset_bounds-x-p c = omega (arith, state c)

pub bounds-x-p : goal.bounds-x-p
bounds-x-p c = omega (arith, state (goal.at.bounds-x-p c).Start)

pub raised-requires : goal.raised-requires
raised-requires c =
    let s = (goal.at.raised-requires c).Start in
    let z = s.requires.0.checked.sizes in
    let a = (accepted s.args.b.now s.requires.0.checked.ok).sizes in
    (omega (arith, z.d_is, a.d_high), omega (arith, few s, s.requires.0.index.to_go_lem s.args.p s.requires.1, z.h_is, a.h_high))
