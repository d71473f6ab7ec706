-- Assumes nothing.
use mathlib.Core.Path.{◌≡◌, sym, ap, ◌∙◌}
use mathlib.Core.Logic.{inl, inr}
use mathlib.Core.List.{List, ◌++◌}
use Prim.Native.Nat.{ℕ, ◌<◌}
use native.Mathlib.Omega.{arith}
use lib.ListN.{drop}
use Rattle.model.specs.Model.{state_count}
use Rattle.accepted.specs.Facts.{accepted}
use Rattle.build.specs.Walk.{chosen}
use Rattle.build.proofs.Split.{chosen_from}
use Rattle.build.proofs.Step.{own_small, pass_on, pass_off}
use Rattle.build.proofs.Prefix.{usable_long, copied, begin_at}
use Rattle.build.proofs.build.Goals as goal
use Rattle.build.proofs.build.Goals.{In-loop-s, Joined-s-r, then-has, then-s-r, else-s-r, else-has}

-- the bytes before r are there
pub loop-s-init : goal.loop-s-init
loop-s-init c =
    let kept = usable_long c.args.b.now c.args.plan.now c.args.r c.requires.3 in
    let front = copied c.args.plan.now c.args.out.now c.args.r (state_count c.args.b.now) kept c.requires.7 (omega (arith, c.requires.4))
    (ap (λ (xs : List ℕ). xs ++ drop c.args.r c.args.out.now) c.copy_from_slice.ensures.after) in
    begin_at c.args.b.now c.args.plan.now c.args.r c.args.c c.args.from _ c.requires.6 front.0 front.1

here : (c : goal.In-loop-s) → (c.loop-s.s < state_count c.args.b.now) × (c.loop-s.s < 64)
here c = let l : c.loop-s.s < state_count c.args.b.now = omega (arith, c.loop-s.invariant.long) in (l, omega (arith, l, (accepted c.args.b.now c.requires.0).sizes.s_high))

-- the action of a state that is reached
module _ (c : goal.Joined-s-r) (l : c.loop-s.s < state_count c.args.b.now) where
  is : c.if-s-r.a ≡ chosen c.args.b.now c.args.plan.now c.args.r c.args.c c.loop-s.s
  is =
      chosen_from c.args.b.now c.args.plan.now c.args.r c.args.c c.loop-s.s c.loop-s.auto.s c.args.best.now c.requires.2 l c.if-s-r.a
      (elim c.if-s-r.branch [ then-s-r w ↦ inl (w.if-s-r.true, w.a-is) | else-s-r w ↦ inr (w.if-s-r.false, w.a-is) ])

  small : c.if-s-r.a < 8
  small =
      own_small c.args.b.now c.requires.0 c.args.plan.now c.args.r c.args.c c.requires.5 c.loop-s.s c.loop-s.reach c.loop-s.out c.loop-s.auto.s l
      c.loop-s.invariant (sym c.has.ensures ∙ c.if-has.true) c.if-s-r.a is

pub has-requires : goal.has-requires
has-requires c = (here (goal.at.has-requires c).In-loop-s).1

pub bounds-best-s : goal.bounds-best-s
bounds-best-s c = omega (arith, here (goal.at.bounds-best-s c).In-loop-s)

pub overflow_cast-out : goal.overflow_cast-out
overflow_cast-out c = let g = goal.at.overflow_cast-out c in omega (arith, small g.Joined-s-r (here g.In-loop-s).0)

pub overflow_mul-s : goal.overflow_mul-s
overflow_mul-s c = omega (arith, here (goal.at.overflow_mul-s c).In-loop-s)

pub overflow_add-s : goal.overflow_add-s
overflow_add-s c = let g = goal.at.overflow_add-s c in omega (arith, here g.In-loop-s, small g.Joined-s-r (here g.In-loop-s).0)

pub offset_bounds-nx-s : goal.offset_bounds-nx-s
offset_bounds-nx-s c = let g = goal.at.offset_bounds-nx-s c in omega (arith, here g.In-loop-s, small g.Joined-s-r (here g.In-loop-s).0)

pub bounds-nx-s : goal.bounds-nx-s
bounds-nx-s c = let g = goal.at.bounds-nx-s c in omega (arith, here g.In-loop-s, small g.Joined-s-r (here g.In-loop-s).0)

pub loop-s-preserved : goal.loop-s-preserved
loop-s-preserved c =
    let ws = c.args.b.now in
    let i = c.loop-s in
    let l = (here (goal.at.loop-s-preserved c).In-loop-s).0 in
    elim c.if-has.branch [
      | then-has w ↦
          rw (w.out-is, w.reach-is)
          (pass_on ws c.requires.0 c.args.plan.now c.args.r c.args.c c.requires.5 i.s i.reach i.out i.auto.s l i.invariant
          (sym c.has.ensures ∙ w.if-has.true) w.if-s-r.a
          (chosen_from ws c.args.plan.now c.args.r c.args.c i.s i.auto.s c.args.best.now c.requires.2 l w.if-s-r.a
          (elim w.if-s-r.branch [ then-s-r v ↦ inl (v.if-s-r.true, v.a-is) | else-s-r v ↦ inr (v.if-s-r.false, v.a-is) ]))
          c.args.nx.now c.requires.1 w.union-reach.result w.union-reach.ensures)
      | else-has w ↦
          rw (w.out-is, w.reach-is)
          (pass_off ws c.requires.0 c.args.plan.now c.args.r c.args.c c.requires.5 i.s i.reach i.out i.auto.s l i.invariant
          (sym c.has.ensures ∙ w.if-has.false))
    ]
