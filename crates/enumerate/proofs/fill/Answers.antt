-- Assumes nothing.
use mathlib.Core.Path.{◌≡◌, refl, sym, ◌∙◌, subst}
use mathlib.Core.Logic.{◌⊎◌}
use Prim.Native.Nat.{ℕ, ◌<◌}
use native.Mathlib.Omega.{arith}
use lib.ListN.{length-set}
use Rattle.model.specs.Model.{Words, state_count}
use Rattle.accepted.specs.Facts.{accepted}
use Rattle.accepted.specs.Options.{Feasible}
use Rattle.sets.specs.Sets.{has}
use Rattle.enumerate.specs.Steps.{Lowest, ReachTo}
use Rattle.enumerate.proofs.Filling.{lowest-action, lowest_small, reached-next, filled_next, sets_next, filled_all}
use Rattle.enumerate.proofs.fill.Goals as goal

pub loop-p-init : goal.loop-p-init
loop-p-init c =
    let s = c in
    record { most = s.requires.2; long = s.requires.3; places = s.requires.4; reached = s.requires.5; bytes = refl; sets = λ h. h }

pub offset_bounds-reach-p : goal.offset_bounds-reach-p
offset_bounds-reach-p c = omega (arith, (accepted c.args.b.now c.requires.0.checked.ok).sizes.s_high)

pub bounds-reach-p : goal.bounds-reach-p
bounds-reach-p c = omega (arith, (accepted c.args.b.now c.requires.0.checked.ok).sizes.s_high)

pub lowest_byte-c-requires : goal.lowest_byte-c-requires
lowest_byte-c-requires c = (c.requires.0.checked, c.requires.1, omega arith)

-- the byte of state p is no action or a feasible one
acts : (ws : Words) (p known c : ℕ) → Lowest ws p known c → (c ≡ 255) ⊎ Feasible ws p c
acts ws p known c e = subst (λ (d : ℕ). (d ≡ 255) ⊎ Feasible ws p d) (sym e) (lowest-action ws p (has known p))

pub overflow_cast-plan : goal.overflow_cast-plan
overflow_cast-plan c =
    let a = acts c.args.b.now c.loop-p.p c.loop-p.known c.lowest_byte-c.result c.lowest_byte-c.ensures in
    omega (arith, lowest_small c.args.b.now c.loop-p.p c.requires.0.checked.ok (omega arith) c.lowest_byte-c.result a)

pub bounds-plan-p : goal.bounds-plan-p
bounds-plan-p c = omega (arith, c.loop-p.invariant.long)

pub onward-known-requires : goal.onward-known-requires
onward-known-requires c =
    (c.requires.0, omega arith, acts c.args.b.now c.loop-p.p c.loop-p.known c.lowest_byte-c.result c.lowest_byte-c.ensures)

pub loop-p-preserved : goal.loop-p-preserved
loop-p-preserved c =
    let ws = c.args.b.now in
    let i = c.loop-p.invariant in
    let bs = c.loop-p.plan in
    let p = c.loop-p.p in
    let known = c.loop-p.known in
    let byte = c.lowest_byte-c.result in
    let inside : p < state_count ws = omega arith in
    record {
      most = omega arith;
      long = length-set bs p byte ∙ i.long;
      places = length-set c.loop-p.reach p known ∙ i.places;
      reached = reached-next ws bs i.long p inside known byte i.reached c.onward-known.result c.onward-known.ensures;
      bytes = i.bytes ∙ filled_next ws bs i.long p inside known byte i.reached c.lowest_byte-c.ensures;
      sets = λ h. sets_next ws bs i.long p inside known byte i.reached c.loop-p.reach i.places
          (omega (arith, (accepted c.args.b.now c.requires.0.checked.ok).sizes.s_high)) (i.sets h);
    }

pub shape_of-plan : goal.shape_of-plan
shape_of-plan c = let l = c in l.loop-p.invariant.long ∙ sym l.requires.3

pub returns : goal.returns
returns c =
    let l = c in
    let s = l in
    let ws = s.args.b.now in
    let i = l.loop-p.invariant in
    let e : l.loop-p.p ≡ state_count ws = omega (arith, i.most, c.loop-p-test.false, s.requires.0.checked.sizes.s_is) in
    record {
      bytes = sym (i.bytes ∙ filled_all ws l.loop-p.plan l.loop-p.p i.long (omega arith));
      long = i.places;
      sets = λ h. subst (λ (n : ℕ). ReachTo ws l.loop-p.plan n l.loop-p.reach) e (i.sets h);
    }
