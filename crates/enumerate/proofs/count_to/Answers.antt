-- Assumes nothing.
use mathlib.Core.Path.{◌≡◌, sym, ◌∙◌}
use Prim.Native.Nat.{suc, ◌+◌, ◌-◌, ◌≤◌}
use native.Mathlib.Omega.{arith}
use lib.ListN.{length}
use Rattle.model.specs.Policy.{policies}
use Rattle.laws.specs.Entries.{at_low}
use Rattle.accepted.specs.Demands.{policy-bytes}
use Rattle.enumerate.proofs.Places.{first_at, next_at_lem, last_at}
use Rattle.enumerate.proofs.count_to.Goals as goal
use Rattle.enumerate.proofs.count_to.Goals.{At-loop-n}

pub first-requires : goal.first-requires
first-requires c =
    let s = c in
    (s.requires.0, s.requires.1, s.requires.2, s.requires.3, s.requires.4)

pub loop-n-init : goal.loop-n-init
loop-n-init c =
    let f = c in
    let s = f in
    record {
      low = omega arith;
      high = omega arith;
      stands = f.first.ensures.stands;
      at = first_at s.args.b.now s.requires.0.checked.ok s.requires.2 _ _ f.first.ensures;
    }

-- at the head of the loop
module _ (l : goal.At-loop-n) where
  abbrev s : goal.At-loop-n
  s = l

  long : length l.loop-n.plan ≡ length s.args.plan.now
  long = ((policy-bytes s.args.b.now s.requires.0.checked.ok l.loop-n.plan).0 l.loop-n.invariant.stands.is).long ∙ sym s.requires.3

  counted : l.loop-n.n ≤ length (policies s.args.b.now)
  counted = omega (arith, l.loop-n.invariant.low, at_low (policies s.args.b.now) (l.loop-n.n - 1) l.loop-n.plan l.loop-n.invariant.at)

pub next-requires : goal.next-requires
next-requires c =
    let l = (goal.at.next-requires c).At-loop-n in
    ((s l).requires.0, (s l).requires.1, l.loop-n.invariant.stands)

pub shape_of-plan-then-not-next : goal.shape_of-plan-then-not-next
shape_of-plan-then-not-next c = let e = long (goal.at.shape_of-plan-then-not-next c).At-loop-n in omega arith

pub returns-then-not-next : goal.returns-then-not-next
returns-then-not-next c =
    let f = c in
    let l = (goal.at.returns-then-not-next f).At-loop-n in
    let ws = (s l).args.b.now in
    let e = last_at ws (s l).requires.0.checked.ok (s l).requires.2 (l.loop-n.n - 1) l.loop-n.plan l.loop-n.invariant.at _ _ _ f.next.ensures c.if-not-next.true in
    record { all = λ h. omega (arith, e, l.loop-n.invariant.low); more = λ h. omega (arith, e, l.loop-n.invariant.low) }

pub overflow_add-n : goal.overflow_add-n
overflow_add-n c = let l = (goal.at.overflow_add-n c).At-loop-n in omega (arith, l.loop-n.invariant.high, (s l).requires.5)

pub loop-n-smaller : goal.loop-n-smaller
loop-n-smaller c = let t = c in omega (arith, t.loop-n-test.true)

pub loop-n-preserved : goal.loop-n-preserved
loop-n-preserved c =
    let f = c in
    let l = (goal.at.loop-n-preserved f).At-loop-n in
    let ws = (s l).args.b.now in
    let e : l.loop-n.n + 1 - 1 ≡ suc (l.loop-n.n - 1) = omega (arith, l.loop-n.invariant.low) in
    record {
      low = omega arith;
      high = omega (arith, f.loop-n-test.true);
      stands = f.next.ensures.stands c.if-not-next.false;
      at = rw e (next_at_lem ws (s l).requires.0.checked.ok (s l).requires.2 (l.loop-n.n - 1) l.loop-n.plan l.loop-n.invariant.at _ _ _ f.next.ensures c.if-not-next.false);
    }

pub shape_of-plan : goal.shape_of-plan
shape_of-plan c = long (goal.at.shape_of-plan c).At-loop-n

pub returns : goal.returns
returns c =
    let l = (goal.at.returns c).At-loop-n in
    record {
      all = λ h. absurd (omega (arith, c.loop-n-test.false));
      more = λ h. omega (arith, counted l, c.loop-n-test.false);
    }
