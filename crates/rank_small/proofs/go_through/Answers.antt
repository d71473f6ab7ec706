-- Assumes nothing.
use mathlib.Core.Path.{◌≡◌, refl, sym, ◌∙◌, subst}
use mathlib.Core.List.{List}
use Prim.Native.Nat.{ℕ, ◌≤◌}
use native.Mathlib.Numerals.{add-one}
use native.Mathlib.Omega.{arith}
use lib.IntN.{ℤ}
use lib.ListN.{length-replicate, replicate, length}
use Rattle.model.specs.Model.{Words}
use Rattle.model.specs.Policy.{Policy, policies}
use Rattle.model.specs.Path.{policy_cost}
use Rattle.laws.specs.Entries.{at_low}
use Rattle.accepted.specs.Demands.{policy-bytes}
use Rattle.enumerate.proofs.Places.{first_at, next_at_lem, last_at}
use Rattle.best_kept.specs.Holding.{Holds, kept_holds}
use Rattle.rank_small.specs.Small.{RoomFor}
use Rattle.rank_small.specs.Through.{best_of_first, best_few, held_ascends, best-more, best_wide, best_none, best-all}
use Rattle.rank_small.proofs.go_through.Goals as goal

-- an array of zeros
abbrev row : List ℕ
row = replicate 64 0

row_long : length row ≡ 64
row_long = length-replicate {A = ℕ} 64 0

pub first-requires : goal.first-requires
first-requires c =
    let s = c in
    (s.requires.0, s.requires.1, s.requires.2, s.requires.4, row_long)

pub loop-more-init : goal.loop-more-init
loop-more-init c =
    let f = c in
    let s = f in
    let ws = s.args.b.now in
    let ok = s.requires.0.checked.ok in
    let e = f.first.ensures in
    record {
      long = ((policy-bytes ws ok _).0 e.stands.is).long;
      costs_long = refl;
      plans_long = refl;
      stands = λ h. e.stands;
      at = λ h. first_at ws ok s.requires.2 _ _ e;
      ended = λ h. absurd (let z : ◌≡◌ {A = ℕ} 0 1 = cc in omega arith);
      holds = rw (best_none ws s.args.k) (record { count = refl; costs_are = refl; plans_are = refl });
    }

-- at the head of the loop
few : (ws : Words) (k j n : ℕ) (costs₀ costs : List ℤ) (plans₀ plans : List ℕ) → Holds (policy_cost ws) (best_of_first ws k j) n costs₀ costs plans₀ plans → n ≤ k
few ws k j n costs₀ costs plans₀ plans h = omega (arith, h.count, best_few ws k j)

room : {ws : Words} {k : ℕ} (costs₀ costs : List ℤ) (plans₀ plans : List ℕ) → RoomFor ws k costs₀ plans₀ → length costs ≡ length costs₀ → length plans ≡ length plans₀
    → RoomFor ws k costs plans
room costs₀ costs plans₀ plans r e f = record {
  low = r.low;
  high = r.high;
  costs_room = omega (arith, r.costs_room, e);
  plans_room = omega (arith, r.plans_room, f);
}

-- a policy is at hand
pub join-n-requires : goal.join-n-requires
join-n-requires c =
    let i = c.loop-more.invariant in (
      c.requires.0,
      room c.args.costs.now c.loop-more.costs c.args.plans.now c.loop-more.plans c.requires.5 i.costs_long i.plans_long,
      few c.args.b.now c.args.k c.loop-more.j c.loop-more.n c.args.costs.now c.loop-more.costs c.args.plans.now c.loop-more.plans i.holds,
      (i.stands c.loop-more-test.true).is,
      held_ascends c.args.b.now c.requires.0.checked.ok c.args.k c.loop-more.j c.loop-more.n c.args.costs.now c.loop-more.costs c.args.plans.now c.loop-more.plans
          i.holds,
    )

pub next-more-requires : goal.next-more-requires
next-more-requires c = (c.requires.0, c.requires.1, c.loop-more.invariant.stands c.loop-more-test.true)

pub overflow_add-j : goal.overflow_add-j
overflow_add-j c =
    omega (arith, at_low (policies c.args.b.now) c.loop-more.j c.loop-more.plan (c.loop-more.invariant.at c.loop-more-test.true), c.requires.3)

pub loop-more-smaller : goal.loop-more-smaller
loop-more-smaller c = omega (arith, at_low (policies c.args.b.now) c.loop-more.j c.loop-more.plan (c.loop-more.invariant.at c.loop-more-test.true))

pub loop-more-preserved : goal.loop-more-preserved
loop-more-preserved c =
    let i = c.loop-more.invariant in
    let w = c.args.b.now in
    let ok = c.requires.0.checked.ok in
    let k = c.args.k in
    let j = c.loop-more.j in
    let bs = c.loop-more.plan in
    let is_at = i.at c.loop-more-test.true in
    let costs = c.join-n.new.costs in
    let plans = c.join-n.new.plans in
    record {
      long = omega (arith, i.long);
      costs_long = omega (arith, i.costs_long);
      plans_long = omega (arith, i.plans_long);
      stands = c.next-more.ensures.stands;
      at = λ e. rw add-one (next_at_lem w ok c.requires.2 j bs is_at _ _ _ c.next-more.ensures e);
      ended = λ e. last_at w ok c.requires.2 j bs is_at _ _ _ c.next-more.ensures e ∙ sym (add-one j);
      holds = subst (λ (ps : List Policy). Holds (policy_cost w) ps c.join-n.result c.args.costs.now costs c.args.plans.now plans)
          (sym (best-more w ok k j bs is_at))
          (kept_holds (policy_cost w) (best_of_first w k j) bs c.loop-more.n k c.join-n.result c.args.costs.now c.loop-more.costs costs c.args.plans.now
          c.loop-more.plans plans i.holds c.join-n.ensures c.requires.5.low
          (few w k j c.loop-more.n c.args.costs.now c.loop-more.costs c.args.plans.now c.loop-more.plans i.holds) (best_wide w ok k j bs is_at));
    }

pub shape_of-plan : goal.shape_of-plan
shape_of-plan c = c.loop-more.invariant.long ∙ sym c.requires.4

pub shape_of-costs : goal.shape_of-costs
shape_of-costs c = c.loop-more.invariant.costs_long

pub shape_of-plans : goal.shape_of-plans
shape_of-plans c = c.loop-more.invariant.plans_long

pub returns : goal.returns
returns c =
    subst (λ (ps : List Policy). Holds (policy_cost c.args.b.now) ps c.loop-more.n c.args.costs.now c.loop-more.costs c.args.plans.now c.loop-more.plans)
    (best-all c.args.b.now c.args.k c.loop-more.j (omega (arith, c.loop-more.invariant.ended c.loop-more-test.false))) c.loop-more.invariant.holds
