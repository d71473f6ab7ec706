-- The last state that has a higher action takes it, and lowest actions follow.
-- Assumes nothing.
use mathlib.Core.Path.{◌≡◌, sym, ◌∙◌}
use mathlib.Core.Bool.{true, false}
use mathlib.Core.Logic.{inr}
use Prim.Native.Nat.{ℕ}
use native.Mathlib.Omega.{arith}
use lib.Dec.{T}
use lib.ListN.{length, length-set}
use Rattle.model.specs.Model.{Words, state_count}
use Rattle.model.specs.Questions.{book_number}
use Rattle.model.specs.Policy.{Policy, is_policy}
use Rattle.accepted.specs.Facts.{accepted}
use Rattle.accepted.specs.Demands.{policy-bytes}
use Rattle.next_policy.proofs.Books.{next_last}
use Rattle.enumerate.proofs.Filling.{lowest_small, reached-next}
use Rattle.enumerate.proofs.Following.{raise_acts, next_stands}
use Rattle.enumerate.proofs.next.Goals as goal

false-not : false ≡ true → ⊥
false-not e = let z : ◌≡◌ {A = ℕ} 0 1 = cc in omega arith

bytes_long : (ws : Words) → book_number ws ≡ 0 → (bs : Policy) → T (is_policy ws bs) → length bs ≡ state_count ws
bytes_long ws ok bs t = ((policy-bytes ws ok bs).0 t).long

pub raise_of-requires : goal.raise_of-requires
raise_of-requires c =
    (c.requires.0.checked, c.requires.1, bytes_long c.args.b.now c.requires.0.checked.ok c.args.plan.now c.requires.2.is)

pub returns-in_default : goal.returns-in_default
returns-in_default c = record {
  ends = λ e. next_last c.args.b.now c.requires.0.checked.ok c.args.plan.now c.requires.2.is c.in_default.ensures;
  follows = λ e. absurd (false-not e);
  stands = λ e. absurd (false-not e);
}

pub overflow_cast-plan : goal.overflow_cast-plan
overflow_cast-plan c =
    let last = c.in-Some.ensures in
    let acts = raise_acts c.args.b.now c.requires.0.checked.ok c.args.plan.now (bytes_long c.args.b.now c.requires.0.checked.ok c.args.plan.now c.requires.2.is) c.requires.2.is c.in-Some.up last in
    omega (arith, lowest_small c.args.b.now c.in-Some.up.state c.requires.0.checked.ok last.inside c.in-Some.up.action (inr acts))

pub bounds-plan-p : goal.bounds-plan-p
bounds-plan-p c = let last = c.in-Some.ensures in omega (arith, last.inside, (bytes_long c.args.b.now c.requires.0.checked.ok c.args.plan.now c.requires.2.is))

pub offset_bounds-reach-p : goal.offset_bounds-reach-p
offset_bounds-reach-p c = let last = c.in-Some.ensures in omega (arith, last.inside, (accepted c.args.b.now c.requires.0.checked.ok).sizes.s_high)

pub bounds-reach-p : goal.bounds-reach-p
bounds-reach-p c = let last = c.in-Some.ensures in omega (arith, last.inside, (accepted c.args.b.now c.requires.0.checked.ok).sizes.s_high)

pub onward-set-requires : goal.onward-set-requires
onward-set-requires c =
    let last = c.in-Some.ensures in
    let acts = raise_acts c.args.b.now c.requires.0.checked.ok c.args.plan.now (bytes_long c.args.b.now c.requires.0.checked.ok c.args.plan.now c.requires.2.is) c.requires.2.is c.in-Some.up last in
    (c.requires.0, last.inside, inr acts)

pub overflow_add-p : goal.overflow_add-p
overflow_add-p c = let last = c.in-Some.ensures in omega (arith, last.inside, (accepted c.args.b.now c.requires.0.checked.ok).sizes.s_high)

pub fill-requires : goal.fill-requires
fill-requires c =
    let last = c.in-Some.ensures in
    let r = c.in-Some.up in
    let long = (bytes_long c.args.b.now c.requires.0.checked.ok c.args.plan.now c.requires.2.is) in (
      c.requires.0,
      c.requires.1,
      omega (arith, last.inside),
      length-set c.args.plan.now r.state r.action ∙ long,
      c.requires.2.long,
      reached-next c.args.b.now c.args.plan.now long r.state last.inside _ r.action (c.requires.2.sets r.state last.inside) _ c.onward-set.ensures,
    )

-- the policy that is filled in
pub shape_of-plan : goal.shape_of-plan
shape_of-plan c =
    let last = c.in-Some.ensures in
    let n = next_stands c.args.b.now c.requires.0.checked.ok c.args.plan.now (bytes_long c.args.b.now c.requires.0.checked.ok c.args.plan.now c.requires.2.is) c.requires.2.is c.in-Some.up last c.args.reach.now _
    c.requires.2.sets _ c.fill.ensures in
    bytes_long c.args.b.now c.requires.0.checked.ok _ n.1.is ∙ sym (bytes_long c.args.b.now c.requires.0.checked.ok c.args.plan.now c.requires.2.is)

pub returns : goal.returns
returns c =
    let last = c.in-Some.ensures in
    let n = next_stands c.args.b.now c.requires.0.checked.ok c.args.plan.now (bytes_long c.args.b.now c.requires.0.checked.ok c.args.plan.now c.requires.2.is) c.requires.2.is c.in-Some.up last c.args.reach.now _
    c.requires.2.sets _ c.fill.ensures in
    record { ends = λ z. absurd (false-not (sym z)); follows = λ z. n.0; stands = λ z. n.1 }
