-- Assumes nothing.
use mathlib.Core.Path.{◌≡◌, sym, ap, ◌∙◌, subst}
use mathlib.Core.Bool.{true, not, true≢false}
use lib.Dec.{eqb}
use borrow.Author.Tests.{ne_eqb}
use Prim.Native.Nat.{ℕ, ◌+◌, ◌<◌}
use native.Mathlib.Omega.{arith}
use lib.ListN.{get_or}
use Rattle.model.specs.Lists.{is_in}
use Rattle.model.specs.Model.{Words, first_state, state_count, action, options}
use Rattle.model.specs.Policy.{Policy, allowed}
use Rattle.accepted.specs.Facts.{accepted}
use Rattle.splits.specs.Reach.{spread}
use Rattle.book.proofs.Stages.{for_stage}
use Rattle.costs.proofs.Sums.{read64}
use Rattle.reach.specs.Weights.{weight_at, Holds}
use Rattle.policy.proofs.Pass.{weighs, byte_refused, byte-action, room}
use Rattle.policy.proofs.Walk.{begin, finished, small, fits, reached_on, unreached_on}
use Rattle.policy.proofs.judge.Goals as goal
use Rattle.policy.proofs.judge.Goals.{In-loop-p, Else-not-byte_allowed, then-reached, else-reached}

pub loop-p-init : goal.loop-p-init
loop-p-init c =
    begin c.args.b.now c.args.z c.requires c.args.plan.now c.first_weights-w.result (omega (arith, c.requires.sizes.s_is))
    c.first_weights-w.ensures

-- in the loop, at state p
module _ (t : goal.In-loop-p) where
  abbrev ws : Words
  ws = t.args.b.now

  abbrev bs : Policy
  bs = t.args.plan.now

  abbrev p : ℕ
  p = t.loop-p.p

  abbrev byte : ℕ
  byte = get_or bs p 0

  inside : p < state_count ws
  inside = omega (arith, t.requires.sizes.s_is, t.loop-p-test.true)

pub stage_for-t-requires : goal.stage_for-t-requires
stage_for-t-requires c =
    ((accepted c.args.b.now c.requires.ok).sizes, c.requires.sizes, c.loop-p.invariant.near, inside (goal.at.stage_for-t-requires c).In-loop-p)

pub returns-then-not-byte_allowed : goal.returns-then-not-byte_allowed
returns-then-not-byte_allowed c =
    let t = (goal.at.returns-then-not-byte_allowed c).In-loop-p in
    let is = byte_refused (ws t) (bs t) (p t) c.loop-p.w c.loop-p.invariant.bytes (inside t) (sym c.byte_allowed.ensures ∙ c.if-not-byte_allowed.true) in
    record { is = sym is; cost = tt }

-- past the byte's test
fit : (e : goal.Else-not-byte_allowed) → is_in (get_or e.args.plan.now e.loop-p.p 0) (allowed (options e.args.b.now e.loop-p.p) (weighs e.loop-p.w e.loop-p.p)) ≡ true
fit e = sym e.byte_allowed.ensures ∙ e.if-not-byte_allowed.false

pub at_word-a-requires : goal.at_word-a-requires
at_word-a-requires c =
    let t = (goal.at.at_word-a-requires c).In-loop-p in
    let f = fit (goal.at.at_word-a-requires c).Else-not-byte_allowed in
    let has = byte-action (ws t) (bs t) (p t) c.loop-p.w c.loop-p.invariant.bytes (inside t) f (ap not (ne_eqb _ 0 c.if-reached.true)) in (
      c.requires,
      record { state = inside t; has = has; is = c.find-f.ensures.at-is has },
      c.stage_for-t.ensures.end_is ∙ ap (λ n. first_state (ws t) (n + 1)) (sym (for_stage (ws t) (p t) c.stage_for-t.result c.stage_for-t.ensures)),
    )

pub overflow_mul-y : goal.overflow_mul-y
overflow_mul-y c =
    let t = (goal.at.overflow_mul-y c).In-loop-p in
    rw c.unit_by-unit.ensures (omega (arith, small t.loop-p.invariant (inside t) (fit (goal.at.overflow_mul-y c).Else-not-byte_allowed)))

pub mul_add-sum-requires : goal.mul_add-sum-requires
mul_add-sum-requires c =
    let t = (goal.at.mul_add-sum-requires c).In-loop-p in
    let f = fit (goal.at.mul_add-sum-requires c).Else-not-byte_allowed in
    rw (read64 c.cost.result c.cost.type_inv, c.unit_by-unit.ensures, c.cost.ensures)
    (fits t.loop-p.invariant (inside t) f, small t.loop-p.invariant (inside t) f)

pub spread_lines-requires : goal.spread_lines-requires
spread_lines-requires c =
    let t = (goal.at.spread_lines-requires c).In-loop-p in
    (c.at_word-a.ensures, t.loop-p.invariant.bytes.held.long, room (ws t) (bs t) (p t) c.loop-p.w t.loop-p.invariant.bytes (inside t) c.requires.ok)

pub loop-p-preserved : goal.loop-p-preserved
loop-p-preserved c =
    let t = (goal.at.loop-p-preserved c).In-loop-p in
    let f = fit (goal.at.loop-p-preserved c).Else-not-byte_allowed in
    elim c.if-reached.branch [
      | then-reached w ↦
          reached_on t.loop-p.invariant (inside t) f c.stage_for-t.result c.stage_for-t.ensures c.find-f.result.after c.find-f.ensures.after_is c.if-reached.w
          (subst (λ v. Holds v (spread (weight_at c.loop-p.w (p t)) (action (ws t) (p t) (byte t)).transitions (weight_at c.loop-p.w))) (sym w.w-is) w.spread_lines.ensures)
          _
          (w.sum-is ∙ read64 w.mul_add-sum.result w.mul_add-sum.type_inv
          ∙ (rw (read64 w.cost.result w.cost.type_inv, w.cost.ensures, w.unit_by-unit.ensures) at w.mul_add-sum.ensures))
      | else-reached w ↦
          rw (w.w-is, w.sum-is)
          (unreached_on t.loop-p.invariant (inside t) f c.stage_for-t.result c.stage_for-t.ensures c.find-f.result.after c.find-f.ensures.after_is
          (ap (λ n. not (eqb n 0)) w.if-reached.false))
    ]

pub returns : goal.returns
returns c =
    let f = finished c.loop-p.invariant (omega (arith, c.requires.sizes.s_is, c.loop-p-test.false)) in
    record { is = sym f.0; cost = f.1 }
