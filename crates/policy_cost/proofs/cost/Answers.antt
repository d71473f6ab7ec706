-- Assumes nothing.
use mathlib.Core.Path.{◌≡◌, refl, sym, ap, ◌∙◌, subst}
use Prim.Native.Nat.{ℕ, ◌+◌, ◌-◌, ◌<◌}
use native.Mathlib.Omega.{arith}
use lib.ListN.{length, get_or, length-set}
use Rattle.model.specs.Model.{Words, scale, togo, state_count, action}
use Rattle.model.specs.Questions.{book_number}
use Rattle.model.specs.Policy.{Policy}
use Rattle.model.specs.Path.{byte_at, policy_cost}
use Rattle.std.proofs.Common.{rules}
use Rattle.model.specs.Recursion.{action_cost}
use Rattle.accepted.specs.Facts.{accepted}
use Rattle.accepted.specs.Options.{Option}
use Rattle.accepted.specs.Bytes.{byte_is}
use Rattle.accepted.specs.Demands.{policy-bytes, reached-inside}
use Rattle.costs.specs.Terms.{value_at, Bounded}
use Rattle.costs.proofs.Sums.{read64}
use Rattle.costs.proofs.ToGo.{holds_more}
use Rattle.policy_cost.proofs.Steps.{Reached, value, Has, acts, bounded, step, skip, whole}
use Rattle.policy_cost.proofs.cost.Goals as goal
use Rattle.policy_cost.proofs.cost.Goals.{In-loop-p}

pub loop-p-init : goal.loop-p-init
loop-p-init c =
    (refl, λ q h i. absurd (omega (arith, c.requires.0.checked.sizes.s_is, reached-inside c.args.b.now c.requires.0.checked.ok c.args.plan.now c.requires.1 q i)))

-- in a turn of the loop
module _ (t : goal.In-loop-p) where
  abbrev ws : Words
  ws = t.args.b.now

  abbrev bs : Policy
  bs = t.args.plan.now

  abbrev p : ℕ
  p = t.loop-p.p - 1

  ok : book_number ws ≡ 0
  ok = t.requires.0.checked.ok

  state : p < state_count ws
  state = omega (arith, t.loop-p-test.true, t.requires.0.checked.sizes.s_is)

  small : p < 64
  small = omega (arith, state, (accepted ws ok).sizes.s_high)

  long : p < length bs
  long = omega (arith, state, ((policy-bytes ws ok bs).0 t.requires.1).long)

  -- the byte that is read
  byte : byte_at bs p ≡ get_or bs p 0
  byte = byte_is bs p 255 0 long

  later : Has ws bs (p + 1) t.loop-p.v
  later =
      let e : t.loop-p.p ≡ p + 1 = omega (arith, t.loop-p-test.true) in
      subst (λ (n : ℕ). Has ws bs n t.loop-p.v) e t.loop-p.invariant.1

  -- it takes an action there
  takes : (get_or bs p 0 ≡ 255 → ⊥) → byte_at bs p ≡ 255 → ⊥
  takes h e = h (sym byte ∙ e)

pub bounds-plan-p : goal.bounds-plan-p
bounds-plan-p c = long (goal.at.bounds-plan-p c).In-loop-p

pub state_cost-requires : goal.state_cost-requires
state_cost-requires c =
    let t = (goal.at.state_cost-requires c).In-loop-p in
    let h = takes t c.if-c-ne255.true in (
      t.requires.0,
      state t,
      subst (Option (ws t) (p t)) (byte t) (acts (ws t) (ok t) (bs t) t.requires.1 (p t) (state t) h),
      subst (λ (d : ℕ). Bounded (ws t) (p t) d t.loop-p.v) (byte t)
          (bounded (ws t) (ok t) (bs t) t.requires.1 (p t) (state t) t.loop-p.v (later t) h),
    )

pub offset_bounds-v-p : goal.offset_bounds-v-p
offset_bounds-v-p c = omega (arith, small (goal.at.offset_bounds-v-p c).In-loop-p)

pub bounds-v-p : goal.bounds-v-p
bounds-v-p c = small (goal.at.bounds-v-p c).In-loop-p

pub loop-p-preserved-then-c-ne255 : goal.loop-p-preserved-then-c-ne255
loop-p-preserved-then-c-ne255 c =
    let t = (goal.at.loop-p-preserved-then-c-ne255 c).In-loop-p in
    let h = takes t c.if-c-ne255.true in
    let y = c.state_cost.result in
    let v = t.loop-p.v in (
      rw length-set t.loop-p.invariant.0,
      rw (read64 y c.state_cost.type_inv)
          (holds_more (ws t) (ok t) (Reached (ws t) (bs t)) (value (ws t) (bs t)) (p t) v y (omega (arith, small t, t.loop-p.invariant.0))
          (λ i. c.state_cost.ensures
          ∙ ap (λ (d : ℕ). action_cost (scale (ws t)) (togo (ws t) (p t)) (value_at v) (action (ws t) (p t) d)) (sym (byte t))
          ∙ step (ws t) (ok t) (bs t) t.requires.1 (p t) (state t) v (later t) h) (later t)),
    )

pub loop-p-preserved : goal.loop-p-preserved
loop-p-preserved c =
    let t = (goal.at.loop-p-preserved c).In-loop-p in
    (t.loop-p.invariant.0, skip (ws t) (ok t) (bs t) t.requires.1 (p t) (state t) t.loop-p.v (later t) (byte t ∙ c.if-c-ne255.false))

pub returns : goal.returns
returns c =
    let z : c.loop-p.p ≡ 0 = omega (arith, c.loop-p-test.false) in
    let e : value_at c.loop-p.v 0 ≡ policy_cost c.args.b.now c.args.plan.now
    = whole c.args.b.now c.requires.0.checked.ok c.args.plan.now c.requires.1 c.loop-p.v
    (subst (λ (n : ℕ). Has c.args.b.now c.args.plan.now n c.loop-p.v) z c.loop-p.invariant.1) in
    search (rules, e)
