-- The next states of the byte's action are added, if it is one.
-- Assumes nothing.
use mathlib.Core.Path.{◌≡◌, sym, ◌∙◌, subst}
use mathlib.Core.Logic.{◌⊎◌, inl, inr}
use Prim.Native.Nat.{ℕ, ◌+◌, ◌*◌, ◌<◌}
use native.Mathlib.Omega.{arith}
use lib.ListN.{get_or}
use Rattle.model.specs.Model.{Words, action}
use Rattle.model.specs.Policy.{Policy, nexts, onward}
use Rattle.model.specs.Path.{byte_at}
use Rattle.accepted.specs.Facts.{accepted}
use Rattle.accepted.specs.Options.{Feasible, feasible_small}
use Rattle.accepted.specs.Bytes.{byte_is}
use Rattle.sets.specs.Sets.{SetOf, set-union}
use Rattle.build.proofs.Prefix.{passed_more, passed_bare}
use Rattle.build.proofs.pass_state.Goals as goal
use Rattle.build.proofs.pass_state.Goals.{Else-a-eq255}

pub returns-then-a-eq255 : goal.returns-then-a-eq255
returns-then-a-eq255 c =
    let there : get_or c.args.plan.now c.args.s 0 ≡ byte_at c.args.plan.now c.args.s = byte_is c.args.plan.now c.args.s 0 255 c.requires.3.0 in
    passed_bare c.args.b.now c.args.plan.now c.requires.0 c.args.s c.requires.2 c.args.reach c.requires.4 (sym there ∙ c.if-a-eq255.true)

-- past the test it is an action of the state
module _ (c : goal.Else-a-eq255) where
  abbrev ws : Words
  ws = c.args.b.now

  abbrev bs : Policy
  bs = c.args.plan.now

  there : get_or bs c.args.s 0 ≡ byte_at bs c.args.s
  there = byte_is bs c.args.s 0 255 c.requires.3.0

  goes_on : Feasible ws c.args.s (get_or bs c.args.s 0)
  goes_on = go c.requires.3.1
    where
      go : (byte_at bs c.args.s ≡ 255) ⊎ Feasible ws c.args.s (byte_at bs c.args.s) → Feasible ws c.args.s (get_or bs c.args.s 0)
      go (inl e) = absurd (c.if-a-eq255.false (there ∙ e))
      go (inr o) = subst (Feasible ws c.args.s) (sym there) o

  small : (get_or bs c.args.s 0 < 8) × (c.args.s < 64)
  small = (
    feasible_small ws c.requires.0 c.args.s c.requires.2 goes_on,
    omega (arith, c.requires.2, (accepted ws c.requires.0).sizes.s_high),
  )

pub overflow_mul-s : goal.overflow_mul-s
overflow_mul-s c = let a = small (goal.at.overflow_mul-s c).Else-a-eq255 in omega (arith, a)

pub overflow_add-s : goal.overflow_add-s
overflow_add-s c = let a = small (goal.at.overflow_add-s c).Else-a-eq255 in omega (arith, a)

pub offset_bounds-nx-s : goal.offset_bounds-nx-s
offset_bounds-nx-s c = let a = small (goal.at.offset_bounds-nx-s c).Else-a-eq255 in omega (arith, a)

pub bounds-nx-s : goal.bounds-nx-s
bounds-nx-s c = let a = small (goal.at.bounds-nx-s c).Else-a-eq255 in omega (arith, a)

pub returns : goal.returns
returns c =
    let e = (goal.at.returns c).Else-a-eq255 in
    let h = c.requires.4.walked in
    let more = get_or c.args.nx.now (8 * c.args.s + get_or (bs e) c.args.s 0) 0 in
    let on : SetOf more (nexts (action (ws e) c.args.s (byte_at (bs e) c.args.s)).transitions) =
    subst (λ (a : ℕ). SetOf more (nexts (action (ws e) c.args.s a).transitions)) (there e)
    (c.requires.1.at c.args.s (get_or (bs e) c.args.s 0) c.requires.2 (goes_on e)) in
    passed_more (ws e) (bs e) c.requires.0 c.args.s c.requires.2 c.args.reach c.requires.4 c.requires.3.1 c.union.result
    (subst (λ (m : ℕ). SetOf m (onward (action (ws e)) c.args.s (byte_at (bs e) c.args.s) h.reach)) (sym c.union.ensures)
    (set-union more c.args.reach _ h.reach on h.set_is))
