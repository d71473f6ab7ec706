-- The byte 255 leads nowhere; the next states of an action join those known.
-- Assumes nothing.
use mathlib.Core.Path.{◌≡◌}
use mathlib.Core.Logic.{◌⊎◌, inl, inr}
use Prim.Native.Nat.{ℕ, ◌<◌}
use Rattle.model.specs.Model.{Words, action_count, action}
use Rattle.model.specs.Policy.{nexts}
use Rattle.accepted.specs.Options.{Feasible, option_below, to_option}
use Rattle.accepted.specs.Shape.{shape}
use Rattle.sets.specs.Sets.{set-union}
use Rattle.enumerate.proofs.onward.Goals as goal

pub returns-then-c-eq255 : goal.returns-then-c-eq255
returns-then-c-eq255 c qs h =
    let s = c in
    rw (c.if-c-eq255.true, (shape s.args.b.now s.requires.0.checked.ok).bare s.args.p) h

-- a byte that is not 255 is an action of the state
below : (ws : Words) (p c : ℕ) → (c ≡ 255) ⊎ Feasible ws p c → (c ≡ 255 → ⊥) → c < action_count ws p
below ws p c (inl e) n = absurd (n e)
below ws p c (inr f) n = option_below ws p (to_option ws p c f)

pub of_action-a-requires : goal.of_action-a-requires
of_action-a-requires c =
    let s = c in
    (s.requires.0, s.requires.1, below s.args.b.now s.args.p s.args.c s.requires.2 c.if-c-eq255.false)

pub returns : goal.returns
returns c qs h =
    let m = c in
    let s = m in
    rw c.union.ensures (set-union m.next_set-more.result s.args.known (nexts (action s.args.b.now s.args.p s.args.c).transitions) qs m.next_set-more.ensures h)
