-- One answer at a state that is not reached; at a state that is, one beyond its actions and one for each of them.
-- Assumes nothing.
use mathlib.Core.Path.{sym, ap, ◌∙◌}
use mathlib.Core.Bool.{not}
use Prim.Native.Nat.{◌<◌}
use native.Mathlib.Omega.{arith}
use Rattle.model.specs.Model.{action_count, options}
use Rattle.policy.proofs.Allowed.{allowed_unreached, beyond_actions, own-action}
use Rattle.policy.proofs.byte_allowed.Goals as goal
use Rattle.policy.proofs.byte_allowed.Goals.{Else-n-c}

pub returns-then-not-reached : goal.returns-then-not-reached
returns-then-not-reached c =
    let s = c.args in
    rw c.if-not-reached.true (sym (allowed_unreached (options s.b.now s.p) s.c))

pub returns-then-n-c : goal.returns-then-n-c
returns-then-n-c c =
    let s = c.args in
    rw c.if-not-reached.false
    (sym (beyond_actions s.b.now s.p s.c (omega (arith, c.count-n.ensures, c.if-n-c.true))))

-- the byte is an action
below : (c : goal.Else-n-c) → let s = c in s.args.c < action_count s.args.b.now s.args.p
below c = omega (arith, c.count-n.ensures, c.if-n-c.false)

pub closed_at-requires : goal.closed_at-requires
closed_at-requires c =
    let s = c in
    (s.requires.0, record { state = s.requires.1; has = below c; is = s.requires.2 (below c) })

pub returns : goal.returns
returns c =
    let e = c in
    let s = e.args in
    rw e.if-not-reached.false
    (ap not c.closed_at.ensures ∙ sym (own-action s.b.now s.p s.c (below (goal.at.returns e).Else-n-c)))
