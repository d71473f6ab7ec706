-- The first action that is left from the byte on.
-- Assumes nothing.
use mathlib.Core.Path.{sym, ap, ◌∙◌, subst}
use Prim.Native.Nat.{ℕ, ◌+◌}
use native.Mathlib.Omega.{arith}
use lib.ListN.{get_or}
use Rattle.accepted.specs.Facts.{accepted}
use Rattle.next_policy.specs.Next.{first_of}
use Rattle.enumerate.specs.Steps.{HigherIs}
use Rattle.enumerate.proofs.Free.{free_from}
use Rattle.enumerate.proofs.Raised.{higher_is}
use Rattle.enumerate.proofs.higher_at.Goals as goal

pub bounds-off-p : goal.bounds-off-p
bounds-off-p c =
    let s = c in
    omega (arith, s.requires.3, (accepted s.args.b.now s.requires.0.ok).sizes.s_high)

pub first_free-requires : goal.first_free-requires
first_free-requires c =
    let n = c in
    let s = n in
    omega (arith, n.count-n.ensures, (accepted s.args.b.now s.requires.0.ok).counts_high s.args.p s.requires.3)

pub returns : goal.returns
returns c =
    let n = c in
    let s = n in
    let ws = s.args.b.now in
    let bs = s.args.plan.now in
    let off = s.args.off.now in
    let p = s.args.p in
    subst (HigherIs ws bs p)
    (sym (c.first_free.ensures ∙ ap (λ (m : ℕ). first_of (free_from (get_or off p 0) (get_or bs p 0 + 1) m)) n.count-n.ensures))
    (higher_is ws s.requires.0.ok off s.requires.1 bs s.requires.2 p s.requires.3)
