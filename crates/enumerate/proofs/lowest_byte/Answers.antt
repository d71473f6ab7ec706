-- A state that is not reached has 255, any other the first action that is left.
-- Assumes nothing.
use mathlib.Core.Path.{sym, ap, ◌∙◌}
use Prim.Native.Nat.{ℕ, ◌<◌, ◌-◌}
use native.Mathlib.Nat.{sub-zero}
use native.Mathlib.Omega.{arith}
use lib.ListN.{get_or}
use Rattle.model.specs.Lists.{up_from}
use Rattle.accepted.specs.Facts.{accepted}
use Rattle.sets.specs.Sets.{free}
use Rattle.next_policy.specs.Next.{first_of}
use Rattle.enumerate.specs.Steps.{lowest_at}
use Rattle.enumerate.proofs.lowest_byte.Goals as goal
use Rattle.enumerate.proofs.lowest_byte.Goals.{Start}

small : (s : goal.Start) → s.args.p < 64
small s = omega (arith, s.requires.2, (accepted s.args.b.now s.requires.0.ok).sizes.s_high)

pub has-requires : goal.has-requires
has-requires c = small c

pub returns-then-not-has : goal.returns-then-not-has
returns-then-not-has c =
    let s = c in
    sym (ap (lowest_at s.args.b.now s.args.p) (sym c.has.ensures ∙ c.if-not-has.true))

pub bounds-off-p : goal.bounds-off-p
bounds-off-p c = small (goal.at.bounds-off-p c).Start

pub first_free-requires : goal.first_free-requires
first_free-requires c =
    let n = c in
    let s = n in
    omega (arith, n.count-n.ensures, (accepted s.args.b.now s.requires.0.ok).counts_high s.args.p s.requires.2)

pub returns : goal.returns
returns c =
    let n = c in
    let e = n in
    let s = e in
    let ws = s.args.b.now in
    c.first_free.ensures
    ∙ ap (λ (m : ℕ). first_of (free (get_or s.args.off.now s.args.p 0) (up_from 0 (m - 0)))) n.count-n.ensures
    ∙ rw sub-zero (ap first_of (s.requires.1.leaves s.args.p s.requires.2))
    ∙ sym (ap (lowest_at ws s.args.p) (sym e.has.ensures ∙ e.if-not-has.false))
