-- Filled in from state 0 on.
-- Assumes nothing.
use native.Mathlib.Omega.{arith}
use Rattle.sets.specs.Sets.{first-set}
use Rattle.enumerate.proofs.Following.{first-is}
use Rattle.enumerate.proofs.first.Goals as goal

pub fill-requires : goal.fill-requires
fill-requires c =
    let s = c in
    (s.requires.0, s.requires.1, omega arith, s.requires.3, s.requires.4, first-set)

pub returns : goal.returns
returns c =
    let f = c in
    let s = f in
    first-is s.args.b.now s.requires.0.checked.ok s.requires.2 s.args.plan.now _ s.args.reach.now _ f.fill.ensures
