-- The word read is the next state's, which is not below 0.
-- Assumes nothing.
use Prim.Native.Nat.{◌+◌}
use native.Mathlib.Omega.{arith}
use Rattle.lines.specs.Lines.{NextIs}
use Rattle.lines.proofs.Words.{inside, next_up, next_is}
use Rattle.lines.proofs.next.Goals as goal
use Rattle.lines.proofs.next.Goals.{After-plain_at}

pub overflow_add-t : goal.overflow_add-t
overflow_add-t c = omega (arith, inside c.requires.0)

pub overflow_add-t-2 : goal.overflow_add-t-2
overflow_add-t-2 c = omega (arith, inside c.requires.0)

pub plain_at-requires : goal.plain_at-requires
plain_at-requires c =
    let s = c in
    (omega (arith, inside s.requires.0), next_up s.requires.0 s.args.i s.requires.1)

is : (c : goal.After-plain_at) → let s = c in
    NextIs s.args.b.now s.args.p s.args.c s.args.i (s.args.t.base + c.plain_at.result)
is c = let s = c in next_is s.requires.0 s.args.i s.requires.1 c.plain_at.result c.plain_at.ensures.is

pub overflow_add-result : goal.overflow_add-result
overflow_add-result c = omega (arith, (is (goal.at.overflow_add-result c).After-plain_at).low)

pub returns : goal.returns
returns c = is (goal.at.returns c).After-plain_at
