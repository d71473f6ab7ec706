-- The word read is the weight's, which is not below 0.
-- Assumes nothing.
use native.Mathlib.Omega.{arith}
use Rattle.lines.proofs.Words.{inside, weight_up, weight_is}
use Rattle.lines.proofs.weight.Goals as goal

pub overflow_add-t : goal.overflow_add-t
overflow_add-t c = omega (arith, inside c.requires.0)

pub overflow_add-t-2 : goal.overflow_add-t-2
overflow_add-t-2 c = omega (arith, inside c.requires.0)

pub overflow_add-t-3 : goal.overflow_add-t-3
overflow_add-t-3 c = omega (arith, inside c.requires.0)

pub plain_at-requires : goal.plain_at-requires
plain_at-requires c =
    let s = c in
    (omega (arith, inside s.requires.0), weight_up s.requires.0 s.args.i s.requires.1)

pub returns : goal.returns
returns c =
    let s = c in
    let w = c.plain_at in
    record { is = weight_is s.requires.0 s.args.i s.requires.1 w.result w.ensures.is; small = w.ensures.small }
