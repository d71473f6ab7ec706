-- The word read is r of the action.
-- Assumes nothing.
use mathlib.Core.Path.{ap, ◌∙◌}
use Prim.Native.Nat.{◌+◌}
use native.Mathlib.Omega.{arith}
use Rattle.lines.proofs.Places.{room, first-up, r_is, after}
use Rattle.lines.proofs.word_after.Goals as goal

pub overflow_add-result : goal.overflow_add-result
overflow_add-result c = omega (arith, room c.requires.0 c.requires.1)

pub plain_at-requires : goal.plain_at-requires
plain_at-requires c = (omega (arith, room c.requires.0 c.requires.1), first-up c.requires.0 c.requires.1)

pub overflow_add-result-2 : goal.overflow_add-result-2
overflow_add-result-2 c =
    let s = c in
    omega (arith, room s.requires.0 s.requires.1, r_is s.requires.0 s.requires.1 c.plain_at.result c.plain_at.ensures.is)

pub returns : goal.returns
returns c =
    let s = c in
    ap (λ n. s.args.k + 1 + n) (r_is s.requires.0 s.requires.1 c.plain_at.result c.plain_at.ensures.is) ∙ after s.requires.0 s.requires.1
