-- Assumes nothing.
use mathlib.Core.Path.{sym, ◌∙◌}
use native.Mathlib.Omega.{arith}
use Rattle.feasible.proofs.Sets.{one_left, none_free}
use Rattle.feasible.proofs.none_left.Goals as goal

pub returns-then-not-has : goal.returns-then-not-has
returns-then-not-has c =
    sym (one_left c.args.mask c.args.n c.loop-c.c c.loop-c-test.true (sym c.has.ensures ∙ c.if-not-has.true))

pub returns : goal.returns
returns c = sym (none_free c.args.mask c.args.n (λ d h. c.loop-c.invariant d (omega arith)))
