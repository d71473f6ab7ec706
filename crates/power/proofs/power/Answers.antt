-- `power` meets its contract: where it gives 0 a test of `power_of` fails, and else all its tests hold.
-- Assumes nothing.
use mathlib.Core.Path.{sym, ◌∙◌}
use mathlib.Core.Bool.{and-false}
use mathlib.Core.Logic.{⊎_elim}
use native.Mathlib.Omega.{arith}
use borrow.Author.Tests.{leb-true, lt-leb}
use Rattle.model.specs.Calls.{power_of}
use Rattle.power.proofs.Range.{power_is}
use Rattle.power.proofs.power.Goals as goal

pub raised-requires : goal.raised-requires
raised-requires c = (omega (arith, leb-true), omega (arith, leb-true))

pub returns-then-e-le8 : goal.returns-then-e-le8
returns-then-e-le8 c = c.raised.ensures ∙ sym (power_is _ _ (omega arith) (omega (arith, leb-true)) (omega (arith, leb-true)))

pub returns-else-d-ge1 : goal.returns-else-d-ge1
unfolding power_of
returns-else-d-ge1 c =
    let s = c.args in
    ⊎_elim (λ w. rw (lt-leb s.e 8 w.2, and-false))
    (⊎_elim (λ w. rw (lt-leb s.d 100 w.1, and-false)) (λ w. rw (lt-leb 1 s.d w)))
    c.else-d-ge1.either
