-- `others` is 0 while no rider so far has the rank, but for the asker.
-- Assumes nothing.
use mathlib.Core.Path.{◌≡◌}
use lib.Dec.{eqb}
use Rattle.model.specs.Lists.{all}
use Rattle.reservation.specs.Reservations.{leaves}
use Rattle.reservation.proofs.Desk.is_free.Given as goal

abbrev pub invariant-loop-i : goal.invariant-loop-i
invariant-loop-i l = eqb l.others 0 ≡ all l.i (leaves l.self l.rider l.rank)
