-- The candidate comes before none of the first i.
-- Assumes nothing.
use mathlib.Core.Path.{◌≡◌}
use Prim.Native.Nat.{◌+◌}
use lib.ListN.{length, drop}
use Rattle.pool.specs.Entries.{earlier_than, first_yes}
use Rattle.pool.proofs.place.Given as goal

abbrev pub invariant-loop-i : goal.invariant-loop-i
invariant-loop-i l =
    first_yes (earlier_than l.cost l.plan (length l.plan) l.costs l.plans) l.waiting
    ≡ l.i + first_yes (earlier_than l.cost l.plan (length l.plan) l.costs l.plans) (drop l.i l.waiting)
