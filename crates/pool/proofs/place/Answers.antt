-- Those that cost less stay before the candidate.
-- Assumes nothing.
use mathlib.Core.Path.{◌≡◌}
use mir.Syntax.{w64}
use mir.Val.{to_z, of_z}
use lib.ListN.{length, take}
use Rattle.std.proofs.lemmas.Int.{to_z-of_z}
use Rattle.pool.specs.Entries.{earlier_than}
use Rattle.pool.proofs.Insertion.{yes_skip}
use Rattle.pool.proofs.Ascent.{cheaper_no}
use Rattle.pool.proofs.place.Goals as goal

pub loop-i-init : goal.loop-i-init
loop-i-init c =
    let a = c.args in
    let i = c.cheaper-i.result in
    let same : to_z w64 (of_z w64 a.cost) ≡ a.cost = to_z-of_z w64 a.cost c.ranges.cost in
    let e = rw same at c.cheaper-i.ensures in
    rw same
    (yes_skip (earlier_than a.cost a.plan.now (length a.plan.now) a.costs.now a.plans.now) a.waiting.now i e.0
    (cheaper_no a.costs.now a.plans.now a.plan.now (length a.plan.now) a.cost (take i a.waiting.now) e.1))
