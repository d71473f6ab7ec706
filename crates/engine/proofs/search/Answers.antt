-- Assumes nothing.
use mathlib.Core.Path.{◌≡◌, refl}
use native.Mathlib.Omega.{arith}
use mir.Syntax.{w64}
use mir.Val.{to_z, of_z}
use Rattle.std.proofs.Common.{rules}
use Rattle.accepted.specs.Shape.{alive_has}
use Rattle.engine.proofs.Joins.{few}
use Rattle.engine.proofs.Ranking.{first-rights}
use Rattle.engine.proofs.Turns.{turns_start, turns_empty, turns_end, some, part_size, taken_right, listed_split, listed_last}
use Rattle.engine.proofs.search.Goals as goal
use Rattle.engine.proofs.search.Goals.{then-j-k, else-j-k}

pub loop-j-init : goal.loop-j-init
loop-j-init c =
    let ws = c.args.b.now in
    let ok = c.requires.0.indexed.checked.ok in
    let p = c.first_pool-pool.ensures in
    turns_start ws ok c.args.k c.args.costs.now c.args.plans.now _ p.0 p.1 p.2 (first-rights ws ok (alive_has ws ok c.requires.1.some) _ refl)

pub returns-then-pool-eq0 : goal.returns-then-pool-eq0
returns-then-pool-eq0 c =
    turns_empty c.args.b.now c.requires.0.indexed.checked.ok c.args.k c.args.costs.now c.args.plans.now c.loop-j.invariant c.if-pool-eq0.true

pub take_first-e-requires : goal.take_first-e-requires
take_first-e-requires c =
    let known = c.requires.0.indexed.checked in
    let t = c.loop-j.invariant in (
      t.formed,
      some known t c.if-pool-eq0.false c.loop-j-test.true c.requires.2,
      omega (arith, part_size known t c.if-pool-eq0.false c.loop-j-test.true c.requires.2, few known, known.sizes.s_is),
    )

pub split-requires : goal.split-requires
split-requires c =
    let known = c.requires.0.indexed.checked in (
      c.requires.0,
      c.requires.1.seconds (omega arith),
      taken_right known c.loop-j.invariant c.if-pool-eq0.false c.loop-j-test.true c.requires.2 c.take_first-e.ensures,
      c.take_first-e.ensures.popped.formed,
    )

pub loop-j-preserved : goal.loop-j-preserved
loop-j-preserved c =
    let known = c.requires.0.indexed.checked in
    let t = c.loop-j.invariant in
    let same : to_z w64 (of_z w64 c.take_first-e.result.cost) ≡ c.take_first-e.result.cost = search rules in
    elim c.if-j-k.branch [
      | then-j-k w ↦ rw (w.pool-is, w.plans-is, same) (listed_split known t c.if-pool-eq0.false c.loop-j-test.true c.requires.2 c.take_first-e.ensures w.split.ensures)
      | else-j-k w ↦ rw (w.pool-is, w.plans-is, same) (listed_last known t c.if-pool-eq0.false c.loop-j-test.true c.requires.2 c.take_first-e.ensures w.if-j-k.false)
    ]

pub returns : goal.returns
returns c =
    let e : c.loop-j.j ≡ c.args.k = omega arith in
    rw e at (turns_end c.args.b.now c.requires.0.indexed.checked.ok c.args.k c.args.costs.now c.args.plans.now c.loop-j.invariant (omega arith))
