-- Assumes nothing.
use mathlib.Core.Path.{◌≡◌, sym, ◌∙◌}
use native.Mathlib.Omega.{arith}
use mir.Syntax.{w64}
use mir.Val.{to_z, of_z}
use lib.Seq.{length-take-le}
use Rattle.std.proofs.Common.{rules}
use Rattle.engine.proofs.Joins.{few, stays_out, no_place, before_last, last_low, placed}
use Rattle.engine.proofs.join.Goals as goal

pub returns-then-beyond : goal.returns-then-beyond
returns-then-beyond c =
    let same : to_z w64 (of_z w64 c.args.d.cost) ≡ c.args.d.cost = search rules in
    let e = rw same at c.beyond.ensures in
    stays_out c.requires.0 c.args.plan.now c.args.p c.args.d c.args.pool.now c.requires.7 (sym e ∙ c.if-beyond.true)

pub slice_bounds-room-end : goal.slice_bounds-room-end
slice_bounds-room-end c = omega (arith, few c.requires.0)

pub slice_bounds-row-end : goal.slice_bounds-row-end
slice_bounds-row-end c = sym (length-take-le c.args.z.s _ (few c.requires.0))

pub build-requires : goal.build-requires
build-requires c =
    let h = c.requires in
    (h.0.ok, h.1, h.2, h.3, h.4, h.5, h.6, length-take-le c.args.z.s _ (few h.0) ∙ h.0.sizes.s_is)

pub overflow_cast-pool : goal.overflow_cast-pool
overflow_cast-pool c = omega (arith, few c.requires.0, c.requires.0.sizes.s_is)

pub move_up-requires : goal.move_up-requires
move_up-requires c =
    let same : to_z w64 (of_z w64 c.args.d.cost) ≡ c.args.d.cost = search rules in
    let e = rw same at c.place-i.ensures in (
      c.requires.7.slots.long,
      before_last c.requires.0 c.args.plan.now c.args.p c.args.d c.args.pool.now c.requires.7 c.build.ensures e c.spare_place-last.ensures c.if-i-k.true,
      last_low c.requires.0 c.args.plan.now c.args.p c.args.d c.args.pool.now c.requires.7 c.build.ensures e c.spare_place-last.ensures c.if-i-k.true,
    )

pub returns-then-i-k : goal.returns-then-i-k
returns-then-i-k c =
    let same : to_z w64 (of_z w64 c.args.d.cost) ≡ c.args.d.cost = search rules in
    let e = rw same at c.place-i.ensures in
    rw same
    (placed c.requires.0 c.args.plan.now c.args.p c.args.d c.args.pool.now c.requires.7 c.build.ensures e c.spare_place-last.ensures c.if-i-k.true c.write_row.ensures c.move_up.ensures)

pub returns-else-i-k : goal.returns-else-i-k
returns-else-i-k c =
    let same : to_z w64 (of_z w64 c.args.d.cost) ≡ c.args.d.cost = search rules in
    let e = rw same at c.place-i.ensures in
    no_place c.requires.0 c.args.plan.now c.args.p c.args.d c.args.pool.now c.requires.7 c.build.ensures e c.if-i-k.false
