-- The difference, the product and the result are within their bounds, which 64 bits hold.
-- Assumes nothing.
use mathlib.Core.Path.{◌≡◌}
use native.Mathlib.Omega.{arith}
use lib.IntN.{pos, ◌+ℤ◌, ◌-ℤ◌, ◌*ℤ◌}
use mir.Syntax.{w64}
use mir.Val.{SFits, to_z}
use mir.Facts.{to_z-of_z, to_z_pos}
use Rattle.child.proofs.Moves.{difference_fits, product_fits, result_fits}
use Rattle.child.proofs.moved.Goals as goal

module _ (c : goal.Start) where
  weight : to_z w64 c.args.w ≡ pos c.args.w
  weight = to_z_pos w64 {n = c.args.w} (omega (arith, c.requires.weight))

  difference : SFits w64 (c.args.new -ℤ c.args.old)
  difference = difference_fits c.args.cost c.args.w c.args.new c.args.old c.requires

  product : SFits w64 (pos c.args.w *ℤ (c.args.new -ℤ c.args.old))
  product = product_fits c.args.cost c.args.w c.args.new c.args.old c.requires

  result : SFits w64 (c.args.cost +ℤ pos c.args.w *ℤ (c.args.new -ℤ c.args.old))
  result = result_fits c.args.cost c.args.w c.args.new c.args.old c.requires

pub overflow_mul-result : goal.overflow_mul-result
overflow_mul-result c = simp (weight c, to_z-of_z c.ranges.new, to_z-of_z c.ranges.old, to_z-of_z (difference c)) (product c)

pub overflow_add-result : goal.overflow_add-result
overflow_add-result c =
    simp (weight c, to_z-of_z c.ranges.cost, to_z-of_z c.ranges.new, to_z-of_z c.ranges.old, to_z-of_z (difference c), to_z-of_z (product c)) (result c)

pub returns : goal.returns
returns c =
    simp (
      weight c,
      to_z-of_z c.ranges.cost,
      to_z-of_z c.ranges.new,
      to_z-of_z c.ranges.old,
      to_z-of_z (difference c),
      to_z-of_z (product c),
      to_z-of_z (result c),
    )
