-- The word read is the action's cost. 64 bits hold what 32 bits hold.
-- Assumes nothing.
use Prim.Native.Nat.{◌+◌}
use native.Mathlib.Omega.{arith}
use lib.IntN.{pos}
use lib.ListN.{get_or}
use mir.Syntax.{w32}
use mir.Val.{SFits}
use mir.Facts.{to_z-of_z}
use Rattle.std.proofs.Common.{rules}
use Rattle.model.specs.Model.{word}
use Rattle.book.proofs.Words.{read32, wider}
use Rattle.lines.proofs.Words.{inside, cost-word}
use Rattle.lines.proofs.cost.Goals as goal

pub overflow_add-result : goal.overflow_add-result
overflow_add-result c = omega (arith, inside c.requires)

pub offset_bounds-b-t : goal.offset_bounds-b-t
offset_bounds-b-t c = omega (arith, inside c.requires)

pub bounds-b-t : goal.bounds-b-t
bounds-b-t c = omega (arith, inside c.requires)

pub returns : goal.returns
unfolding word
returns c =
    let y = get_or c.args.b.now (c.args.t.at + c.args.t.l) (pos 0) in
    let f : SFits w32 y = search rules in
    simp (read32 y f.sfits, to_z-of_z (wider {z = y} f.sfits)) (cost-word c.requires)
