-- Assumes nothing.
use mathlib.Core.Path.{◌≡◌, refl}
use lib.IntN.{pos}
use native.Mathlib.Omega.{arith}
use Prim.Native.Nat.{◌≤◌}
use lib.ListN.{length, get_or}
use mir.Syntax.{w64}
use mir.Val.{to_z, of_z}
use Rattle.std.proofs.Common.{rules}
use Rattle.pool.proofs.Removal.{shorter_popped}
use Rattle.engine.proofs.Parts.{turned}
use Rattle.engine.proofs.take_first.Goals as goal

pub returns : goal.returns
returns c =
    let p = c.args.pool.now in
    let i = get_or p.order 0 0 in
    let few : p.count ≤ length p.order = omega (arith, c.requires.0.few, c.requires.0.most_high, c.requires.0.slots.long) in
    let cost : to_z w64 (of_z w64 (get_or p.costs i (pos 0))) ≡ get_or p.costs i (pos 0) = search rules in
    record {
      popped = shorter_popped p c.requires.0 c.requires.1 _ (turned p.order _ p.count c.requires.1 few c.rotate_left.ensures.after);
      same-most = refl;
      first = λ t. record { cost = cost t; plan = c.read_row.ensures t; split = get_or p.splits i 0; mask = get_or p.barred i 0 };
    }
