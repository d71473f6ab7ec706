-- The words passed so far add to sum.
-- Assumes nothing.
use mathlib.Core.Path.{◌≡◌}
use Prim.Native.Nat.{◌*◌, ◌≤◌}
use lib.IntN.{nat_abs}
use Rattle.model.specs.Model.{word}
use Rattle.reward_table.specs.Table.{sum_z}
use Rattle.reward_table.proofs.weigh.Given as goal

abbrev pub invariant-loop-x : goal.invariant-loop-x
invariant-loop-x l = (l.sum ≡ sum_z l.x-index (word l.ws)) × (nat_abs (l.sum) ≤ l.x-index * 2147483648)
