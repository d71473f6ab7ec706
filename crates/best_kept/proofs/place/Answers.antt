-- Assumes nothing.
use mathlib.Core.Path.{◌≡◌, sym, ◌∙◌}
use mathlib.Core.Bool.{true}
use Prim.Native.Nat.{◌-◌}
use native.Mathlib.Omega.{arith}
use lib.IntN.{pos}
use lib.Signed.{le_z}
use lib.ListN.{get_or, take}
use lib.Seq.{length-take-le, get_or-take}
use mir.Syntax.{w64}
use mir.Val.{SFits}
use Rattle.std.proofs.Common.{rules}
use Rattle.std.proofs.lemmas.Int.{to_z-of_z}
use Rattle.std.proofs.lemmas.List.Sorted.{IsPartitionPoint-from_clause}
use Rattle.best_kept.proofs.Found.{parted, first_above, none_above}
use Rattle.best_kept.proofs.place.Goals as goal

pub returns : goal.returns
returns c =
    let zs = take c.args.n c.args.costs.now in
    first_above c.args.cost zs _ (omega arith)
    (IsPartitionPoint-from_clause (λ z. le_z z c.args.cost) zs _ c.partition_point.ensures.partitioned (parted c.args.cost zs c.requires.2)
    (λ a r f k. search rules))

pub returns-then-costs-n : goal.returns-then-costs-n
returns-then-costs-n c =
    let f = c.ranges.cost in
    let cs = c.args.costs.now in
    let n = c.args.n in
    let l = length-take-le n cs c.requires.1 in
    let g : SFits w64 (get_or cs (n - 1) (pos 0)) = search rules in
    let h : le_z (get_or cs (n - 1) (pos 0)) c.args.cost ≡ true = simp to_z-of_z at c.if-costs-n.true in
    sym l
    ∙ none_above c.args.cost (take n cs) c.requires.2 (pos 0) (λ k. rw (l, get_or-take n cs (n - 1) (pos 0) (omega (arith, c.if-n-gt0.true))) h)
