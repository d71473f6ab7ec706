-- It stays out after k others, else it goes in at its place.
-- Assumes nothing.
use mathlib.Core.Path.{◌≡◌}
use mathlib.Core.List.{List}
use Prim.Native.Nat.{ℕ, min, ◌+◌, ◌*◌, ◌-◌, ◌≤◌, ◌<◌}
use native.Mathlib.Nat.{mul-le-mul}
use native.Mathlib.Omega.{arith}
use lib.IntN.{ℤ}
use lib.Signed.{lt_z}
use lib.ListN.{length, take}
use lib.Seq.{length-take-le}
use Rattle.std.proofs.lemmas.Int.{to_z-of_z}
use Rattle.best_kept.specs.Placed.{place_of}
use Rattle.best_kept.specs.Insertion.{where_most}
use Rattle.best_kept.proofs.keep.Goals as goal

-- what is true where it goes in at place i, and `last` is the last place then
record Goes (k i last bytes room : ℕ) : Type 0 where
  high : i ≤ last
  low : last < k
  -- in bytes
  before : i * bytes ≤ last * bytes
  roomy : last * bytes + bytes ≤ room

goes : (costs : List ℤ) (n k : ℕ) (cost : ℤ) (i last bytes room : ℕ) → n ≤ k → 1 ≤ k → k ≤ length costs → k * bytes ≤ room
    → i ≡ place_of n cost costs → last ≡ min n (k - 1) → i < k → Goes k i last bytes room
goes costs n k cost i last bytes room few some long wide at end fewer =
    record {
      high = high;
      low = low;
      before = mul-le-mul {n₁ = i} {m₁ = bytes} {n₂ = last} {m₂ = bytes} high (omega arith);
      roomy = omega (arith, mul-le-mul {n₁ = last + 1} {m₁ = bytes} {n₂ = k} {m₂ = bytes} (omega (arith, low)) (omega arith));
    }
  where
    high : i ≤ last
    high = omega (arith, at, where_most (lt_z cost) (take n costs), length-take-le n costs (omega arith))

    low : last < k
    low = omega arith

pub open-requires : goal.open-requires
open-requires c =
    let f = c.ranges.cost in
    let e = simp to_z-of_z at c.place-i.ensures in
    let g = goes c.args.costs.now c.args.n c.args.k c.args.cost c.place-i.result c.min-last.result (length c.args.plan.now) (length c.args.plans.now)
    c.requires.0 c.requires.1 c.requires.3 c.requires.4 e c.min-last.ensures c.if-k-i.false in
    let h = g.high in
    (omega (arith, h), omega (arith, h))
