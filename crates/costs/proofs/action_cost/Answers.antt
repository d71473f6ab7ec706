-- The action's cost against its unit, and then what is expected after it.
-- Assumes nothing.
use mathlib.Core.Path.{◌≡◌}
use mathlib.Core.Logic.{inr}
use Prim.Native.Nat.{◌+◌, ◌*◌, ◌^◌, ◌≤◌}
use native.Mathlib.Nat.{le_trans}
use native.Mathlib.Omega.{arith}
use lib.IntN.{pos, nat_abs, ◌+ℤ◌, ◌*ℤ◌}
use Rattle.model.specs.Model.{Words, scale, togo, action}
use Rattle.accepted.specs.Facts.{accepted}
use Rattle.power.proofs.Range.{power_high}
use Rattle.costs.specs.Terms.{abs_expected, value_at}
use Rattle.costs.proofs.Sums.{read64, start_small, start_rest}
use Rattle.costs.proofs.Actions.{within_most, most_small_lem}
use Rattle.costs.proofs.action_cost.Goals as goal
use Rattle.costs.proofs.action_cost.Goals.{After-mul_add-start, Start}

module _ (s : goal.Start) where
  abbrev ws : Words
  ws = s.args.b.now

  few : togo ws s.args.p ≤ 8
  unfolding togo
  few = omega (arith, (accepted ws s.requires.0.ok).sizes.h_high)

  -- the cost against D^m, and what is expected after it
  total : scale ws ^ togo ws s.args.p * nat_abs (action ws s.args.p s.args.c).cost
      + abs_expected (value_at s.args.v.now) (action ws s.args.p s.args.c).transitions
      ≤ 4000000000000000000
  total =
      le_trans (within_most ws s.requires.0.ok s.args.p s.args.c (value_at s.args.v.now) (inr s.requires.2) s.requires.3)
      (most_small_lem ws s.requires.0.ok s.args.p s.args.c s.args.p)

pub mul_add-start-requires : goal.mul_add-start-requires
mul_add-start-requires c =
    let s = (goal.at.mul_add-start-requires c).Start in
    rw (read64 c.cost.result c.cost.type_inv) (
      start_small s.args.unit _ c.cost.result _ _ s.requires.1 c.cost.ensures (total s),
      omega (
        arith,
        s.requires.1,
        power_high (scale (ws s)) (togo (ws s) s.args.p) (accepted (ws s) s.requires.0.ok).sizes.d_high (few s),
      ),
    )

first : (c : goal.After-mul_add-start) → c.mul_add-start.result ≡ pos 0 +ℤ pos c.args.unit *ℤ c.cost.result
first c = rw (read64 c.cost.result c.cost.type_inv) at c.mul_add-start.ensures

pub expect-requires : goal.expect-requires
expect-requires c =
    let s = (goal.at.expect-requires c).Start in (
      s.requires.0,
      rw (read64 c.mul_add-start.result c.mul_add-start.type_inv)
          (start_rest s.args.unit _ c.cost.result _ _ s.requires.1 c.cost.ensures (total s) c.mul_add-start.result (first c)),
    )
