-- A cost that is handed on is the same.
-- Assumes nothing.
use mathlib.Core.Path.{◌≡◌, sym, ◌∙◌, subst}
use Prim.Native.Nat.{ℕ, ◌*◌, ◌≤◌}
use native.Mathlib.Omega.{arith}
use lib.IntN.{ℤ}
use lib.ListN.{length}
use mir.Syntax.{w64}
use mir.Val.{SFits}
use mir.Facts.{to_z-of_z}
use borrow.Author.Rules.{rules}
use Rattle.model.specs.Model.{state_count}
use Rattle.accepted.specs.Shape.{shape}
use Rattle.accepted.specs.Demands.{policy-bytes}
use Rattle.best_kept.specs.Placed.{Placed}
use Rattle.rank_small.proofs.join.Goals as goal
use Rattle.rank_small.proofs.join.Goals.{Start}

long : (s : goal.Start) → length s.args.plan.now ≡ state_count s.args.b.now
long s = ((policy-bytes s.args.b.now s.requires.0.checked.ok s.args.plan.now).0 s.requires.3).long

pub keep-requires : goal.keep-requires
keep-requires c =
    let s = (goal.at.keep-requires c).Start in
    let r = s.requires.1 in
    let ws = s.args.b.now in
    let e = long s in (
      s.requires.2,
      r.low,
      r.high,
      r.costs_room,
      subst (λ (m : ℕ). s.args.k * m ≤ length s.args.plans.now) (sym e) r.plans_room,
      omega (arith, e, (shape ws s.requires.0.checked.ok).some_state),
      s.requires.4,
    )

pub returns : goal.returns
returns c =
    let f : SFits w64 c.cost-cost.result = search rules in
    subst (λ (y : ℤ). Placed c.args.n c.args.k y c.args.plan.now c.keep.result c.args.costs.now c.keep.new.costs c.args.plans.now c.keep.new.plans)
    (to_z-of_z {w = w64} f ∙ c.cost-cost.ensures) c.keep.ensures
