-- The first best actions make the first policy, and it waits alone.
-- Assumes nothing.
use mathlib.Core.Path.{◌≡◌, refl, sym, ap, ◌∙◌, subst}
use mathlib.Core.List.{List, [], ◌∷◌}
use Prim.Native.Nat.{ℕ}
use native.Mathlib.Omega.{arith}
use lib.ListN.{length, get_or}
use lib.Seq.{length-take-le}
use Rattle.model.specs.Model.{Words, state_count, action}
use Rattle.accepted.specs.Options.{Feasible, Alive}
use Rattle.accepted.specs.Shape.{shape, alive_has}
use Rattle.accepted.specs.Demands.{best_policy}
use Rattle.book.specs.declared.Sizes.{Sizes}
use Rattle.costs.proofs.Sums.{read64}
use Rattle.index.specs.Index.{Checked}
use Rattle.sets.specs.Sets.{first-set}
use Rattle.build.proofs.Prefix.{walked_none}
use Rattle.build.specs.Best.{best_at, BestOf}
use Rattle.build.specs.Walk.{walk_by, chosen}
use Rattle.build.proofs.Best.{best_option}
use Rattle.engine.specs.Engine.{first_candidate}
use Rattle.engine.proofs.Joins.{few}
use Rattle.engine.proofs.Start.{first_walk, best_long, first_alone}
use Rattle.engine.proofs.first_pool.Goals as goal

best-first : {ws : Words} {z : Sizes} {best : List ℕ} {x : ℕ} → Checked ws z → BestOf ws best → x ≡ get_or best 0 0 → x ≡ best_at ws 0
best-first {ws} h f e = e ∙ f.best_is 0 (shape ws h.ok).some_state

pub slice_bounds-room-end : goal.slice_bounds-room-end
slice_bounds-room-end c = omega (arith, few c.requires.0)

pub slice_bounds-row-end : goal.slice_bounds-row-end
slice_bounds-row-end c = sym (length-take-le c.args.z.s _ (few c.requires.0))

pub build-requires : goal.build-requires
build-requires c =
    let ws = c.args.b.now in
    let h = c.requires in (
      h.0.ok,
      h.1,
      h.2,
      (λ i l. absurd (omega arith)),
      (shape ws h.0.ok).some_state,
      subst (Feasible ws 0) (sym (best-first h.0 h.2 refl)) (best_option ws 0 h.3),
      walked_none ws [] h.3 1 first-set,
      length-take-le c.args.z.s _ (few h.0) ∙ h.0.sizes.s_is,
    )

-- the bytes are those of the first policy
module _ {ws : Words} {z : Sizes} {best : List ℕ} (h : Checked ws z) (f : BestOf ws best) (some : Alive ws 0) {row : List ℕ}
    (is : row ≡ walk_by (action ws) (chosen ws [] 0 (get_or best 0 0)) (state_count ws) 0 (0 ∷ [])) where
  row_is : row ≡ best_policy ws
  row_is = is ∙ first_walk ws h.ok [] _ (best-first h f refl)

  long : length row ≡ state_count ws
  long = ap length row_is ∙ best_long ws h.ok (alive_has ws h.ok some)

pub returns : goal.returns
returns c =
    let h = c.requires in
    let i = c.single.ensures in (
      i.0,
      i.1,
      first_alone c.single.result (state_count c.args.b.now) (first_candidate c.args.b.now) (long h.0 h.2 h.3 c.build.ensures)
          (read64 c.args.cost c.ranges.cost.sfits ∙ h.4) (row_is h.0 h.2 h.3 c.build.ensures) i.2,
    )
