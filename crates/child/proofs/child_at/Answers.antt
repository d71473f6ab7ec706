-- At a state that is not reached, or where no action is left, there is no child.
-- Assumes nothing.
use mathlib.Core.Path.{◌≡◌, ap, ◌∙◌}
use mathlib.Core.List.{List, []}
use Prim.Native.Nat.{ℕ}
use lib.IntN.{ℤ, pos, ◌+ℤ◌, ◌-ℤ◌, ◌*ℤ◌}
use lib.ListN.{get_or}
use mir.Syntax.{w64}
use mir.Val.{to_z, of_z}
use Rattle.model.specs.Model.{Words}
use Rattle.costs.proofs.Sums.{read64}
use Rattle.table.specs.Table.{row_of}
use Rattle.stored.specs.Entry.{Entry}
use Rattle.stored.specs.Children.{child_entry}
use Rattle.child.specs.Children.{ChildAt, entry_of, joined, admitted}
use Rattle.child.proofs.Children.{in_plan, Facts, facts, made_is}
use Rattle.child.proofs.State.{small, none, child_at_lem, one}
use Rattle.child.proofs.child_at.Goals as goal
use Rattle.child.proofs.child_at.Goals.{Else-c-eq255}

pub bounds-plan-p : goal.bounds-plan-p
bounds-plan-p c =
    in_plan c.args.b.now c.requires.0.ok c.args.q.now c.requires.1 (entry_of c.args.e c.args.plan.now) c.requires.4.right c.args.p c.requires.6

pub mask_at-mask-requires : goal.mask_at-mask-requires
mask_at-mask-requires c =
    small c.args.b.now c.requires.0.ok c.args.q.now c.requires.1 (entry_of c.args.e c.args.plan.now) c.requires.4.right c.args.p c.requires.5
    c.requires.6 0 [] c.if-f-eq255.false

pub returns-then-c-eq255 : goal.returns-then-c-eq255
returns-then-c-eq255 c =
    let en = entry_of c.args.e c.args.plan.now in
    record {
      joins = λ k es. none c.args.b.now c.requires.0.ok c.args.q.now c.requires.1 en c.requires.4.right c.args.p c.requires.5 c.requires.6 k es
          c.if-f-eq255.false c.args.best.now c.requires.2 c.requires.3 _ _ c.mask_at-mask.ensures c.next_action-c.ensures c.if-c-eq255.true;
      goes_on = tt;
    }

-- where an action is left
module _ (c : goal.Else-c-eq255) where
  abbrev ws : Words
  ws = c.args.b.now

  abbrev en : Entry
  en = entry_of c.args.e c.args.plan.now

  child : ChildAt ws en c.args.p c.next_action-c.result c.mask_at-mask.result
  child =
      child_at_lem ws c.requires.0.ok c.args.q.now c.requires.1 en c.requires.4.right c.args.p c.requires.5 c.requires.6 0 []
      c.if-f-eq255.false c.args.best.now c.requires.2 c.requires.3 _ _ c.mask_at-mask.ensures c.next_action-c.ensures c.if-c-eq255.false

  known : Facts ws c.args.q.now en c.args.w.now c.args.p c.next_action-c.result (get_or c.args.plan.now c.args.p 0)
  known =
      facts ws c.requires.0.ok c.args.q.now c.requires.1 en c.requires.4.right c.args.w.now
      c.requires.4.weights c.args.p c.next_action-c.result c.mask_at-mask.result child

  joins : (k : ℕ) (es : List Entry) → joined k (child_entry ws en c.args.p) es ≡ admitted ws k en c.args.p es
  joins k es =
      one ws c.requires.0.ok c.args.q.now c.requires.1 en c.requires.4.right c.args.p c.requires.5 c.requires.6 k es
      c.if-f-eq255.false c.args.best.now c.requires.2 c.requires.3 _ _ c.mask_at-mask.ensures c.next_action-c.ensures c.if-c-eq255.false

  -- the cost that is passed on is the child's
  money : (r : ℤ)
      → r ≡ to_z w64 (of_z w64 c.args.e.cost) +ℤ pos (get_or c.args.w.now c.args.p 0)
      *ℤ (row_of c.args.q.now c.args.p c.next_action-c.result -ℤ row_of c.args.q.now c.args.p
      (get_or c.args.plan.now c.args.p 0))
      → to_z w64 (of_z w64 r) ≡ (child_entry ws en c.args.p).cost
  money r h =
      ap (λ (z : ℤ). to_z w64 (of_z w64 z)) (rw (read64 c.args.e.cost known.cost-fits.sfits) at h ∙ known.cost_is)
      ∙ read64 (child_entry ws en c.args.p).cost known.child_fits.sfits

pub child_cost-cost-requires : goal.child_cost-cost-requires
child_cost-cost-requires c =
    let k = known (goal.at.child_cost-cost-requires c).Else-c-eq255 in
    (k.p_small, k.c_small, k.own_small, rw (read64 c.args.e.cost k.cost-fits.sfits) k.movable)

pub returns : goal.returns
returns c =
    let d = (goal.at.returns c).Else-c-eq255 in record {
      joins = λ k es. ap (λ (e : Entry). joined k e es)
          (made_is (ws d) c.args.q.now (en d) c.args.w.now c.args.p c.next_action-c.result
          (get_or c.args.plan.now c.args.p 0) (known d)
          (money d _ c.child_cost-cost.ensures) (child d).mask_is)
          ∙ joins d k es;
      goes_on = (known d).c_feasible;
    }
