-- The bytes and the cost of a child, by the table of action costs and the reach weights of its parent.
-- Assumes nothing.
use Rattle.std.specs.Prelude.{◌≡◌, List, [], ◌∷◌, ℕ, ◌≤◌, ◌<◌, ℤ, pos, ◌+ℤ◌, ◌-ℤ◌, ◌*ℤ◌}
use Rattle.std.proofs.Common.{sym, ap, ap₂, ◌∙◌, subst, arith}
use Rattle.model.specs.Model.{Words, scale, state_count, togo, action}
use Rattle.model.specs.Questions.{book_number}
use Rattle.model.specs.Policy.{Policy}
use Rattle.model.specs.Path.{byte_at}
use Rattle.model.specs.Recursion.{best_of, through, feasible}
use Rattle.laws.specs.Members.{In}
use Rattle.laws.specs.ToGo.{through_same}
use Rattle.accepted.specs.Options.{Alive}
use Rattle.accepted.specs.Shape.{shape}
use Rattle.splits.specs.Parts.{without, split_lt, split_eq, split_gt, Reaches}
use Rattle.splits.specs.Kbest.{child_at}
use Rattle.splits.specs.Reach.{reach_weight}
use Rattle.splits.specs.ChildCost.{child-cost_by}
use Rattle.stored.specs.Entry.{Entry}
use Rattle.stored.specs.Lists.{left, lists_of, lists_after}
use Rattle.stored.specs.Children.{first_of, cost_of, Right, mask_at, child_entry, left_is}

module _ (ws : Words) (ok : book_number ws ≡ 0) (e : Entry) (ri : Right ws e) (p : ℕ) (from : e.split ≤ p) where
  abbrev child : ℕ → List ℕ
  child = child_at (scale ws) (state_count ws) (action ws) (togo ws) (lists_of ws e) p

  abbrev row : ℕ → ℕ → ℤ
  row s = through (scale ws) (action ws) (feasible ws) (togo ws s) s

  -- the action that the child takes at p
  abbrev pub next_at : ℕ
  next_at = best_of (row p) (left ws p (mask_at e p))

  abbrev own : ℕ → ℕ
  own = byte_at (first_of ws (lists_of ws e))

  after : (s : ℕ) → p < s → lists_of ws e s ≡ feasible ws s
  after s h = lists_after ws e s (omega arith)

  child-after : (s : ℕ) → p < s → child s ≡ feasible ws s
  child-after s h = split_gt own p (without (own p) (lists_of ws e p)) (lists_of ws e) s h ∙ after s h

  child_here : child p ≡ left ws p (mask_at e p)
  child_here =
      split_eq own p (without (own p) (lists_of ws e p)) (lists_of ws e)
      ∙ ap (λ (bs : Policy). without (byte_at bs p) (lists_of ws e p)) (sym ri.plan_is)
      ∙ sym (left_is ws ok e ri p from)

  rows_same : (s : ℕ) → p ≤ s → through (scale ws) (action ws) child (togo ws s) s ≡ row s
  rows_same s h = through_same (scale ws) (action ws) (shape ws ok).later child (feasible ws) p child-after (togo ws s) s h

  -- the child's first policy takes: its parent's action before p, the next best at p, and first best actions after it
  pub best-before : (s : ℕ) → s < p → best_of (through (scale ws) (action ws) child (togo ws s) s) (child s) ≡ byte_at e.plan s
  best-before s h =
      ap (best_of (through (scale ws) (action ws) child (togo ws s) s)) (split_lt own p (without (own p) (lists_of ws e p)) (lists_of ws e) s h)
      ∙ ap (λ (bs : Policy). byte_at bs s) (sym ri.plan_is)

  pub best_here : best_of (through (scale ws) (action ws) child (togo ws p) p) (child p) ≡ next_at
  best_here = ap₂ best_of (rows_same p (omega arith)) child_here

  pub best-after : (s : ℕ) → p < s → best_of (through (scale ws) (action ws) child (togo ws s) s) (child s) ≡ best_of (row s) (feasible ws s)
  best-after s h = ap₂ best_of (rows_same s (omega arith)) (child-after s h)

  -- its cost is its parent's, moved by the reach weight of p times the difference of the two actions' costs
  pub cost_moves : Reaches (action ws) p 0 (0 ∷ []) e.plan → (some : (c : ℕ) × In c (left ws p (mask_at e p)))
      → (child_entry ws e p).cost ≡ e.cost +ℤ pos (reach_weight (action ws) e.plan p) *ℤ (row p next_at -ℤ row p (byte_at e.plan p))
  cost_moves reached some =
      child-cost_by (scale ws) (state_count ws) (action ws) (togo ws) (shape ws ok) (Alive ws) (feasible ws) (lists_of ws e) ri.lists p after
      (subst (Reaches (action ws) p 0 (0 ∷ [])) ri.plan_is reached)
      (some.0, subst (λ (bs : Policy). In some.0 (without (byte_at bs p) (lists_of ws e p))) ri.plan_is (subst (In some.0) (left_is ws ok e ri p from) some.1))
      ∙ ap (λ (bs : Policy). cost_of ws bs +ℤ pos (reach_weight (action ws) bs p)
      *ℤ (row p (best_of (row p) (without (byte_at bs p) (lists_of ws e p))) -ℤ row p (byte_at bs p))) (sym ri.plan_is)
      ∙ ap₂ (λ (z : ℤ) (xs : List ℕ). z +ℤ pos (reach_weight (action ws) e.plan p) *ℤ (row p (best_of (row p) xs) -ℤ row p (byte_at e.plan p)))
      (sym ri.cost_is) (sym (left_is ws ok e ri p from))
