-- What a child is, by the table, the reach weights and the walk.
-- Assumes nothing.
use mathlib.Core.Path.{◌≡◌, sym, ap, ◌∙◌, subst}
use mathlib.Core.List.{List, [], ◌∷◌}
use Prim.Native.Nat.{ℕ, ◌≤◌, ◌<◌}
use native.Mathlib.Omega.{arith}
use lib.Dec.{lit<}
use mir.Syntax.{w64}
use mir.Val.{SFits}
use lib.IntN.{ℤ, pos, nat_abs, ◌+ℤ◌, ◌-ℤ◌, ◌*ℤ◌}
use lib.ListN.{length, get_or}
use Rattle.model.specs.Questions.{book_number}
use Rattle.build.specs.Best.{RowsOf}
use Rattle.model.specs.Model.{Words, scale, state_count, togo, action}
use Rattle.model.specs.Path.{byte_at, taken}
use Rattle.model.specs.Recursion.{best_of, through, feasible}
use Rattle.laws.specs.Members.{true-T}
use Rattle.accepted.specs.Options.{Feasible, feasible_small}
use Rattle.accepted.specs.Facts.{accepted}
use Rattle.accepted.specs.Shape.{togo_start}
use Rattle.accepted.specs.Demands.{to_go_fits}
use Rattle.book.proofs.Words.{fits64}
use Rattle.table.specs.Table.{row_of}
use Rattle.build.specs.Walk.{walk_by, chosen, Own, ActionOrNone}
use Rattle.build.proofs.Walk.{walk-greedy}
use Rattle.reach.specs.Weights.{WeightsOf}
use Rattle.accepted.specs.Bytes.{byte_is, policy_long}
use Rattle.splits.specs.Parts.{Reaches}
use Rattle.stored.specs.Entry.{Entry}
use Rattle.stored.specs.Lists.{left-feasible, lists_of}
use Rattle.stored.specs.Children.{Right, mask_at, child_entry, plan_model, child-right}
use Rattle.stored.specs.Costs.{cost_moves}
use Rattle.child.specs.Move.{Movable}
use Rattle.child.proofs.Moves.{movable}
use Rattle.child.proofs.Plans.{child_plan}
use Rattle.child.proofs.Splits.{byte-feasible, reaches_here}
use Rattle.child.specs.Children.{ChildAt, child_of}

-- what the code needs of the child with action c at state p, whose parent's byte there is f
pub record Facts (ws : Words) (q : List ℤ) (e : Entry) (w : List ℕ) (p c f : ℕ) : Type 0 where
  pub in_plan : p < length e.plan
  pub p_small : p < 64
  pub c_small : c < 8
  pub own_small : f < 8
  pub c_feasible : Feasible ws p c
  pub cost-fits : SFits w64 e.cost
  pub movable : Movable e.cost (get_or w p 0) (row_of q p c) (row_of q p f)
  pub plan_is : walk_by (action ws) (chosen ws e.plan p c) (state_count ws) 0 (0 ∷ []) ≡ (child_entry ws e p).plan
  pub cost_is : e.cost +ℤ pos (get_or w p 0) *ℤ (row_of q p c -ℤ row_of q p f) ≡ (child_entry ws e p).cost
  pub child_long : length (child_entry ws e p).plan ≡ state_count ws
  pub child_fits : SFits w64 (child_entry ws e p).cost

module _ (ws : Words) (ok : book_number ws ≡ 0) (q : List ℤ) (rows : RowsOf ws q) (e : Entry) (ri : Right ws e) where
  pub in_plan : (p : ℕ) → p < state_count ws → p < length e.plan
  in_plan p h = omega (arith, policy_long ws ok e.plan (plan_model ws ok e ri))

  pub fits : (d : Entry) → Right ws d → SFits w64 d.cost
  unfolding taken
  fits d r =
      fits64 4000000000000000000 d.cost
      (subst (λ (z : ℤ). nat_abs z ≤ 4000000000000000000) (sym r.cost_is)
      (to_go_fits ws ok d.plan (true-T (plan_model ws ok d r)) (togo ws 0) 0 (omega (arith, togo_start ws ok)))) (lit< tt)

  module _ (w : List ℕ) (wo : WeightsOf ws e.plan w) (p c mask : ℕ) (ch : ChildAt ws e p c mask) where
    abbrev row : ℕ → ℤ
    row = through (scale ws) (action ws) (feasible ws) (togo ws p) p

    p_small : p < 64
    p_small = omega (arith, ch.state, (accepted ws ok).sizes.s_high)

    own_small : byte_at e.plan p < 8
    own_small = feasible_small ws ok p ch.state ch.own

    c_feasible : Feasible ws p c
    c_feasible = left-feasible ws p (mask_at e p) c ch.some

    c_small : c < 8
    c_small = feasible_small ws ok p ch.state c_feasible

    here : Reaches (action ws) p 0 (0 ∷ []) e.plan
    here = reaches_here ws ok e ri p ch.state ch.from (λ b. omega (arith, b, own_small))

    row_is : (d : ℕ) → Feasible ws p d → row_of q p d ≡ row d
    row_is d h = rows.through_is p d ch.state h

    moves : Movable e.cost (get_or w p 0) (row_of q p c) (row_of q p (byte_at e.plan p))
    moves =
        rw (wo.at p ch.state, row_is c c_feasible, row_is (byte_at e.plan p) ch.own, ch.next)
        (movable ws ok e ri p ch.state ch.from here (c, ch.some))

    plan_is : walk_by (action ws) (chosen ws e.plan p c) (state_count ws) 0 (0 ∷ []) ≡ (child_entry ws e p).plan
    plan_is =
        ap (λ (d : ℕ). walk_by (action ws) (chosen ws e.plan p d) (state_count ws) 0 (0 ∷ [])) ch.next
        ∙ child_plan ws ok e ri p ch.from

    cost_is : e.cost +ℤ pos (get_or w p 0) *ℤ (row_of q p c -ℤ row_of q p (byte_at e.plan p)) ≡ (child_entry ws e p).cost
    cost_is =
        rw (wo.at p ch.state, row_is c c_feasible, row_is (byte_at e.plan p) ch.own, ch.next)
        (sym (cost_moves ws ok e ri p ch.from here (c, ch.some)))

    child_right' : Right ws (child_entry ws e p)
    child_right' = child-right ws ok e ri p ch.from here (c, ch.some)

    child_long : length (child_entry ws e p).plan ≡ state_count ws
    child_long = policy_long ws ok (child_entry ws e p).plan (plan_model ws ok (child_entry ws e p) child_right')

    pub facts : Facts ws q e w p c (get_or e.plan p 0)
    facts =
        subst (Facts ws q e w p c) (byte_is e.plan p 255 0 (in_plan p ch.state))
        record {
          in_plan = in_plan p ch.state;
          p_small = p_small;
          c_small = c_small;
          own_small = own_small;
          c_feasible = c_feasible;
          cost-fits = fits e ri;
          movable = moves;
          plan_is = plan_is;
          cost_is = cost_is;
          child_long = child_long;
          child_fits = fits (child_entry ws e p) child_right';
        }

-- the child that is made is the child of e
pub made_is : (ws : Words) (q : List ℤ) (e : Entry) (w : List ℕ) (p c f : ℕ) {x : ℤ} {m : ℕ} → Facts ws q e w p c f → x ≡ (child_entry ws e p).cost
    → m ≡ mask_at e p
    → child_of ws e.plan p (record { cost = x; action = c; mask = m }) ≡ child_entry ws e p
made_is ws q e w p c f h hx hm = λ t. record { cost = hx t; plan = h.plan_is t; split = p; mask = hm t }

-- the bytes of a candidate are those of a walk, and each is an action or 255
module _ (ws : Words) (ok : book_number ws ≡ 0) (e : Entry) (ri : Right ws e) where
  pub own-walk : Own ws e.plan
  own-walk =
      record {
        by = λ s. best_of (through (scale ws) (action ws) (lists_of ws e) (togo ws s) s) (lists_of ws e s);
        own = ri.plan_is ∙ walk-greedy (scale ws) (action ws) (lists_of ws e) (togo ws) (state_count ws) 0 (0 ∷ []);
      }

  pub action_or_none : (p : ℕ) → p < state_count ws → ActionOrNone ws e.plan p
  action_or_none p h =
      (omega (arith, policy_long ws ok e.plan (plan_model ws ok e ri)), byte-feasible ws ok e ri p h)
