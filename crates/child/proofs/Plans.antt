-- The bytes of a child are those of the walk that keeps to its parent's before the split state and takes best actions after it.
-- Assumes nothing.
use mathlib.Core.Path.{◌≡◌, sym, ap, ◌∙◌}
use mathlib.Core.List.{List, [], ◌∷◌}
use Prim.Native.Nat.{ℕ, ◌≤◌, ◌<◌}
use native.Mathlib.Decide.{dec_lt}
use native.Mathlib.Omega.{arith}
use Rattle.model.specs.Model.{Words, scale, state_count, togo, action}
use Rattle.model.specs.Questions.{book_number}
use Rattle.model.specs.Path.{byte_at}
use Rattle.model.specs.Recursion.{best_of, through}
use Rattle.splits.specs.Kbest.{child_at}
use Rattle.stored.specs.Entry.{Entry}
use Rattle.stored.specs.Lists.{lists_of}
use Rattle.stored.specs.Children.{Right, child_entry, plan_model}
use Rattle.stored.specs.Costs.{next_at, best-before, best_here, best-after}
use Rattle.build.specs.Best.{best_at}
use Rattle.build.specs.Walk.{walk_by, chosen, Usable}
use Rattle.build.proofs.Split.{split_before, split_here, split_after}
use Rattle.build.proofs.Walk.{walk_same, walk-greedy}
use Rattle.accepted.specs.Bytes.{feasible_cases, policy_long}

module _ (ws : Words) (ok : book_number ws ≡ 0) (e : Entry) (ri : Right ws e) where
  pub usable : (p : ℕ) → p < state_count ws → Usable ws e.plan p
  usable p h s l =
      let state : s < state_count ws = omega arith in (
        omega (arith, policy_long ws ok e.plan (plan_model ws ok e ri)),
        feasible_cases ws ok e.plan (plan_model ws ok e ri) s state,
      )

  module _ (p : ℕ) (from : e.split ≤ p) where
    pub child_plan : walk_by (action ws) (chosen ws e.plan p (next_at ws ok e ri p from)) (state_count ws) 0 (0 ∷ []) ≡ (child_entry ws e p).plan
    child_plan =
        sym (walk-greedy (scale ws) (action ws) child (togo ws) (state_count ws) 0 (0 ∷ [])
        ∙ walk_same (action ws) best (chosen ws e.plan p next) (state_count ws) 0 (0 ∷ []) (λ s a b. at s (dec_lt s p) (dec_lt p s)))
      where
        child : ℕ → List ℕ
        child = child_at (scale ws) (state_count ws) (action ws) (togo ws) (lists_of ws e) p

        next : ℕ
        next = next_at ws ok e ri p from

        best : ℕ → ℕ
        best s = best_of (through (scale ws) (action ws) child (togo ws s) s) (child s)

        same : (s : ℕ) → ¬ (s < p) → ¬ (p < s) → s ≡ p
        same s h k = omega arith

        at : (s : ℕ) → Dec (s < p) → Dec (p < s) → best s ≡ chosen ws e.plan p next s
        at s (yes h) k = best-before ws ok e ri p from s h ∙ sym (split_before (byte_at e.plan) p next (best_at ws) s h)
        at s (no h) (yes k) = best-after ws ok e ri p from s k ∙ sym (split_after (byte_at e.plan) p next (best_at ws) s k)
        at s (no h) (no k) =
            ap best (same s h k) ∙ best_here ws ok e ri p from ∙ sym (split_here (byte_at e.plan) p next (best_at ws) s (same s h k))
