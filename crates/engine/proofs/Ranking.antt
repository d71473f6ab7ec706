-- The list of the search is the ranking, and the search begins with its first policy.
-- Assumes nothing.
use mathlib.Core.Path.{◌≡◌, refl, sym, ap, ◌∙◌, subst}
use mathlib.Core.Bool.{true, false}
use mathlib.Core.List.{List, [], ◌∷◌, map}
use Prim.Native.Nat.{ℕ}
use native.Mathlib.Omega.{arith}
use lib.Dec.{lit<}
use lib.IntN.{ℤ, pos}
use lib.ListN.{length, get_or, length-map}
use mir.Syntax.{w64}
use mir.Val.{SFits, to_z, of_z}
use Rattle.model.specs.Lists.{for_each}
use Rattle.model.specs.Model.{Words, scale, state_count, togo, action}
use Rattle.model.specs.Questions.{book_number}
use Rattle.model.specs.Policy.{Policy, has_policy}
use Rattle.model.specs.Recursion.{feasible}
use Rattle.model.specs.Path.{taken, policy_cost}
use Rattle.model.specs.Order.{ranking_costs}
use Rattle.model.specs.Calls.{over}
use Rattle.laws.specs.Members.{Every}
use Rattle.laws.specs.First.{first-cost}
use Rattle.accepted.specs.Options.{Alive}
use Rattle.accepted.specs.Empty.{none_listed_lem}
use Rattle.accepted.specs.Shape.{shape, togo_start, lists, has_alive}
use Rattle.accepted.specs.Demands.{best_policy, best-policy, to_go_fits}
use Rattle.book.proofs.Words.{fits64}
use Rattle.costs.proofs.Sums.{read64}
use Rattle.table.specs.Table.{TableOf}
use Rattle.stored.specs.Entry.{Entry}
use Rattle.stored.specs.Children.{cost_of, Right}
use Rattle.stored.specs.Runs.{run_entries, plan_of, cost_in, start_entry, start_right, lists_ranking, lists_costs}
use Rattle.engine.specs.Engine.{plans_in, Found, first_candidate, Ranked}

module _ (ws : Words) (ok : book_number ws ≡ 0) (has : has_policy ws ≡ true) where
  abbrev first : Alive ws 0
  first = has_alive ws ok has

  start_is : first_candidate ws ≡ start_entry ws ok
  unfolding start_entry
  start_is = refl

  pub first-rights : (es : List Entry) → es ≡ first_candidate ws ∷ [] → Every (Right ws) es
  first-rights es h = subst (Every (Right ws)) (sym h) (subst (Right ws) (sym start_is) (start_right ws ok first), tt)

  small : SFits w64 (cost_of ws (best_policy ws))
  unfolding taken
  small = fits64 4000000000000000000 (cost_of ws (best_policy ws)) (to_go_fits ws ok (best_policy ws) (best-policy ws ok has) (togo ws 0) 0 (omega (arith, togo_start ws ok))) (lit< tt)

  pub cost-first : (q v : List ℤ) → TableOf ws q v → to_z w64 (of_z w64 (get_or v 0 (pos 0))) ≡ (first_candidate ws).cost
  cost-first q v t =
      ap (λ (z : ℤ). to_z w64 (of_z w64 z))
      (t.least_is 0 (omega arith) first
      ∙ sym (first-cost (scale ws) (state_count ws) (action ws) (togo ws) (shape ws ok) (Alive ws) (feasible ws) (lists ws ok first)))
      ∙ read64 (cost_of ws (best_policy ws)) small.sfits

  pub ranked : {costs costs' : List ℤ} {plans plans' : List ℕ} (k n : ℕ) → Found (run_entries ws k k (first_candidate ws ∷ [])) n costs costs' plans plans'
      → Ranked ws k n costs costs' plans plans'
  ranked {costs} {costs'} {plans} {plans'} k n f =
      record {
        count = f.count ∙ ap length run_is ∙ sym (length-map L plan_of) ∙ ap length (lists_ranking ws ok first k);
        costs_are = f.costs_are ∙ ap (λ (es : List Entry). over (map cost_in es) costs) run_is ∙ ap (λ (zs : List ℤ). over zs costs) (lists_costs ws ok first k);
        plans_are = f.plans_are ∙ ap (λ (es : List Entry). over (plans_in es) plans) run_is
            ∙ ap (λ (ps : List Policy). over (for_each (λ (bs : Policy). bs) ps) plans) (lists_ranking ws ok first k);
      }
    where
      L : List Entry
      L = run_entries ws k k (start_entry ws ok ∷ [])

      run_is : run_entries ws k k (first_candidate ws ∷ []) ≡ run_entries ws k k (start_entry ws ok ∷ [])
      run_is = ap (λ (e : Entry). run_entries ws k k (e ∷ [])) start_is

-- a book without a policy: nothing is listed, and nothing written
pub none_ranked : {costs : List ℤ} {plans : List ℕ} (ws : Words) (k : ℕ) → has_policy ws ≡ false → Ranked ws k 0 costs costs plans plans
unfolding ranking_costs
none_ranked {costs} {plans} ws k e =
    let none = sym (none_listed_lem ws k e) in
    record {
      count = ap length none;
      costs_are = ap (λ (ps : List Policy). over (map (policy_cost ws) ps) costs) none;
      plans_are = ap (λ (ps : List Policy). over (for_each (λ (bs : Policy). bs) ps) plans) none;
    }
