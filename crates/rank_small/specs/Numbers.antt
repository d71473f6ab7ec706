-- The number of the call, and its answer as a whole.
-- Assumes nothing.
use Rattle.std.specs.Prelude.{◌≡◌, true, false, ℕ, ◌*◌, leb, ℤ}
use Rattle.std.proofs.Common.{sym, ◌∙◌, arith}
use mathlib.Core.List.{List, []}
use Rattle.model.specs.Model.{Words, state_count}
use Rattle.model.specs.Policy.{has_policy}
use Rattle.model.specs.Path.{policy_cost}
use Rattle.model.specs.Order.{ranking, ranking_costs}
use Rattle.model.specs.Calls.{Room, room_of, is_small, small_number, small_count, small_costs, small_plans}
use Rattle.questions.specs.FirstNo.{fails, passes, none}
use Rattle.questions.specs.Answers.{stops, goes_on, leaves, gives}
use Rattle.asked.specs.Asked.{Asked, Counted, asked-none, asked_passed}
use Rattle.best_kept.specs.Holding.{Holds}
use Rattle.rank_small.specs.Small.{SmallRanked}

module _ (ws : Words) (r : Room) (counted : Counted ws r.k) where
  -- a book without a policy
  pub small_none : has_policy ws ≡ false → 28 ≡ small_number ws r
  unfolding small_number
  small_none h = stops (sym (asked-none ws r.k counted h)) _ (omega arith)

  module _ (has : has_policy ws ≡ true) where
    abbrev asked : Asked ws r.k
    asked = record { ok = counted.ok; low = counted.low; high = counted.high; has = has }

    -- one with too many
    pub small_many : is_small ws ≡ false → 30 ≡ small_number ws r
    unfolding small_number
    small_many e = goes_on (asked_passed ws r.k asked) (sym (fails r _ _ e))

    module _ (small : is_small ws ≡ true) where
      -- slices that are too short, and such as hold the list
      pub small_costs_lem : leb r.k r.costs ≡ false → 15 ≡ small_number ws r
      unfolding small_number
      small_costs_lem e = goes_on (asked_passed ws r.k asked) (sym (passes r _ _ small ∙ fails r _ _ e))

      pub small_plans_lem : leb r.k r.costs ≡ true → leb (r.k * state_count ws) r.plans ≡ false → 16 ≡ small_number ws r
      unfolding small_number
      small_plans_lem e f = goes_on (asked_passed ws r.k asked) (sym (passes r _ _ small ∙ passes r _ _ e ∙ fails r _ _ f))

      pub small_fits : leb r.k r.costs ≡ true → leb (r.k * state_count ws) r.plans ≡ true → 0 ≡ small_number ws r
      unfolding small_number
      small_fits e f = goes_on (asked_passed ws r.k asked) (sym (passes r _ _ small ∙ passes r _ _ e ∙ passes r _ [] f ∙ none r))

module _ (ws : Words) (k : ℕ) (costs : List ℤ) (plans : List ℕ) where
  -- a refusal
  pub refused : {no : ℕ} → no ≡ small_number ws (room_of k costs plans) → (no ≡ 0 → ⊥) → SmallRanked ws k no 0 costs costs plans plans
  unfolding small_count small_costs small_plans
  refused e h = record { number_is = e; count_is = leaves e h _ _; costs_are = leaves e h _ _; plans_are = leaves e h _ _ }

  -- the list
  pub listed : {n : ℕ} {costs' : List ℤ} {plans' : List ℕ} → 0 ≡ small_number ws (room_of k costs plans)
      → Holds (policy_cost ws) (ranking ws k) n costs costs' plans plans' → SmallRanked ws k 0 n costs costs' plans plans'
  unfolding small_count small_costs small_plans ranking_costs
  listed e h = record {
    number_is = e;
    count_is = gives (sym e) _ h.count;
    costs_are = gives (sym e) _ h.costs_are;
    plans_are = gives (sym e) _ h.plans_are;
  }
