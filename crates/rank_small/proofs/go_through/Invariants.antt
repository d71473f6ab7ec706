-- The first k of the first j policies stand in the slices, and policy j is at hand, if there is one.
-- Assumes nothing.
use mathlib.Core.Path.{◌≡◌}
use mathlib.Core.Bool.{Bool, true, false}
use mathlib.Core.List.{List}
use mathlib.Core.Option.{some}
use Prim.Native.Nat.{ℕ, ◌-◌}
use lib.IntN.{ℤ}
use lib.ListN.{length, get_elem?}
use Rattle.model.specs.Model.{Words, state_count}
use Rattle.model.specs.Policy.{Policy, policies}
use Rattle.model.specs.Path.{policy_cost}
use Rattle.enumerate.specs.Steps.{Stands}
use Rattle.best_kept.specs.Holding.{Holds}
use Rattle.rank_small.specs.Through.{best_of_first}
use Rattle.rank_small.proofs.go_through.Given as goal

pub record Gone (ws : Words) (k : ℕ) (costs₀ : List ℤ) (plans₀ : List ℕ) (plan : Policy) (costs : List ℤ) (plans reach : List ℕ) (n j : ℕ) (more : Bool) : Type 0 where
  pub long : length plan ≡ state_count ws
  pub costs_long : length costs ≡ length costs₀
  pub plans_long : length plans ≡ length plans₀
  pub stands : more ≡ true → Stands ws plan reach
  pub at : more ≡ true → get_elem? (policies ws) j ≡ some plan
  pub ended : more ≡ false → length (policies ws) ≡ j
  pub holds : Holds (policy_cost ws) (best_of_first ws k j) n costs₀ costs plans₀ plans

abbrev pub invariant-loop-more : goal.invariant-loop-more
invariant-loop-more l = Gone l.b l.k l.initial.costs l.initial.plans l.plan l.costs l.plans l.reach l.n l.j l.more

abbrev pub decreases-loop-more : goal.decreases-loop-more
decreases-loop-more l = length (policies l.b) - l.j
