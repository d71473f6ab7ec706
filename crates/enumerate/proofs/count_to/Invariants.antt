-- Policy n - 1, counted from 0, is there.
-- Assumes nothing.
use mathlib.Core.Path.{◌≡◌}
use mathlib.Core.List.{List}
use mathlib.Core.Option.{some}
use Prim.Native.Nat.{ℕ, ◌+◌, ◌-◌, ◌≤◌}
use lib.ListN.{get_elem?}
use Rattle.model.specs.Model.{Words}
use Rattle.model.specs.Policy.{Policy, policies}
use Rattle.enumerate.specs.Steps.{Stands}
use Rattle.enumerate.proofs.count_to.Given as goal

pub record There (ws : Words) (most n : ℕ) (bs : Policy) (reach : List ℕ) : Type 0 where
  pub low : 1 ≤ n
  pub high : n ≤ most + 1
  pub stands : Stands ws bs reach
  pub at : get_elem? (policies ws) (n - 1) ≡ some bs

abbrev pub invariant-loop-n : goal.invariant-loop-n
invariant-loop-n l = There l.b l.most l.n l.plan l.reach

abbrev pub decreases-loop-n : goal.decreases-loop-n
decreases-loop-n l = l.most + 1 - l.n
