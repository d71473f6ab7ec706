-- The states before p have their bytes and their sets.
-- Assumes nothing.
use mathlib.Core.Path.{◌≡◌}
use mathlib.Core.List.{List}
use Prim.Native.Nat.{ℕ, ◌≤◌}
use lib.ListN.{length}
use Rattle.model.specs.Model.{Words, state_count}
use Rattle.model.specs.Policy.{Policy}
use Rattle.enumerate.specs.Steps.{ReachedBefore, ReachTo, filled_from}
use Rattle.enumerate.proofs.fill.Given as goal

-- what is there when the states before p are done
pub record Done (ws : Words) (from : ℕ) (bs : Policy) (reach₀ : List ℕ) (cs : Policy) (reach : List ℕ) (known p : ℕ) : Type 0 where
  pub most : p ≤ state_count ws
  pub long : length cs ≡ state_count ws
  pub places : length reach ≡ 64
  pub reached : ReachedBefore ws cs p known
  pub bytes : filled_from ws bs from ≡ filled_from ws cs p
  pub sets : ReachTo ws bs from reach₀ → ReachTo ws cs p reach

abbrev pub invariant-loop-p : goal.invariant-loop-p
invariant-loop-p l = Done l.b l.from l.initial.plan l.initial.reach l.plan l.reach l.known l.p
