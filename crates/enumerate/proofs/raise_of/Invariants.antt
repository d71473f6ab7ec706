-- No state from p on has a higher action.
-- Assumes nothing.
use mathlib.Core.Path.{◌≡◌}
use mathlib.Core.Option.{none}
use Prim.Native.Nat.{ℕ, ◌≤◌, ◌<◌}
use Rattle.model.specs.Model.{Words, state_count}
use Rattle.model.specs.Policy.{Policy}
use Rattle.next_policy.specs.Books.{higher_at}
use Rattle.enumerate.proofs.raise_of.Given as goal

-- no state from p on has one
abbrev pub NoneFrom : Words → Policy → ℕ → Type 0
NoneFrom ws bs p = (q : ℕ) → p ≤ q → q < state_count ws → higher_at ws bs q ≡ none

abbrev pub invariant-loop-p : goal.invariant-loop-p
invariant-loop-p l = (l.p ≤ state_count l.b) × NoneFrom l.b l.plan l.p
