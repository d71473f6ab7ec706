-- The lines passed so far are allowed, sum is the sum of their weights, and before is the last next state.
-- Assumes nothing.
use mathlib.Core.Path.{◌≡◌}
use mathlib.Core.Bool.{Bool, true}
use Prim.Native.Nat.{ℕ, ◌+◌, ◌*◌, ◌≤◌}
use lib.IntN.{pos, nat_abs}
use lib.Signed.{lt_z}
use Rattle.model.specs.Lists.{all, sum_to}
use Rattle.model.specs.Model.{Words, word}
use Rattle.actions.specs.Action.{prev_at, next_above}
use Rattle.actions.proofs.lines_rise.Given as goal

abbrev pub positive : Words → ℕ → ℕ → Bool
positive b at k = lt_z (pos 0) (word b (at + k))

abbrev pub invariant-loop-i : goal.invariant-loop-i
invariant-loop-i l =
    (l.i ≤ l.r)
    × (l.before ≡ prev_at l.b l.at l.i)
    × (all l.i (next_above l.b l.at) ≡ true)
    × (all l.i (positive l.b (l.at + l.l)) ≡ true)
    × (l.sum ≡ sum_to l.i (λ (k : ℕ). nat_abs (word l.b (l.at + l.l + k))))
    × (l.sum ≤ l.i * 2147483648)
