-- The policies of an accepted book in the order of their bytes: the enumeration is in that order, and going from the lowest policy to the next and the
-- next goes through it.
-- Assumes nothing.
use Rattle.std.specs.Prelude.{[], ◌∷◌}
use Rattle.std.proofs.Math.Option.{Option}
use Prim.Native.Nat.{ℕ}
use Rattle.model.specs.Model.{Words, state_count, action}
use Rattle.model.specs.Policy.{Policy}
use Rattle.model.specs.Path.{byte_at}
use Rattle.model.specs.Recursion.{feasible}
use Rattle.next_policy.specs.Next.{first_above, lowest_from, next_from}

-- the policy that takes the lowest feasible action at each state that it reaches
unfoldable pub lowest_policy : Words → Policy
lowest_policy ws = lowest_from (action ws) (feasible ws) (state_count ws) 0 (0 ∷ [])

-- the policy after bs, if there is one: at the last state that bs reaches where a higher action is feasible, the first such action; before it the bytes
-- of bs, and after it the lowest feasible actions
unfoldable pub next_policy : Words → Policy → Option Policy
next_policy ws bs = next_from (action ws) (feasible ws) (state_count ws) 0 (0 ∷ []) bs

-- the first feasible action of state q above the byte of bs there
abbrev pub higher_at : Words → Policy → ℕ → Option ℕ
higher_at ws bs q = first_above (byte_at bs q) (feasible ws q)
