-- The order of the policies, and the list.
-- Assumes nothing.
use Rattle.std.specs.Prelude.{ℕ, suc, Bool, false, not, ◌&&◌, ◌||◌, cond, List, [], ◌∷◌, map, ℤ, ltb, eqb, take}
use Rattle.std.specs.Int.Signed.{lt_z}
use Rattle.model.specs.Lists.{sorted}
use Rattle.model.specs.Model.{Words}
use Rattle.model.specs.Policy.{Policy, policies}
use Rattle.model.specs.Path.{policy_cost}

-- "the lower choice at the lowest-numbered post where they differ"
abbrev pub lower : Policy → Policy → Bool
lower [] qs = false
lower (p ∷ ps) [] = false
lower (p ∷ ps) (q ∷ qs) = ltb p q || (eqb p q && lower ps qs)

-- "the lowest-numbered post where they differ": how many bytes from the front agree, which is the length of the shorter where all of them do
abbrev pub first_difference : Policy → Policy → ℕ
first_difference [] qs = 0
first_difference (p ∷ ps) [] = 0
first_difference (p ∷ ps) (q ∷ qs) = cond (eqb p q) (suc (first_difference ps qs)) 0

-- "Plan P comes before Q if its cost is lower, or equal with the lower choice at the lowest-numbered post where they differ."
abbrev pub before : (Policy → ℤ) → Policy → Policy → Bool
before cost p q = lt_z (cost p) (cost q) || (not (lt_z (cost q) (cost p)) && lower p q)

unfoldable pub comes_before : Words → Policy → Policy → Bool
comes_before ws = before (policy_cost ws)

-- "The list for an accepted book and K": the first K of the model's policies in that order. (Laws: it holds a policy exactly when fewer than K of the
-- model's policies come before it, as policy j if j of them do.)
unfoldable pub ranking : Words → ℕ → List Policy
ranking ws k = take k (sorted (comes_before ws) (policies ws))

-- "Cost j is plan j's exact cost"
unfoldable pub ranking_costs : Words → ℕ → List ℤ
ranking_costs ws k = map (policy_cost ws) (ranking ws k)
