-- "nothing is missing from a list among the plans that avoid closed choices": of the policies that a book would have if no action were closed, its
-- policies are those that take no closed action at a state that they reach, and the list is over these.
-- Assumes nothing.
use Rattle.std.specs.Prelude.{◌≡◌, false, ℕ}
use Rattle.model.specs.Model.{Words, closed}
use Rattle.model.specs.Policy.{Policy}
use Rattle.model.specs.Path.{taken}
use Rattle.laws.specs.Members.{In}
use Rattle.accepted.specs.Demands.{reached}

-- at no state that they reach do the bytes take a closed action
abbrev pub Avoids : Words → Policy → Type 0
Avoids ws bs = (q : ℕ) → In q (reached ws bs) → closed (taken ws bs q).cost ≡ false
