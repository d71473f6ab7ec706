-- The first place where two lists of bytes differ. It decides the order of the bytes and whether they are the same, and for two policies it is the
-- lowest state where they take different actions.
-- Assumes nothing.
use Rattle.std.specs.Prelude.{◌≡◌, List, ◌∷◌, ℕ, suc}
use Rattle.std.proofs.Common.{eq-eqb, ne_eqb}
use Rattle.model.specs.Order.{first_difference}

-- one byte more, by whether it agrees
pub first_equal : (b c : ℕ) (bs cs : List ℕ) → b ≡ c → first_difference (b ∷ bs) (c ∷ cs) ≡ suc (first_difference bs cs)
first_equal b c bs cs e = rw (eq-eqb b c e)

pub first_differ : (b c : ℕ) (bs cs : List ℕ) → (b ≡ c → ⊥) → first_difference (b ∷ bs) (c ∷ cs) ≡ 0
first_differ b c bs cs d = rw (ne_eqb b c d)
