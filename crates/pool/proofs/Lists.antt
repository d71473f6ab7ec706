-- Laws of lists: a front that is copied, an element at an index, numbers in a row.
-- Assumes nothing.
use mathlib.Core.Path.{◌≡◌, refl}
use mathlib.Core.Logic.{inl, inr}
use mathlib.Core.List.{List, [], ◌∷◌, ◌++◌}
use Prim.Native.Nat.{ℕ, zero, suc, ◌+◌, ◌<◌}
use native.Mathlib.Omega.{arith}
use lib.ListN.{length, get_or}
use lib.Seq.{get_or-append-add}
use Rattle.laws.specs.Members.{In, Apart, Rising, below_in}

module _ {A : Type 0} where
  -- an element after a front
  pub after_front : (front rest : List A) (n i : ℕ) (z : A) → length front ≡ n → get_or (front ++ rest) (n + i) z ≡ get_or rest i z
  after_front front rest n i z e = rw (← e) (get_or-append-add front rest i z)

  pub at_in : (l : List A) (i : ℕ) (z : A) → i < length l → In (get_or l i z) l
  at_in [] i z h = absurd (omega arith)
  at_in (x ∷ xs) zero z h = inl refl
  at_in (x ∷ xs) (suc i) z h = inr (at_in xs i z (omega arith))

-- ---- numbers that rise

pub rising_apart : (xs : List ℕ) → Rising xs → Apart xs
rising_apart [] r = tt
rising_apart (x ∷ xs) r = (λ i. omega (arith, below_in {x = x} {y = x} xs r.0 i), rising_apart xs r.1)
