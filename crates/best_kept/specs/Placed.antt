-- A list of costs and one of bytes, into which a policy goes at the place that its cost says.
-- Assumes nothing.
use Rattle.std.specs.Prelude.{◌≡◌, cond, List, [], ◌∷◌, ◌++◌, ℕ, ◌+◌, ◌*◌, ◌-◌, ◌≤◌, ◌<◌, ℤ, pos, ◌≤ℤ◌, ltb, length, get_or, take, drop}
use Rattle.std.specs.Int.Signed.{lt_z}
use Rattle.model.specs.Lists.{first_where}
use Rattle.model.specs.Policy.{Policy}

-- no cost is above a later one
abbrev pub Ascends : List ℤ → Type 0
Ascends zs = (i j : ℕ) → i ≤ j → j < length zs → get_or zs i (pos 0) ≤ℤ get_or zs j (pos 0)

module _ {A : Type 0} where
  -- the new elements stand from place `at` on, and those from there to place `to` after them
  abbrev pub opened : ℕ → ℕ → List A → List A → List A
  opened at to new o = take at o ++ (new ++ (take (to - at) (drop at o) ++ drop (to + length new) o))

-- where n are listed, of which at most k are kept, the place of the last after one more went in
abbrev pub last_place : ℕ → ℕ → ℕ
last_place n k = cond (ltb n k) n (k - 1)

-- how many of the first n costs stay before the new one: those that are not above it
abbrev pub place_of : ℕ → ℤ → List ℤ → ℕ
place_of n cost costs = first_where (lt_z cost) (take n costs)

-- a policy went in among n, of which at most k are kept: nothing changed where k stay before it
pub record Placed (n k : ℕ) (cost : ℤ) (plan : Policy) (m : ℕ) (costs costs' : List ℤ) (plans plans' : List ℕ) : Type 0 where
  pub out : k ≤ place_of n cost costs → (m ≡ n) × (costs' ≡ costs) × (plans' ≡ plans)
  pub within : place_of n cost costs < k
      → (m ≡ last_place n k + 1)
      × (costs' ≡ opened (place_of n cost costs) (last_place n k) (cost ∷ []) costs)
      × (plans' ≡ opened (place_of n cost costs * length plan) (last_place n k * length plan) plan plans)
