-- The ranked list by value: what it is of a book and a count, and the bytes that say it.
-- Assumes nothing.
use Rattle.std.specs.Prelude.{◌≡◌, List, ℕ, ◌+◌, ◌*◌, ◌≤◌, ℤ, length, take}
use Rattle.model.specs.Lists.{for_each}
use Rattle.model.specs.Bytes.{signed_bytes}
use Rattle.model.specs.Model.{Words, state_count}
use Rattle.model.specs.Policy.{Policy}
use Rattle.model.specs.Order.{ranking, ranking_costs}
use Rattle.record.specs.declared.Listing.{Listing}

-- the arrays hold n costs and n policies of s bytes
pub record Held (l : Listing) : Type 0 where
  pub few : l.n ≤ 64
  pub small : l.n * l.s ≤ 4096
  pub costs_long : l.n ≤ length l.costs
  pub plans_long : l.n * l.s ≤ length l.plans

-- "k costs of eight bytes .. and k plans of S bytes"
abbrev pub list_length : Listing → ℕ
list_length l = 8 * l.n + l.n * l.s

abbrev pub cost_bytes : ℕ → List ℤ → List ℕ
cost_bytes n costs = for_each (signed_bytes 8) (take n costs)

abbrev pub plan_bytes : Listing → List ℕ
plan_bytes l = take (l.n * l.s) l.plans

-- the list is the ranking of the book for k
pub record Listed (ws : Words) (k : ℕ) (l : Listing) : Type 0 where
  pub held : Held l
  pub count : l.n ≡ length (ranking ws k)
  pub states : l.s ≡ state_count ws
  pub costs_are : take l.n l.costs ≡ ranking_costs ws k
  pub plans_are : take (l.n * l.s) l.plans ≡ for_each (λ (p : Policy). p) (ranking ws k)
