-- The candidates that wait in a pool, as a list of entries.
-- Assumes nothing.
use Rattle.std.specs.Prelude.{◌≡◌, Bool, cond, not, ◌&&◌, ◌||◌, ◌⊎◌, List, [], ◌∷◌, ◌++◌, map, ℕ, suc, ◌+◌, ◌*◌, ◌-◌, ◌≤◌, ◌<◌, ℤ, pos, eqb, ◌≤ℤ◌, ◌<ℤ◌, length, get_or, take, drop}
use Rattle.std.specs.Int.Signed.{lt_z}
use Rattle.model.specs.Lists.{insert}
use Rattle.model.specs.Order.{lower}
use Rattle.laws.specs.Members.{Every, Apart}
use Rattle.stored.specs.Entry.{Entry, earlier_entry}
use Rattle.pool.specs.declared.Pool.{Pool}

-- ---- entries

-- the s bytes of a slot
abbrev pub row : ℕ → List ℕ → ℕ → List ℕ
row s plans j = take s (drop (j * 64) plans)

-- the entry of a slot
abbrev pub entry_at : ℕ → Pool → ℕ → Entry
entry_at s p j =
    record { cost = get_or p.costs j (pos 0); plan = row s p.plans j; split = get_or p.splits j 0; mask = get_or p.barred j 0 }

-- the entry of the first slot
abbrev pub first_entry : ℕ → Pool → Entry
first_entry s p = entry_at s p (get_or p.order 0 0)

-- the entries that wait, in order
abbrev pub entries : ℕ → Pool → List Entry
entries s p = map (entry_at s p) (take p.count p.order)

-- the slots, each once
pub record Slots (order : List ℕ) : Type 0 where
  pub long : length order ≡ 64
  pub low : Every (λ (j : ℕ). j < 64) order
  pub apart : Apart order

-- no number is above a later one
abbrev pub Ascending : List ℤ → Type 0
Ascending [] = Unit {0}
Ascending (x ∷ xs) = Every (λ (y : ℤ). x ≤ℤ y) xs × Ascending xs

-- the costs of slots
abbrev pub slot_costs : List ℤ → List ℕ → List ℤ
slot_costs costs js = map (λ (j : ℕ). get_or costs j (pos 0)) js

-- the costs of those that wait, in order
abbrev pub costs_of : Pool → List ℤ
costs_of p = slot_costs p.costs (take p.count p.order)

-- what holds of every pool
pub record Formed (p : Pool) : Type 0 where
  pub costs_long : length p.costs ≡ 64
  pub plans_long : length p.plans ≡ 4096
  pub splits_long : length p.splits ≡ 64
  pub barred_long : length p.barred ≡ 64
  pub most_low : 1 ≤ p.most
  pub most_high : p.most ≤ 64
  pub few : p.count ≤ p.most
  pub slots : Slots p.order
  pub ascends : Ascending (costs_of p)

-- ---- the place of a new entry

-- `earlier_entry` by a cost and a plan, and those of slot j
abbrev pub earlier_than : ℤ → List ℕ → ℕ → List ℤ → List ℕ → ℕ → Bool
earlier_than x bs s costs plans j = lt_z x (get_or costs j (pos 0)) || (not (lt_z (get_or costs j (pos 0)) x) && lower bs (row s plans j))

-- the slots cost less than x
abbrev pub Cheaper : List ℤ → ℤ → List ℕ → Type 0
Cheaper costs x js = Every (λ (j : ℕ). get_or costs j (pos 0) <ℤ x) js

-- how many numbers stand before the first that passes the test
abbrev pub first_yes : (ℕ → Bool) → List ℕ → ℕ
first_yes test [] = 0
first_yes test (x ∷ xs) = cond (test x) 0 (suc (first_yes test xs))

-- do k wait, of which the last costs less than x?
abbrev pub beyond_of : ℕ → ℕ → ℤ → List ℤ → List ℕ → Bool
beyond_of n k x costs order = eqb n k && lt_z (get_or costs (get_or order (k - 1) 0) (pos 0)) x

-- ---- a pool and the one that is made of it

-- in r, which keeps as many as p, wait the entries es
pub record Holding (s : ℕ) (es : List Entry) (p r : Pool) : Type 0 where
  pub formed : Formed r
  pub same-most : r.most ≡ p.most
  pub waits : entries s r ≡ es

-- r is p with the entry e inserted, of which the first are kept
abbrev pub Inserted : ℕ → Entry → Pool → Pool → Type 0
Inserted s e p r = Holding s (take p.most (insert earlier_entry e (entries s p))) p r

-- r is p without the first entry
pub record Popped (p r : Pool) : Type 0 where
  pub formed : Formed r
  pub count_is : r.count + 1 ≡ p.count
  pub rest : (s : ℕ) → entries s p ≡ first_entry s p ∷ entries s r

-- ---- changes of the order of the slots

-- where n wait, place r holds the first free slot, or the last of k
abbrev pub Spare : ℕ → ℕ → ℕ → Type 0
Spare r n k = (r ≡ n) ⊎ ((r + 1 ≡ n) × (n ≡ k))

-- slot n goes to place i, and those from i on make room
abbrev pub moved_up : ℕ → ℕ → List ℕ → List ℕ
moved_up i n order = take i order ++ (get_or order n 0 ∷ (take (n - i) (drop i order) ++ drop (n + 1) order))

-- the first slot goes to the end of the first n
abbrev pub moved_back : ℕ → List ℕ → List ℕ
moved_back n order = take (n - 1) (drop 1 order) ++ (get_or order 0 0 ∷ drop n order)
