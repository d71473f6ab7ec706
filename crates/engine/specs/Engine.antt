-- What the search asks of its parts and what each step makes of the pool.
-- Assumes nothing.
use Rattle.std.specs.Prelude.{◌≡◌, List, [], ◌∷◌, map, ℕ, ◌*◌, ◌≤◌, ◌<◌, ℤ, length}
use Rattle.model.specs.Lists.{for_each}
use Rattle.model.specs.Order.{ranking, ranking_costs}
use Rattle.model.specs.Calls.{over}
use Rattle.model.specs.Model.{Words}
use Rattle.model.specs.Policy.{Policy}
use Rattle.accepted.specs.Demands.{best_policy}
use Rattle.accepted.specs.Options.{Alive}
use Rattle.book.specs.declared.Sizes.{Sizes}
use Rattle.index.specs.Index.{Indexed}
use Rattle.nexts.specs.Nexts.{NextsOf}
use Rattle.build.specs.Best.{RowsOf, BestOf, SecondOf}
use Rattle.pool.specs.declared.Pool.{Pool}
use Rattle.pool.specs.Entries.{first_entry, Popped}
use Rattle.splits.specs.Search.{admit}
use Rattle.stored.specs.Entry.{Entry, earlier_entry}
use Rattle.stored.specs.Children.{cost_of, child_entries}
use Rattle.stored.specs.Runs.{itself, children_of, plan_of, cost_in}
use Rattle.child.specs.declared.Parent.{Parent}
use Rattle.child.specs.Children.{entry_of}

-- a checked book with its sizes and index, its sets of next states, its table of action costs and its first best actions
pub record Ready (ws : Words) (z : Sizes) (x nx : List ℕ) (q : List ℤ) (best : List ℕ) : Type 0 where
  pub indexed : Indexed ws z x
  pub next : NextsOf ws nx
  pub rows : RowsOf ws q
  pub firsts : BestOf ws best

-- the entries after the children of e at the n states from p on joined them
abbrev pub admitted_from : Words → ℕ → Entry → ℕ → ℕ → List Entry → List Entry
admitted_from ws k e p n es = admit earlier_entry itself k (child_entries ws e p n) es

-- the entries after the first was taken away and its children joined the others
abbrev pub split_pool : Words → ℕ → List Entry → List Entry
split_pool ws k [] = []
split_pool ws k (e ∷ es) = admit earlier_entry itself k (children_of ws e) es

-- the first candidate of p, which is e with the bytes bs, is taken away, and r is left
pub record Taken (s : ℕ) (p r : Pool) (e : Parent) (bs : Policy) : Type 0 where
  pub popped : Popped p r
  pub same-most : r.most ≡ p.most
  pub first : entry_of e bs ≡ first_entry s p

-- there is room for k policies of s bytes and their costs
pub record Roomy (k s : ℕ) (costs : List ℤ) (plans : List ℕ) : Type 0 where
  pub costs_room : k ≤ length costs
  pub plans_room : k * s ≤ length plans

-- the bytes of the policies of entries, one after the other
abbrev pub plans_in : List Entry → List ℕ
plans_in es = for_each (λ (bs : Policy). bs) (map plan_of es)

-- the list l stands at the front of the two slices
pub record Found (l : List Entry) (n : ℕ) (costs costs' : List ℤ) (plans plans' : List ℕ) : Type 0 where
  pub count : n ≡ length l
  pub costs_are : costs' ≡ over (map cost_in l) costs
  pub plans_are : plans' ≡ over (plans_in l) plans

-- all policies, of which the first takes the first best action at each state
abbrev pub first_candidate : Words → Entry
first_candidate ws = record { cost = cost_of ws (best_policy ws); plan = best_policy ws; split = 0; mask = 0 }

-- a search for k policies can begin: the book has one, the first costs `cost`, and where more are asked for the second best actions are known
pub record Startable (ws : Words) (cost : ℤ) (k : ℕ) (best : List ℕ) : Type 0 where
  pub some : Alive ws 0
  pub cost_is : cost ≡ (first_candidate ws).cost
  pub most_low : 1 ≤ k
  pub most_high : k ≤ 64
  pub seconds : 1 < k → SecondOf ws best

-- the list for a model and k stands at the front of the two slices, and the rest of both is as before
pub record Ranked (ws : Words) (k n : ℕ) (costs costs' : List ℤ) (plans plans' : List ℕ) : Type 0 where
  pub count : n ≡ length (ranking ws k)
  pub costs_are : costs' ≡ over (ranking_costs ws k) costs
  pub plans_are : plans' ≡ over (for_each (λ (bs : Policy). bs) (ranking ws k)) plans
