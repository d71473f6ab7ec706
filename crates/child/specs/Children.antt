-- The child of a listed candidate at a state, and what it adds to those that wait.
-- Assumes nothing.
use Rattle.std.specs.Prelude.{◌≡◌, cond, Option, Some, None, IfSome, List, [], ◌∷◌, ℕ, ◌+◌, ◌≤◌, ◌<◌, eqb, ℤ, get_or, take}
use Rattle.model.specs.Lists.{insert, up_from}
use Rattle.model.specs.Model.{Words, scale, state_count, togo, action_count, action}
use Rattle.model.specs.Policy.{Policy}
use Rattle.model.specs.Path.{byte_at}
use Rattle.model.specs.Recursion.{best_of, through, feasible}
use Rattle.laws.specs.Members.{In}
use Rattle.accepted.specs.Options.{Feasible}
use Rattle.sets.specs.Sets.{free}
use Rattle.table.specs.Table.{row_of}
use Rattle.build.specs.Walk.{walk_by, chosen}
use Rattle.reach.specs.Weights.{WeightsOf}
use Rattle.splits.specs.Search.{admit}
use Rattle.stored.specs.Entry.{Entry, earlier_entry}
use Rattle.stored.specs.Lists.{left}
use Rattle.stored.specs.Children.{Right, mask_at, child_entry, add_if, splits_at}
use Rattle.stored.specs.Runs.{itself}
use Rattle.child.specs.declared.Parent.{Parent}
use Rattle.child.specs.declared.Child.{Child}

abbrev pub entry_of : Parent → Policy → Entry
entry_of e bs = record { cost = e.cost; plan = bs; split = e.split; mask = e.mask }

-- a listed candidate with its bytes and their reach weights
pub record Parenting (ws : Words) (e : Parent) (bs : Policy) (w : List ℕ) : Type 0 where
  pub right : Right ws (entry_of e bs)
  pub weights : WeightsOf ws bs w

-- the next action at state p, by the table of costs at the split state and by that of best actions after it
abbrev pub next_by : Words → List ℤ → List ℕ → ℕ → ℕ → ℕ → ℕ
next_by ws q best split p mask =
    cond (eqb split p) (best_of (row_of q p) (free mask (free (get_or best (128 + p) 0) (up_from 0 (action_count ws p))))) (get_or best (64 + p) 0)

-- e is split at state p, where c is the next best action after those barred, `mask` among them its own
pub record ChildAt (ws : Words) (e : Entry) (p c mask : ℕ) : Type 0 where
  pub state : p < state_count ws
  pub from : e.split ≤ p
  pub own : Feasible ws p (byte_at e.plan p)
  pub mask_is : mask ≡ mask_at e p
  pub next : c ≡ best_of (through (scale ws) (action ws) (feasible ws) (togo ws p) p) (left ws p (mask_at e p))
  pub some : In c (left ws p (mask_at e p))

-- the child d of the bytes bs, split at state p
abbrev pub child_of : Words → Policy → ℕ → Child → Entry
child_of ws bs p d =
    record { cost = d.cost; plan = walk_by (action ws) (chosen ws bs p d.action) (state_count ws) 0 (0 ∷ []); split = p; mask = d.mask }

-- the entries after d joined them
abbrev pub joined : ℕ → Entry → List Entry → List Entry
joined k d es = take k (insert earlier_entry d es)

-- the entries after the child of e at state p joined them, if there is one
abbrev pub admitted : Words → ℕ → Entry → ℕ → List Entry → List Entry
admitted ws k e p es = admit earlier_entry itself k (add_if (splits_at e p) (left ws p (mask_at e p)) (child_entry ws e p) []) es

-- the entries after the child joined them, if there is one
abbrev pub joined_if : ℕ → Words → Policy → ℕ → Option Child → List Entry → List Entry
joined_if k ws bs p None es = es
joined_if k ws bs p (Some d) es = joined k (child_of ws bs p d) es

-- r is the child of e at state p, or none where there is none
pub record ChildIs (ws : Words) (e : Entry) (p : ℕ) (r : Option Child) : Type 0 where
  pub joins : (k : ℕ) (es : List Entry) → joined_if k ws e.plan p r es ≡ admitted ws k e p es
  pub goes_on : IfSome r (λ d. Feasible ws p d.action)
