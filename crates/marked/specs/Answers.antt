-- Request 2.10 in its reader's words: what each of the three answers says, that the answer given is true, and that no other is.
-- Assumes nothing.
use Rattle.std.specs.Prelude.{◌≡◌, T}
use Rattle.std.proofs.Math.Option.{some}
use Prim.Native.Nat.{ℕ, ◌-◌, ◌≤◌, ◌<◌}
use Rattle.std.proofs.Math.ListN.{length, get_elem?}
use Rattle.model.specs.Model.{Words}
use Rattle.model.specs.Policy.{Policy, is_policy}
use Rattle.model.specs.Order.{ranking}
use Rattle.model.specs.Limit.{Limit, Kept, kept_at, none_listed, none_in_book}
use Rattle.laws.specs.Members.{In}
use Rattle.marked.specs.Kept.{Keeps}

module _ (ws : Words) (K : ℕ) (limit : Limit) where
  -- "the rank of the first listed plan none of whose days makes more than m marked choices": line j of the list, and none above it keeps the limit
  pub record KeptAt (j : ℕ) : Type 0 where
    pub plan : Policy
    pub from_1 : 1 ≤ j
    pub entry : get_elem? (ranking ws K) (j - 1) ≡ some plan
    pub keeps : Keeps ws limit plan
    pub first : (i : ℕ) (q : Policy) → i < j - 1 → get_elem? (ranking ws K) i ≡ some q → Keeps ws limit q → ⊥

  -- "none in the list" if k = K
  pub record NoneListed : Type 0 where
    pub full : length (ranking ws K) ≡ K
    pub none : (q : Policy) → In q (ranking ws K) → Keeps ws limit q → ⊥

  -- "none in the book" if k is less: no plan of the book keeps the limit
  pub record NoneInBook : Type 0 where
    pub short : length (ranking ws K) < K
    pub none : (q : Policy) → T (is_policy ws q) → Keeps ws limit q → ⊥

  -- the answer is true
  abbrev pub Fits : Kept → Type 0
  Fits (kept_at j) = KeptAt j
  Fits none_listed = NoneListed
  Fits none_in_book = NoneInBook
