-- Request 2.8 in its reader's words: what each of the three answers says of a plan, that the answer given is true, and that exactly one fits any plan
-- of the book.
-- Assumes nothing.
use Rattle.std.specs.Prelude.{◌≡◌, ℤ, pos, ◌+ℤ◌, ◌≤ℤ◌}
use Rattle.std.proofs.Math.Option.{some}
use Prim.Native.Nat.{ℕ, ◌+◌, ◌-◌, ◌≤◌, ◌<◌}
use Rattle.std.proofs.Math.ListN.{length, get_elem?}
use Rattle.model.specs.Lists.{count}
use Rattle.model.specs.Model.{Words}
use Rattle.model.specs.Policy.{Policy, policies}
use Rattle.model.specs.Path.{byte_at, policy_cost}
use Rattle.model.specs.Order.{comes_before, ranking}
use Rattle.model.specs.Standing.{Answer, is_rank, costs_more, takes_higher}
use Rattle.laws.specs.Members.{In}
use Rattle.accepted.specs.Demands.{reached}

module _ (ws : Words) (K : ℕ) where
  -- how many plans of the book come before one
  abbrev pub before : Policy → ℕ
  before bs = count (λ q. comes_before ws q bs) (policies ws)

  -- "the last listed"
  abbrev pub LastListed : Policy → Type 0
  LastListed last = get_elem? (ranking ws K) (length (ranking ws K) - 1) ≡ some last

  module _ (bs : Policy) where
    -- "it is rank j, from 1": so many plans of the book come before it, and one more is at most K
    pub record IsRank (j : ℕ) : Type 0 where
      pub from_1 : j ≡ before bs + 1
      pub within : j ≤ K

    -- "it costs more than the last listed, by this exact amount"
    pub record CostsMore (amount : ℤ) : Type 0 where
      pub last : Policy
      pub is_last : LastListed last
      pub exact : policy_cost ws last +ℤ amount ≡ policy_cost ws bs
      pub some_more : pos 1 ≤ℤ amount

    -- "it costs the same as the last listed, and at this post, the first where they differ, takes the higher choice": both reach the post
    pub record TakesHigher (post : ℕ) : Type 0 where
      pub last : Policy
      pub is_last : LastListed last
      pub same-cost : policy_cost ws last ≡ policy_cost ws bs
      pub last_reaches : In post (reached ws last)
      pub reaches : In post (reached ws bs)
      pub agree : (q : ℕ) → q < post → byte_at last q ≡ byte_at bs q
      pub higher : byte_at last post < byte_at bs post

    -- the answer is true of the plan
    abbrev pub Fits : Answer → Type 0
    Fits (is_rank j) = IsRank j
    Fits (costs_more z) = CostsMore z
    Fits (takes_higher p) = TakesHigher p
