-- The answer by the list that stands in arrays.
-- Assumes nothing.
use mathlib.Core.Path.{◌≡◌, sym, ap, ◌∙◌}
use Prim.Native.Nat.{ℕ, suc, ◌≤◌, ◌<◌}
use native.Mathlib.Omega.{arith}
use borrow.Author.Tests.{lt-ltb, le-ltb}
use lib.ListN.{length}
use Rattle.model.specs.Lists.{first_where}
use Rattle.model.specs.Model.{Words, state_count}
use Rattle.model.specs.Questions.{book_number}
use Rattle.model.specs.Order.{ranking}
use Rattle.model.specs.Limit.{Limit, keeps_limit, kept_at, above_kept, first_kept}
use Rattle.record.specs.declared.Listing.{Listing}
use Rattle.record.specs.Listed.{Listed}
use Rattle.record.specs.Parts.{parts}
use Rattle.record.specs.Entries.{parts_are}
use Rattle.limit.specs.Says.{none_of}

module _ (ws : Words) (ok : book_number ws ≡ 0) (k : ℕ) (l : Listing) (h : Listed ws k l) (limit : Limit) where
  -- how many of the parts stand above the first that keeps the limit
  abbrev above : ℕ
  above = first_where (keeps_limit ws limit) (parts l.plans (state_count ws) 0 l.n)

  parts_here : parts l.plans (state_count ws) 0 l.n ≡ ranking ws k
  parts_here = rw (← h.states) (parts_are ws ok k l h)

  above_is : above_kept ws k limit ≡ above
  unfolding above_kept
  above_is = sym (ap (first_where (keeps_limit ws limit)) parts_here)

  pub rank_says : (j : ℕ) → j ≡ above → j < l.n → first_kept ws k limit ≡ kept_at (suc j)
  unfolding first_kept
  rank_says j e i = rw (above_is, ← e, lt-ltb j (length (ranking ws k)) (omega (arith, h.count)))

  pub none_says : l.n ≤ above → none_of l.n k ≡ first_kept ws k limit
  unfolding first_kept
  none_says i = rw (above_is, ← h.count, le-ltb above l.n i)
