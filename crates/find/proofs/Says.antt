-- The answer by the list that stands in arrays.
-- Assumes nothing.
use mathlib.Core.Path.{◌≡◌, sym, ap, ◌∙◌}
use mathlib.Core.List.{List, []}
use Prim.Native.Nat.{ℕ, suc, ◌+◌, ◌-◌, ◌*◌, ◌≤◌, ◌<◌}
use native.Mathlib.Nat.{suc-mul}
use native.Mathlib.Omega.{arith}
use borrow.Author.Tests.{lt-ltb, le-ltb}
use lib.Dec.{T}
use lib.IntN.{pos, nat_abs}
use lib.ListN.{length, take, drop, get_or}
use Rattle.model.specs.Model.{Words}
use Rattle.model.specs.Questions.{book_number}
use Rattle.model.specs.Policy.{Policy, is_policy}
use Rattle.model.specs.Path.{policy_cost}
use Rattle.model.specs.Order.{ranking}
use Rattle.model.specs.Standing.{is_rank, place_in, last_of, beside_last, standing}
use Rattle.laws.specs.Sorting.{at_in}
use Rattle.laws.specs.Entries.{some_at, get_d_at}
use Rattle.accepted.specs.Facts.{accepted}
use Rattle.accepted.specs.Demands.{policy-bytes, in_list, cost-fits}
use Rattle.record.specs.declared.Listing.{Listing}
use Rattle.record.specs.Listed.{Listed}
use Rattle.record.specs.Parts.{parts}
use Rattle.record.specs.Entries.{entry_cost, bytes_at_lem, parts_are}

module _ (ws : Words) (ok : book_number ws ≡ 0) (k : ℕ) (l : Listing) (h : Listed ws k l) (bs : Policy) (t : T (is_policy ws bs)) where
  -- a listed policy has as many bytes as the plan
  states : l.s ≡ length bs
  states = h.states ∙ sym ((policy-bytes ws ok bs).0 t).long

  pub plan_short : length bs ≤ 64
  plan_short = omega (arith, ((policy-bytes ws ok bs).0 t).long, (accepted ws ok).sizes.s_high)

  pub plans_fit : l.n * length bs ≤ length l.plans
  plans_fit = rw (← states) h.held.plans_long

  -- entry j, by its bytes and by its cost
  bytes_here : (j : ℕ) → j < l.n → take (length bs) (drop (j * length bs) l.plans) ≡ get_or (ranking ws k) j []
  bytes_here j i = rw (← states) (bytes_at_lem ws ok k l h j i)

  cost_at : (j : ℕ) → j < l.n → get_or l.costs j (pos 0) ≡ policy_cost ws (get_or (ranking ws k) j [])
  cost_at j i =
      let e = some_at (ranking ws k) j (omega (arith, h.count)) in
      entry_cost ws ok k l h j e.0 e.1 i ∙ ap (policy_cost ws) (sym (get_d_at (ranking ws k) j [] e.0 e.1))

  -- the parts are the list
  parts_here : parts l.plans (length bs) 0 l.n ≡ ranking ws k
  parts_here = rw (← states) (parts_are ws ok k l h)

  pub rank_says : (j : ℕ) → j ≡ place_in (parts l.plans (length bs) 0 l.n) bs → j < l.n → standing ws k bs ≡ is_rank (suc j)
  unfolding standing
  rank_says j e i =
      let p : place_in (ranking ws k) bs ≡ j = ap (λ (ps : List Policy). place_in ps bs) (sym parts_here) ∙ sym e in
      rw (p, lt-ltb j (length (ranking ws k)) (omega (arith, h.count)))

  -- the last entry
  module _ (some : 0 < l.n) where
    last_is : last_of (ranking ws k) ≡ get_or (ranking ws k) (l.n - 1) []
    last_is = ap (λ (n : ℕ). get_or (ranking ws k) (n - 1) []) (sym h.count)

    -- lies in the array, at a place that 64 bits hold, and its cost is in range
    pub last-inside : ((l.n - 1) * length bs + length bs ≤ length l.plans) × ((l.n - 1) * length bs ≤ 4096)
    last-inside =
        let e : suc (l.n - 1) ≡ l.n = omega arith in
        let m : suc (l.n - 1) * length bs ≡ l.n * length bs = ap (λ (n : ℕ). n * length bs) e in
        let small : l.n * length bs ≤ 4096 = rw (← states) h.held.small in
        (omega (arith, m, suc-mul (l.n - 1) (length bs), plans_fit), omega (arith, m, suc-mul (l.n - 1) (length bs), small))

    pub last_fits : nat_abs (get_or l.costs (l.n - 1) (pos 0)) ≤ 4000000000000000000
    last_fits =
        let e = some_at (ranking ws k) (l.n - 1) (omega (arith, h.count)) in
        let i = at_in (ranking ws k) (l.n - 1) e.0 e.1 in
        rw (entry_cost ws ok k l h (l.n - 1) e.0 e.1 (omega arith)) (cost-fits ws ok e.0 ((in_list ws ok k e.0).0 i).0)

    pub beside_says : l.n ≤ place_in (parts l.plans (length bs) 0 l.n) bs
        → standing ws k bs ≡ beside_last (take (length bs) (drop ((l.n - 1) * length bs) l.plans)) (get_or l.costs (l.n - 1) (pos 0)) bs (policy_cost ws bs)
    unfolding standing
    beside_says i =
        let e : length (ranking ws k) ≤ place_in (ranking ws k) bs
        = omega (arith, h.count, i, ap (λ (ps : List Policy). place_in ps bs) parts_here) in
        rw (le-ltb (place_in (ranking ws k) bs) (length (ranking ws k)) e, last_is, bytes_here (l.n - 1) (omega arith), cost_at (l.n - 1) (omega arith))
