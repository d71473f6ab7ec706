-- The three tests are question 21's own.
-- Assumes nothing.
use mathlib.Core.Path.{◌≡◌, sym, ◌∙◌}
use mathlib.Core.Bool.{true, ◌&&◌}
use mathlib.Core.List.{List}
use Prim.Native.Nat.{ℕ, ◌+◌, ◌*◌}
use native.Mathlib.Omega.{arith}
use borrow.Author.Tests.{eq-eqb, ne_eqb, eqb-true}
use lib.ListN.{length, take, drop}
use Rattle.model.specs.Lists.{same}
use Rattle.model.specs.Order.{ranking}
use Rattle.model.specs.Record.{list_bytes, carried_k, carried_count, carried_length, carried_book, list_start}
use Rattle.record.specs.declared.Listing.{Listing}
use Rattle.record.specs.Listed.{list_length, cost_bytes, plan_bytes, Listed}
use Rattle.record.specs.Passed.{sizes_fit, sizes_say, exact_length}
use Rattle.record.proofs.Parts.{list_asked}
use Rattle.record.proofs.list_fits.Goals as goal
use Rattle.record.proofs.list_fits.Goals.{then-carried_count-n, else-carried_count-n}

module _ (r : List ℕ) (l : Listing) (h : Listed (carried_book r) (carried_k r) l) (w : ℕ) (is_w : w ≡ carried_length r)
    (fit : sizes_fit r ≡ true) (same_n : carried_count r ≡ l.n) where
  -- past the first test k is that of the ranking
  count : carried_count r ≡ length (ranking (carried_book r) (carried_k r))
  count = same_n ∙ h.count

  -- and the record ends where the list does
  long : length r ≡ 12 + 4 * w + list_length l
  long = let e = exact_length r w l.n l.s is_w (sym same_n) h.states (sizes_say r fit) in omega (arith, e)

  -- what question 21 asks of the list, the costs first
  asked : same (drop (list_start r) r) (list_bytes (carried_book r) (carried_k r))
      ≡ (same (take (8 * l.n) (drop (12 + 4 * w) r)) (cost_bytes l.n l.costs)
      && same (take (l.n * l.s) (drop (12 + 4 * w + 8 * l.n) r)) (plan_bytes l))
  asked = list_asked _ _ l h r w is_w long

pub same_costs-requires : goal.same_costs-requires
same_costs-requires c =
    let n = sym c.carried_count.ensures.0 ∙ c.if-carried_count-n.true in
    omega (arith, long c.args.r.now _ c.requires.2 c.carried_length.result c.carried_length.ensures.0 c.requires.1 n, c.requires.2.held)

pub same_bytes-requires : goal.same_bytes-requires
same_bytes-requires c =
    elim c.if-carried_count-n.branch [
      | then-carried_count-n w ↦
          let n = sym c.carried_count.ensures.0 ∙ w.if-carried_count-n.true in
          omega (arith, long c.args.r.now _ c.requires.2 c.carried_length.result c.carried_length.ensures.0 c.requires.1 n, c.requires.2.held)
      | else-carried_count-n w ↦ absurd (w.if-carried_count-n.false (eqb-true _ _ (sym w.value-is ∙ c.if-same_costs.true)))
    ]

pub returns-then-same_costs : goal.returns-then-same_costs
returns-then-same_costs c =
    elim c.if-carried_count-n.branch [
      | then-carried_count-n w ↦
          let n = sym c.carried_count.ensures.0 ∙ w.if-carried_count-n.true in
          rw (
            eq-eqb _ _ (count c.args.r.now _ c.requires.2 _ c.carried_length.ensures.0 c.requires.1 n),
            asked c.args.r.now _ c.requires.2 _ c.carried_length.ensures.0 c.requires.1 n,
            sym w.same_costs.ensures ∙ sym w.value-is ∙ c.if-same_costs.true,
          )
          c.same_bytes.ensures
      | else-carried_count-n w ↦ absurd (w.if-carried_count-n.false (eqb-true _ _ (sym w.value-is ∙ c.if-same_costs.true)))
    ]

pub returns-else-same_costs : goal.returns-else-same_costs
returns-else-same_costs c =
    elim c.if-carried_count-n.branch [
      | then-carried_count-n w ↦
          let n = sym c.carried_count.ensures.0 ∙ w.if-carried_count-n.true in
          rw (
            eq-eqb _ _ (count c.args.r.now _ c.requires.2 _ c.carried_length.ensures.0 c.requires.1 n),
            asked c.args.r.now _ c.requires.2 _ c.carried_length.ensures.0 c.requires.1 n,
            sym w.same_costs.ensures ∙ sym w.value-is ∙ c.if-same_costs.false,
          )
          c.if-same_costs.false
      | else-carried_count-n w ↦
          rw (ne_eqb _ _ (λ e. w.if-carried_count-n.false (c.carried_count.ensures.0 ∙ e ∙ sym c.requires.2.count))) (w.value-is ∙ ne_eqb _ _ w.if-carried_count-n.false)
    ]
