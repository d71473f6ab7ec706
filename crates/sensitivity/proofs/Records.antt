-- The same of two written records, by the bytes that their reader has: k, and the eight bytes of the cost at each rank.
-- Assumes nothing.
use Rattle.std.specs.Prelude.{◌≡◌, false, ℕ, ◌+◌, ◌*◌, ◌≤◌, ◌<◌, ℤ, pos, negsuc, ◌+ℤ◌, ◌≤ℤ◌, take, drop}
use Rattle.std.proofs.Math.Path.{refl, ap}
use Rattle.std.proofs.Common.{sym, ap₂, ◌∙◌, subst}
use mathlib.Core.List.{List}
use Rattle.std.proofs.Math.Option.{some}
use native.Mathlib.Omega.{arith}
use Rattle.std.proofs.Math.IntN.{nat_abs}
use Rattle.std.specs.Int.Signed.{mag}
use Rattle.std.proofs.Math.ListN.{get_elem?}
use Rattle.model.specs.Bytes.{from_bytes}
use Rattle.model.specs.Model.{Words, state_count, action_count, action, closed}
use Rattle.model.specs.Questions.{book_number}
use Rattle.model.specs.Policy.{Policy}
use Rattle.model.specs.Path.{policy_cost}
use Rattle.model.specs.Order.{ranking}
use Rattle.model.specs.Record.{record_bytes, carried_k, carried_count, carried_book, list_start, accept_number}
use Rattle.laws.specs.Members.{Every}
use Rattle.laws.specs.Sorting.{at_in}
use Rattle.laws.specs.Entries.{some_at}
use Rattle.accepted.specs.Demands.{in_list, costs_are, cost-fits}
use Rattle.bytes_io.specs.Slices.{signed_from}
use Rattle.bytes_io.proofs.Numbers.{read_half}
use Rattle.record.specs.Carried.{length-written, count-written}
use Rattle.record.specs.Demand2.{accepted_exactly}
use Rattle.record.specs.Demand3.{cost-bytes}
use Rattle.sensitivity.specs.Raise.{raised, most_rise, negative_from, filed_cost}
use Rattle.sensitivity.proofs.Moves.{costs_move, lengths-same}
use Rattle.sensitivity.specs.Records.{RecordMoved}

-- ---- the costs in a written record

module _ (ws : Words) (ok : book_number ws ≡ 0) (K : ℕ) where
  -- the eight bytes of place j say the cost of plan j
  cost-filed : (j : ℕ) (bs : Policy) → get_elem? (ranking ws K) j ≡ some bs → filed_cost (record_bytes ws K) j ≡ policy_cost ws bs
  unfolding filed_cost list_start
  cost-filed j bs e =
      ap (λ (n : ℕ). signed_from negative_from (from_bytes (take 8 (drop (12 + 4 * n + j * 8) (record_bytes ws K))))) (length-written ws ok K)
      ∙ ap (λ (b : List ℕ). signed_from negative_from (from_bytes b)) (cost-bytes ws ok K j bs e)
      ∙ read_half 8 negative_from refl (policy_cost ws bs) (small (policy_cost ws bs) (cost-fits ws ok bs ((in_list ws ok K bs).0 (at_in (ranking ws K) j bs e)).0))
    where
      small : (z : ℤ) → nat_abs z ≤ 4000000000000000000 → mag z < negative_from
      small (pos n) h = omega arith
      small (negsuc n) h = omega arith

-- ---- two records

module _ (ws : Words) (ok : book_number ws ≡ 0) (p c d : ℕ) (state : p < state_count ws) (own : c < action_count ws p)
    (raised-ok : book_number (raised ws p c d) ≡ 0) (old : closed (action ws p c).cost ≡ false)
    (new : closed (action (raised ws p c d) p c).cost ≡ false) where
  -- of the same K, for a book and the same with one cost raised
  pub written_move : (K : ℕ) → K ≤ 64 → RecordMoved (most_rise ws d) (record_bytes ws K) (record_bytes (raised ws p c d) K)
  written_move K h =
      record { count = count-written us raised-ok K h ∙ lengths-same ws ok p c d state own old new K ∙ sym (count-written ws ok K h); each = each }
    where
      us : Words
      us = raised ws p c d

      each : (j : ℕ) → j < carried_count (record_bytes ws K)
          → (filed_cost (record_bytes ws K) j ≤ℤ filed_cost (record_bytes us K) j)
          × (filed_cost (record_bytes us K) j ≤ℤ (filed_cost (record_bytes ws K) j +ℤ pos (most_rise ws d)))
      each j l =
          let a = some_at (ranking ws K) j (omega (arith, count-written ws ok K h)) in
          let b = some_at (ranking us K) j (omega (arith, count-written ws ok K h, lengths-same ws ok p c d state own old new K)) in
          rw (cost-filed ws ok K j a.0 a.1, cost-filed us raised-ok K j b.0 b.1)
          ((costs_move ws ok p c d state own old new K).each j (policy_cost ws a.0) (policy_cost us b.0) (costs_are ws ok K j a.0 a.1)
          (costs_are us raised-ok K j b.0 b.1))

-- whatever records are accepted: of the same K, where the book of the second is that of the first with one cost raised, of an action open in both
pub accepted_move : (first second : List ℕ) → Every (λ b. b < 256) first → Every (λ b. b < 256) second
    → accept_number first ≡ 0 → accept_number second ≡ 0 → carried_k second ≡ carried_k first
    → (p c d : ℕ) → p < state_count (carried_book first) → c < action_count (carried_book first) p → carried_book second ≡ raised (carried_book first) p c d
    → closed (action (carried_book first) p c).cost ≡ false → closed (action (carried_book second) p c).cost ≡ false
    → RecordMoved (most_rise (carried_book first) d) first second
accepted_move first second fb sb fa sa k p c d state own e old new =
    let f = (accepted_exactly first fb).0 fa in
    let s = (accepted_exactly second sb).0 sa in
    let opened = ap (λ (us : Words). closed (action us p c).cost) (sym e) ∙ new in
    let m = written_move (carried_book first) f.0 p c d state own (sym (ap book_number e) ∙ s.0) old opened (carried_k first) f.2 in
    subst (λ (r : List ℕ). RecordMoved most r second) (sym f.4)
    (subst (RecordMoved most (record_bytes (carried_book first) (carried_k first))) (sym (s.4 ∙ ap₂ record_bytes e k)) m)
  where
    most : ℕ
    most = most_rise (carried_book first) d
