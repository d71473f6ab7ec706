-- The entries of a list that stands in arrays: the cost and the bytes of the policy at each place, and that the parts of S bytes are the list.
-- Assumes nothing.
use Rattle.std.specs.Prelude.{◌≡◌, List, [], ◌∷◌, ◌++◌, ℕ, zero, suc, ◌+◌, ◌*◌, ◌<◌, ℤ, pos, take, drop, get_or}
use Rattle.std.proofs.Common.{sym, ap, ap₂, ◌∙◌, arith, take-append-drop, drop_of_length-le, get_or-take, drop-cons}
use Rattle.std.proofs.Math.Option.{some}
use Rattle.std.proofs.Math.ListN.{get_elem?}
use Rattle.model.specs.Model.{Words, state_count}
use Rattle.model.specs.Questions.{book_number}
use Rattle.model.specs.Policy.{Policy}
use Rattle.model.specs.Path.{policy_cost}
use Rattle.model.specs.Order.{ranking, ranking_costs}
use Rattle.laws.specs.Entries.{some_at, get_d_at}
use Rattle.accepted.specs.Demands.{costs_are}
use Rattle.record.specs.declared.Listing.{Listing}
use Rattle.record.specs.Listed.{Listed}
use Rattle.record.specs.Demand3.{wide, part_at}
use Rattle.record.specs.Parts.{parts}

module _ (ws : Words) (ok : book_number ws ≡ 0) (k : ℕ) (l : Listing) (h : Listed ws k l) (j : ℕ) (p : Policy) (e : get_elem? (ranking ws k) j ≡ some p) where
  pub entry_cost : j < l.n → get_or l.costs j (pos 0) ≡ policy_cost ws p
  entry_cost i =
      sym (get_or-take l.n l.costs j (pos 0) i) ∙ ap (λ (zs : List ℤ). get_or zs j (pos 0)) h.costs_are
      ∙ get_d_at (ranking_costs ws k) j (pos 0) (policy_cost ws p) (costs_are ws ok k j p e)

  pub entry_bytes : take l.s (drop (j * l.s) l.plans) ≡ p
  entry_bytes =
      ap (λ (bs : List ℕ). take l.s (drop (j * l.s) bs))
      (sym (take-append-drop (l.n * l.s) l.plans) ∙ ap (λ (bs : List ℕ). bs ++ drop (l.n * l.s) l.plans) h.plans_are)
      ∙ rw h.states (part_at (λ (q : Policy). q) (state_count ws) j (ranking ws k) p (drop (l.n * state_count ws) l.plans) (wide ws ok k) e)

module _ (ws : Words) (ok : book_number ws ≡ 0) (k : ℕ) (l : Listing) (h : Listed ws k l) where
  -- entry j, by its bytes
  pub bytes_at_lem : (j : ℕ) → j < l.n → take l.s (drop (j * l.s) l.plans) ≡ get_or (ranking ws k) j []
  bytes_at_lem j i =
      let e = some_at (ranking ws k) j (omega (arith, h.count)) in
      entry_bytes ws ok k l h j e.0 e.1 ∙ sym (get_d_at (ranking ws k) j [] e.0 e.1)

  parts_from_lem : (m j : ℕ) → j + m ≡ l.n → parts l.plans l.s j m ≡ drop j (ranking ws k)
  parts_from_lem zero j e = sym (drop_of_length-le (ranking ws k) {i = j} (omega (arith, h.count)))
  parts_from_lem (suc m) j e =
      ap₂ ◌∷◌ (bytes_at_lem j (omega arith)) (parts_from_lem m (suc j) (omega arith)) ∙ sym (drop-cons (ranking ws k) j [] (omega (arith, h.count)))

  -- the parts of S bytes are the list
  pub parts_are : parts l.plans l.s 0 l.n ≡ ranking ws k
  parts_are = parts_from_lem l.n 0 (omega arith)
