-- Demand 3, over the bytes of a record: "lists a plan of the book exactly when fewer than K of its plans come before it, once, with its exact cost, with
-- exactly those plans above it, and lists nothing else".
-- Assumes nothing.
use Rattle.std.specs.Prelude.{◌≡◌, refl, ◌↔◌, T, take, drop}
use Rattle.std.proofs.Math.Path.{sym, ap}
use Rattle.std.proofs.Common.{◌∙◌, arith, take_at, drop_at, drop-drop}
use mathlib.Core.List.{List, [], ◌∷◌, ◌++◌, append_assoc, append-nil}
use Prim.Native.Nat.{ℕ, zero, suc, ◌+◌, ◌*◌, ◌<◌}
use Rattle.std.proofs.Math.ListN.{length, get_elem?}
use Rattle.std.proofs.Math.Option.{some}
use Rattle.model.specs.Lists.{for_each, count}
use Rattle.model.specs.Model.{Words, state_count}
use Rattle.model.specs.Questions.{book_number}
use Rattle.model.specs.Policy.{Policy, is_policy, policies}
use Rattle.model.specs.Path.{policy_cost}
use Rattle.model.specs.Order.{comes_before, ranking, ranking_costs}
use Rattle.model.specs.Bytes.{signed_bytes}
use Rattle.model.specs.Record.{list_bytes, record_bytes}
use Rattle.laws.specs.Members.{Every, in_every}
use Rattle.laws.specs.Sorting.{at_in}
use Rattle.laws.specs.Entries.{some_at, at_low}
use Rattle.accepted.specs.Demands.{policy-bytes, in_list, list_length_lem, listed, none-missing, costs_are}
use Rattle.bytes_io.proofs.Numbers.{length-signed}
use Rattle.record.specs.Lengths.{head_bytes, head_length, record_is, costs-length, each-length}

-- of parts of n bytes each, one after the other, part j
pub part_at : {A : Type 0} (f : A → List ℕ) (n j : ℕ) (xs : List A) (a : A) (rest : List ℕ) → Every (λ x. length (f x) ≡ n) xs → get_elem? xs j ≡ some a
    → take n (drop (j * n) (for_each f xs ++ rest)) ≡ f a
part_at f n j [] a rest h e = absurd (at_in [] j a e)
part_at f n zero (x ∷ xs) a rest h e =
    let z : 0 * n ≡ 0 = omega arith in
    let first : x ≡ a = cc in
    ap (λ (m : ℕ). take n (drop m (f x ++ for_each f xs ++ rest))) z ∙ ap (take n) (append_assoc (f x) (for_each f xs) rest)
    ∙ take_at (f x) (for_each f xs ++ rest) n h.0 ∙ ap f first
part_at f n (suc j) (x ∷ xs) a rest h e =
    let m : suc j * n ≡ n + j * n = omega arith in
    ap (λ (m : ℕ). take n (drop m (f x ++ for_each f xs ++ rest))) m
    ∙ ap (take n) (sym (drop-drop (j * n) n (f x ++ for_each f xs ++ rest))
    ∙ ap (drop (j * n)) (ap (drop n) (append_assoc (f x) (for_each f xs) rest) ∙ drop_at (f x) (for_each f xs ++ rest) n h.0))
    ∙ part_at f n j xs a rest h.1 e

module _ (ws : Words) (ok : book_number ws ≡ 0) (k : ℕ) where
  -- where the bytes of plan j and of its cost lie, in a record of n plans
  abbrev pub plan_in : ℕ → ℕ → List ℕ → Policy
  plan_in n j r = take (state_count ws) (drop (12 + 4 * length ws + (8 * n + j * state_count ws)) r)

  abbrev pub cost_in : ℕ → List ℕ → List ℕ
  cost_in j r = take 8 (drop (12 + 4 * length ws + j * 8) r)

  -- after the head comes the list
  after_head : (m : ℕ) → drop (12 + 4 * length ws + m) (record_bytes ws k) ≡ drop m (list_bytes ws k)
  after_head m =
      sym (drop-drop m (12 + 4 * length ws) (record_bytes ws k))
      ∙ ap (drop m) (ap (drop (12 + 4 * length ws)) (record_is ws k)
      ∙ drop_at (head_bytes ws k (length (ranking ws k))) (list_bytes ws k) (12 + 4 * length ws) (head_length ws k (length (ranking ws k))))

  pub wide : Every (λ (bs : Policy). length bs ≡ state_count ws) (ranking ws k)
  wide = in_every (λ (bs : Policy). length bs ≡ state_count ws) (ranking ws k) (λ bs i. ((policy-bytes ws ok bs).0 ((in_list ws ok k bs).0 i).0).long)

  pub plan_bytes_lem : (j : ℕ) (bs : Policy) → get_elem? (ranking ws k) j ≡ some bs → plan_in (length (ranking ws k)) j (record_bytes ws k) ≡ bs
  unfolding list_bytes
  plan_bytes_lem j bs e =
      ap (take (state_count ws))
      (after_head (8 * length (ranking ws k) + j * state_count ws)
      ∙ sym (drop-drop (j * state_count ws) (8 * length (ranking ws k)) (list_bytes ws k))
      ∙ ap (drop (j * state_count ws)) (drop_at (for_each (signed_bytes 8) (ranking_costs ws k)) flat (8 * length (ranking ws k)) costs_long ∙ sym (append-nil flat)))
      ∙ part_at (λ (p : Policy). p) (state_count ws) j (ranking ws k) bs [] wide e
    where
      flat : List ℕ
      flat = for_each (λ (p : Policy). p) (ranking ws k)

      costs_long : length (for_each (signed_bytes 8) (ranking_costs ws k)) ≡ 8 * length (ranking ws k)
      costs_long = omega (arith, each-length (signed_bytes 8) 8 (ranking_costs ws k) (λ z i. length-signed 8 z), costs-length ws k)

  pub cost-bytes : (j : ℕ) (bs : Policy) → get_elem? (ranking ws k) j ≡ some bs → cost_in j (record_bytes ws k) ≡ signed_bytes 8 (policy_cost ws bs)
  unfolding list_bytes
  cost-bytes j bs e =
      ap (take 8) (after_head (j * 8))
      ∙ part_at (signed_bytes 8) 8 j (ranking_costs ws k) (policy_cost ws bs) (for_each (λ (p : Policy). p) (ranking ws k))
      (in_every (λ z. length (signed_bytes 8 z) ≡ 8) (ranking_costs ws k) (λ z i. length-signed 8 z)) (costs_are ws ok k j bs e)

  -- how many plans of the book come before one
  abbrev pub before : Policy → ℕ
  before bs = count (λ q. comes_before ws q bs) (policies ws)

  -- the record holds a plan as plan j exactly if it is a plan of the book that j plans come before, and j is below K; nothing else is held
  pub record_lists : (j : ℕ) (bs : Policy)
      → ((j < length (ranking ws k)) × (plan_in (length (ranking ws k)) j (record_bytes ws k) ≡ bs)) ↔ (T (is_policy ws bs) × (before bs ≡ j) × (j < k))
  record_lists j bs = (there, back)
    where
      there : (j < length (ranking ws k)) × (plan_in (length (ranking ws k)) j (record_bytes ws k) ≡ bs) → T (is_policy ws bs) × (before bs ≡ j) × (j < k)
      there h =
          let e = some_at (ranking ws k) j h.0 in
          (listed ws ok k j bs).0 (e.1 ∙ ap (λ (p : Policy). some p) (sym (plan_bytes_lem j e.0 e.1) ∙ h.1))

      back : T (is_policy ws bs) × (before bs ≡ j) × (j < k) → (j < length (ranking ws k)) × (plan_in (length (ranking ws k)) j (record_bytes ws k) ≡ bs)
      back h =
          let e = (listed ws ok k j bs).1 h in
          (at_low (ranking ws k) j bs e, plan_bytes_lem j bs e)

  -- "fewer than K are listed exactly when the book has fewer than K plans"
  pub fewer : (length (ranking ws k) < k) ↔ (length (policies ws) < k)
  fewer = (λ h. omega (arith, list_length_lem ws ok k, h), λ h. omega (arith, list_length_lem ws ok k, h))

  -- "and then none is missing"
  pub all_there : (bs : Policy) → length (ranking ws k) < k → T (is_policy ws bs) → plan_in (length (ranking ws k)) (before bs) (record_bytes ws k) ≡ bs
  all_there bs h t = ((record_lists (before bs) bs).1 (t, refl, ((in_list ws ok k bs).0 (none-missing ws ok k bs h t)).1)).1
