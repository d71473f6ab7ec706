-- The lengths of the parts of a record.
-- Assumes nothing.
use Rattle.std.specs.Prelude.{◌≡◌, true, List, [], ◌∷◌, ◌++◌, ℕ, ◌+◌, ◌*◌, ◌≤◌, length}
use Rattle.std.proofs.Math.Path.{refl}
use Rattle.std.proofs.Common.{◌∙◌, inl, inr, suc-mul, mul-le-mul, arith}
use Rattle.std.proofs.Math.Nat.{mul_comm}
use Rattle.std.proofs.Math.ListN.{length-append, length-map}
use Rattle.model.specs.Lists.{for_each}
use Rattle.model.specs.Bytes.{bytes, signed_bytes}
use Rattle.model.specs.Model.{Words, state_count}
use Rattle.model.specs.Questions.{book_number}
use Rattle.model.specs.Policy.{Policy, has_policy}
use Rattle.model.specs.Path.{policy_cost}
use Rattle.model.specs.Order.{ranking, ranking_costs}
use Rattle.model.specs.Record.{list_bytes, record_bytes}
use Rattle.laws.specs.Members.{In}
use Rattle.accepted.specs.Facts.{accepted}
use Rattle.accepted.specs.Demands.{in_list, policy-bytes, policies_some, list_length_lem}
use Rattle.bytes_io.proofs.Numbers.{length-signed}

-- lists of n elements for each element
pub each-length : {A B : Type 0} (f : A → List B) (n : ℕ) (xs : List A) → ((x : A) → In x xs → length (f x) ≡ n)
    → length (for_each f xs) ≡ length xs * n
each-length f n [] h = omega arith
each-length f n (x ∷ xs) h =
    rw (length-append, h x (inl refl), each-length f n xs (λ y i. h y (inr i)), suc-mul) (omega arith)

pub words-length : (ws : Words) → length (for_each (signed_bytes 4) ws) ≡ 4 * length ws
words-length ws = each-length (signed_bytes 4) 4 ws (λ z i. length-signed 4 z) ∙ mul_comm (length ws) 4

-- the longest book has 4 + 8 + 64 + 2 × 2,048 words
pub book-length : (ws : Words) → book_number ws ≡ 0 → length ws ≤ 4172
book-length ws ok = let z = (accepted ws ok).sizes in omega arith

-- the sizes and the book, for a list of n policies
abbrev pub head_bytes : Words → ℕ → ℕ → List ℕ
head_bytes ws k n = bytes 4 (length ws) ++ bytes 4 k ++ bytes 4 n ++ for_each (signed_bytes 4) ws

pub head_length : (ws : Words) (k n : ℕ) → length (head_bytes ws k n) ≡ 12 + 4 * length ws
head_length ws k n =
    rw (length-append (bytes 4 (length ws) ++ bytes 4 k ++ bytes 4 n) (for_each (signed_bytes 4) ws), words-length ws)

module _ (ws : Words) (k : ℕ) where
  pub record_is : record_bytes ws k ≡ head_bytes ws k (length (ranking ws k)) ++ list_bytes ws k
  unfolding record_bytes
  record_is = refl

  pub costs-length : length (ranking_costs ws k) ≡ length (ranking ws k)
  unfolding ranking_costs
  costs-length = length-map (ranking ws k) (policy_cost ws)

  module _ (ok : book_number ws ≡ 0) where
    -- "Plan j, counted from 0, fills the S bytes from j × S."
    pub flat_length : length (for_each (λ (p : Policy). p) (ranking ws k)) ≡ length (ranking ws k) * state_count ws
    flat_length =
        each-length (λ (p : Policy). p) (state_count ws) (ranking ws k)
        (λ p i. ((policy-bytes ws ok p).0 ((in_list ws ok k p).0 i).0).long)

    pub list_bytes-length : length (list_bytes ws k) ≡ 8 * length (ranking ws k) + length (ranking ws k) * state_count ws
    unfolding list_bytes
    list_bytes-length =
        rw (
          length-append,
          each-length (signed_bytes 8) 8 (ranking_costs ws k) (λ z i. length-signed 8 z),
          costs-length,
          flat_length,
          mul_comm (length (ranking ws k)) 8,
        )

    -- "Length 12 + 4W + 8k + kS"
    pub record_length : length (record_bytes ws k)
        ≡ 12 + 4 * length ws + 8 * length (ranking ws k) + length (ranking ws k) * state_count ws
    record_length =
        rw (
          record_is,
          length-append (head_bytes ws k (length (ranking ws k))) (list_bytes ws k),
          head_length ws k (length (ranking ws k)),
          list_bytes-length,
        )
        (omega arith)

    pub count_most : length (ranking ws k) ≤ k
    count_most = omega (arith, list_length_lem ws ok k)

    pub count_some : has_policy ws ≡ true → 1 ≤ k → 1 ≤ length (ranking ws k)
    count_some has h = omega (arith, list_length_lem ws ok k, policies_some ws ok has)

    -- "at most 21,308"
    pub record_most : k ≤ 64 → length (record_bytes ws k) ≤ 21308
    record_most h =
        let n = length (ranking ws k) in
        let m : n ≤ 64 = omega (arith, count_most) in
        let p : n * state_count ws ≤ 4096 = mul-le-mul {n₁ = n} {m₁ = state_count ws} {n₂ = 64} {m₂ = 64} m (accepted ws ok).sizes.s_high in
        omega (arith, record_length, book-length ws ok, m, p)
