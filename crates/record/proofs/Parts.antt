-- The parts of a record, written, read and compared one after another.
-- Assumes nothing.
use mathlib.Core.Path.{◌≡◌, refl, sym, ap, ap₂, ◌∙◌}
use mathlib.Core.Bool.{◌&&◌}
use mathlib.Core.List.{List, [], ◌++◌, append-nil}
use Prim.Native.Nat.{ℕ, ◌+◌, ◌*◌, ◌≤◌}
use native.Mathlib.Omega.{arith}
use lib.IntN.{ℤ}
use lib.ListN.{length, take, drop, length-drop, take-append-drop}
use lib.Seq.{length-take-le, take_at, take_all, drop-drop}
use Rattle.model.specs.Lists.{for_each, same}
use Rattle.model.specs.Bytes.{bytes, signed_bytes, words_of}
use Rattle.model.specs.Model.{Words}
use Rattle.model.specs.Questions.{book_number}
use Rattle.model.specs.Record.{list_bytes, record_bytes, carried_length, carried_book, list_start}
use Rattle.model.specs.Calls.{over}
use Rattle.bytes_io.specs.Slices.{written}
use Rattle.bytes_io.proofs.Numbers.{length-words, length-signed}
use Rattle.bytes_io.proofs.Parts.{written-front, Filling, fill_start, fill_part, fill_end}
use Rattle.bytes_io.proofs.Same.{same_++}
use Rattle.record.specs.declared.Listing.{Listing}
use Rattle.record.specs.Listed.{list_length, cost_bytes, plan_bytes, Listed}
use Rattle.record.specs.Lengths.{each-length, words-length, head_bytes, head_length, record_is, record_length}
use Rattle.record.specs.Passed.{start_is}

-- ---- read

-- the words from byte 12 on, at the front of a slice
pub book_read : (r : List ℕ) (w : ℕ) (out out' : List ℤ) → w ≡ carried_length r → out' ≡ over (words_of w (drop 12 r)) out
    → take (carried_length r) out' ≡ carried_book r
unfolding carried_book
book_read r w out out' e f =
    rw (f, e) (take_at (words_of (carried_length r) (drop 12 r)) _ (carried_length r) (length-words (carried_length r) (drop 12 r)))

-- ---- written

-- four parts at the front
pub head_written : (o o₁ o₂ o₃ o₄ : List ℕ) (ws : Words) (k n : ℕ) → 12 + 4 * length ws ≤ length o
    → o₁ ≡ written o 0 4 (bytes 4 (length ws)) → o₂ ≡ written o₁ 4 4 (bytes 4 k) → o₃ ≡ written o₂ 8 4 (bytes 4 n)
    → o₄ ≡ written o₃ 12 (4 * length ws) (for_each (signed_bytes 4) ws)
    → o₄ ≡ written o 0 (12 + 4 * length ws) (head_bytes ws k n)
head_written o o₁ o₂ o₃ o₄ ws k n h e₁ e₂ e₃ e₄ = fill_end o 0 (12 + 4 * length ws) (head_bytes ws k n) room four (omega arith) refl
  where
    room : 0 + (12 + 4 * length ws) ≤ length o
    room = omega arith

    one : Filling o 0 (12 + 4 * length ws) (head_bytes ws k n) o₁ 4 (bytes 4 k ++ bytes 4 n ++ for_each (signed_bytes 4) ws)
    one = fill_part _ _ _ _ room (fill_start o 0 (12 + 4 * length ws) (head_bytes ws k n)) 4 4 (bytes 4 (length ws)) _ refl refl refl (omega arith) refl e₁

    three : Filling o 0 (12 + 4 * length ws) (head_bytes ws k n) o₃ 12 (for_each (signed_bytes 4) ws)
    three =
        fill_part _ _ _ _ room (fill_part _ _ _ _ room one 4 8 (bytes 4 k) (bytes 4 n ++ for_each (signed_bytes 4) ws) refl refl refl (omega arith) refl e₂)
        4 12 (bytes 4 n) _ refl refl refl (omega arith) refl e₃

    four : Filling o 0 (12 + 4 * length ws) (head_bytes ws k n) o₄ (12 + 4 * length ws) []
    four =
        fill_part _ _ _ _ room three (4 * length ws) (12 + 4 * length ws) (for_each (signed_bytes 4) ws) [] (words-length ws) refl refl (omega arith)
        (sym (append-nil _)) e₄

-- ---- the costs

costs-length : (n : ℕ) (costs : List ℤ) → n ≤ length costs → length (cost_bytes n costs) ≡ 8 * n
costs-length n costs h =
    rw (each-length (signed_bytes 8) 8 (take n costs) (λ z i. length-signed 8 z), length-take-le n costs h) (omega arith)

-- they are compared with what is written to the front of another slice
pub costs-same : (r o : List ℕ) {o' : List ℕ} (at n : ℕ) (costs : List ℤ) → n ≤ length costs → o' ≡ written o 0 (8 * n) (cost_bytes n costs)
    → same (take (8 * n) (drop at r)) (take (8 * n) o') ≡ same (take (8 * n) (drop at r)) (cost_bytes n costs)
costs-same r o at n costs h e =
    rw (
      e ∙ written-front o (8 * n) (cost_bytes n costs) (costs-length n costs h),
      take_at (cost_bytes n costs) (drop (length (cost_bytes n costs)) o) (8 * n) (costs-length n costs h),
    )

-- ---- the list of a book

module _ (ws : Words) (k : ℕ) (l : Listing) (h : Listed ws k l) where
  abbrev costs : List ℕ
  costs = cost_bytes l.n l.costs

  abbrev plans : List ℕ
  plans = plan_bytes l

  list_is : list_bytes ws k ≡ costs ++ plans
  unfolding list_bytes
  list_is = rw (h.costs_are, h.plans_are)

  costs_long : length costs ≡ 8 * l.n
  costs_long = costs-length l.n l.costs h.held.costs_long

  pub record_long : book_number ws ≡ 0 → length (record_bytes ws k) ≡ 12 + 4 * length ws + list_length l
  record_long ok = rw (record_length ws k ok, ← h.count, ← h.states) (omega arith)

  -- the head, then the costs, then the policies
  pub record_written : (o o₁ o₂ o₃ : List ℕ) → book_number ws ≡ 0 → length (record_bytes ws k) ≤ length o
      → o₁ ≡ written o 0 (12 + 4 * length ws) (head_bytes ws k l.n) → o₂ ≡ written o₁ (12 + 4 * length ws) (8 * l.n) costs
      → o₃ ≡ written o₂ (12 + 4 * length ws + 8 * l.n) (l.n * l.s) plans → o₃ ≡ over (record_bytes ws k) o
  record_written o o₁ o₂ o₃ ok room e₁ e₂ e₃ =
      fill_end o 0 all (record_bytes ws k) fits three (omega arith) refl ∙ written-front o all (record_bytes ws k) refl
    where
      head : ℕ
      head = 12 + 4 * length ws

      all : ℕ
      all = length (record_bytes ws k)

      fits : 0 + all ≤ length o
      fits = omega arith

      one : Filling o 0 all (record_bytes ws k) o₁ head (costs ++ plans)
      one =
          fill_part _ _ _ _ fits (fill_start o 0 all (record_bytes ws k)) head head (head_bytes ws k l.n) _ (head_length ws k l.n) refl (omega arith)
          (omega (arith, record_long ok)) (rw (record_is ws k, list_is, ← h.count)) e₁

      two : Filling o 0 all (record_bytes ws k) o₂ (head + 8 * l.n) plans
      two = fill_part _ _ _ _ fits one (8 * l.n) (head + 8 * l.n) costs _ {i = head} costs_long (omega arith) refl (omega (arith, record_long ok)) refl e₂

      three : Filling o 0 all (record_bytes ws k) o₃ all []
      three =
          fill_part _ _ _ _ fits two (l.n * l.s) all plans [] {i = head + 8 * l.n} (length-take-le (l.n * l.s) l.plans h.held.plans_long) (omega arith)
          (omega (arith, record_long ok)) (omega arith) (sym (append-nil plans)) e₃

  -- the bytes of the list are those that question 21 asks for, the costs first
  pub list_asked : (r : List ℕ) (w : ℕ) → w ≡ carried_length r → length r ≡ 12 + 4 * w + list_length l
      → same (drop (list_start r) r) (list_bytes ws k)
      ≡ (same (take (8 * l.n) (drop (12 + 4 * w) r)) costs && same (take (l.n * l.s) (drop (12 + 4 * w + 8 * l.n) r)) plans)
  list_asked r w e long =
      let at = 12 + 4 * w in
      let parts : drop at r ≡ take (8 * l.n) (drop at r) ++ take (l.n * l.s) (drop (at + 8 * l.n) r)
      = sym (take-append-drop (8 * l.n) (drop at r))
      ∙ ap (λ (x : List ℕ). take (8 * l.n) (drop at r) ++ x)
      (drop-drop (8 * l.n) at r ∙ sym (take_all (l.n * l.s) (drop (at + 8 * l.n) r) (rw length-drop (omega arith)))) in
      let from : list_start r ≡ at = start_is r ∙ ap (λ (n : ℕ). 12 + 4 * n) (sym e) in
      ap₂ same (ap (λ (i : ℕ). drop i r) from ∙ parts) list_is
      ∙ same_++ (take (8 * l.n) (drop at r)) (take (l.n * l.s) (drop (at + 8 * l.n) r)) costs plans
      (length-take-le (8 * l.n) (drop at r) (rw length-drop (omega arith)) ∙ sym costs_long)
