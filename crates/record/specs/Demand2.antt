-- Demand 2 ("record bytes") in both directions, that what is written is accepted, and that no record of a book without a policy is written or
-- accepted (28).
-- Assumes nothing.
use Rattle.std.specs.Prelude.{◌≡◌, refl, true, ◌↔◌, List, ◌++◌, ℕ, zero, suc, ◌+◌, ◌*◌, ◌^◌, ◌≤◌, ◌<◌, T, length, drop}
use Rattle.std.proofs.Common.{sym, ap, ap₂, ◌∙◌, arith, take-append-drop, drop_at}
use Rattle.std.specs.Int.Signed.{mag}
use Rattle.model.specs.Model.{Words, state_count}
use Rattle.model.specs.Questions.{first_no, book_number}
use Rattle.model.specs.Policy.{Policy, is_policy, has_policy}
use Rattle.model.specs.Order.{ranking}
use Rattle.model.specs.Record.{list_bytes, record_bytes, carried_length, carried_k, carried_count, carried_book}
use Rattle.model.specs.Record.{head_questions, tail_questions, asked_number, accept_number}
use Rattle.model.specs.Calls.{if_accepted, over, write_number, write_record}
use Rattle.laws.specs.Members.{Every}
use Rattle.questions.specs.FirstNo.{then_zero}
use Rattle.accepted.specs.Demands.{NoPolicy, some_policy}
use Rattle.asked.specs.Asked.{asked_says, before_28}
use Rattle.record.specs.Lengths.{head_bytes, head_length, record_is, record_length, book-length, count_most, count_some}
use Rattle.record.specs.Passed.{AcceptedRecord, accept_says, accept_passed}
use Rattle.record.specs.Carried.{k_back, count-written, book_back, book-length_is, head_again}

-- an accepted record is the one written for what it carries
accepted_written : (bs : List ℕ) → Every (λ b. b < 256) bs → AcceptedRecord bs → bs ≡ record_bytes (carried_book bs) (carried_k bs)
accepted_written bs b a =
    sym (take-append-drop (12 + 4 * carried_length bs) bs)
    ∙ ap₂ ◌++◌
    (sym (head_again bs a.head b) ∙ ap (head_bytes (carried_book bs) (carried_k bs)) a.ranked.count)
    a.ranked.list
    ∙ sym (record_is (carried_book bs) (carried_k bs))

-- the record written for what it carries is accepted, whatever its bytes are
module _ (bs : List ℕ) (ok : book_number (carried_book bs) ≡ 0) (low : 1 ≤ carried_k bs) (high : carried_k bs ≤ 64)
    (has : has_policy (carried_book bs) ≡ true) (e : bs ≡ record_bytes (carried_book bs) (carried_k bs)) where
  abbrev ws : Words
  ws = carried_book bs

  abbrev k : ℕ
  k = carried_k bs

  abbrev n : ℕ
  n = length (ranking ws k)

  parts : bs ≡ head_bytes ws k n ++ list_bytes ws k
  parts = e ∙ record_is ws k

  count : carried_count bs ≡ n
  count = ap carried_count e ∙ count-written ws ok k high

  long : length bs ≡ 12 + 4 * carried_length bs + 8 * n + n * state_count ws
  long = ap length e ∙ record_length ws k ok ∙ ap (λ (w : ℕ). 12 + 4 * w + 8 * n + n * state_count ws) (book-length_is bs)

  list : drop (12 + 4 * carried_length bs) bs ≡ list_bytes ws k
  list =
      ap (drop (12 + 4 * carried_length bs)) parts
      ∙ drop_at (head_bytes ws k n) (list_bytes ws k) (12 + 4 * carried_length bs)
      (head_length ws k n ∙ ap (λ (w : ℕ). 12 + 4 * w) (book-length_is bs))

  written-passes : AcceptedRecord bs
  written-passes =
      record {
        head = record { long = omega (arith, long); words = omega (arith, book-length ws ok, book-length_is bs); follow = omega (arith, long) };
        asked = record { ok = ok; low = low; high = high; has = has };
        sized = record {
          some = omega (arith, count, count_some ws k ok has low);
          most = omega (arith, count, count_most ws k ok);
          exact = long ∙ ap (λ (m : ℕ). 12 + 4 * carried_length bs + 8 * m + m * state_count ws) (sym count);
        };
        ranked = record { count = count; list = list };
      }

-- A record is accepted exactly if its bytes are those written for the book and count it carries; no record is written for a book without a policy.
pub accepted_exactly : (bs : List ℕ) → Every (λ b. b < 256) bs
    → (accept_number bs ≡ 0)
    ↔ ((book_number (carried_book bs) ≡ 0) × (1 ≤ carried_k bs) × (carried_k bs ≤ 64) × (has_policy (carried_book bs) ≡ true)
    × (bs ≡ record_bytes (carried_book bs) (carried_k bs)))
accepted_exactly bs b = (
  λ z. let a = accept_says bs z in (a.asked.ok, a.asked.low, a.asked.high, a.asked.has, accepted_written bs b a),
  λ w. accept_passed bs (written-passes bs w.0 w.1 w.2 w.3 w.4),
)

-- a record is never accepted for a book without a policy
pub accepted_policy : (bs : List ℕ) → accept_number bs ≡ 0 → (p : Policy) × T (is_policy (carried_book bs) p)
accepted_policy bs z = let a = accept_says bs z in (some_policy (carried_book bs) a.asked.ok).0 a.asked.has

-- 28: "earlier questions passed, exactly if the book has no plan", whatever 20 and 21 would say
pub accept_28 : (bs : List ℕ) → first_no head_questions bs ≡ 0 → book_number (carried_book bs) ≡ 0 → 1 ≤ carried_k bs → carried_k bs ≤ 64
    → (accept_number bs ≡ 28) ↔ NoPolicy (carried_book bs)
unfolding accept_number
accept_28 bs head ok low high = rw head (before_28 (carried_book bs) (carried_k bs) ok low high bs tail_questions (refl, (refl, tt)))

-- what is written is accepted, and carries what it was written for
pub record WrittenAccepted (ws : Words) (k : ℕ) : Type 0 where
  pub number : accept_number (record_bytes ws k) ≡ 0
  pub book : carried_book (record_bytes ws k) ≡ ws
  pub asked : carried_k (record_bytes ws k) ≡ k
  pub count : carried_count (record_bytes ws k) ≡ length (ranking ws k)

pub written_accepted : (ws : Words) → book_number ws ≡ 0 → Every (λ z. mag z < 2 ^ 31) ws → (k : ℕ) → 1 ≤ k → k ≤ 64 → has_policy ws ≡ true
    → WrittenAccepted ws k
written_accepted ws ok words k low high has =
    record { number = number; book = book; asked = asked; count = count-written ws ok k high }
  where
    n : ℕ
    n = length (ranking ws k)

    parts : record_bytes ws k ≡ head_bytes ws k n ++ list_bytes ws k
    parts = record_is ws k

    book : carried_book (record_bytes ws k) ≡ ws
    book = ap carried_book parts ∙ book_back ws k n (list_bytes ws k) (omega (arith, book-length ws ok)) words

    asked : carried_k (record_bytes ws k) ≡ k
    asked = ap carried_k parts ∙ k_back ws k n (list_bytes ws k) (omega arith)

    number : accept_number (record_bytes ws k) ≡ 0
    number =
        accept_passed (record_bytes ws k)
        (written-passes (record_bytes ws k) (ap book_number book ∙ ok) (omega (arith, asked)) (omega (arith, asked))
        (ap has_policy book ∙ has) (sym (ap₂ record_bytes book asked)))

-- "No record is written for a book without a plan": a lent slice is as it was
pub unwritten : (ws : Words) → NoPolicy ws → (k : ℕ) (slice : List ℕ) → write_record ws k slice ≡ slice
unfolding write_record write_number
unwritten ws none k slice = go (write_number ws k (length slice)) refl
  where
    go : (n : ℕ) → write_number ws k (length slice) ≡ n → if_accepted n (over (record_bytes ws k) slice) slice ≡ slice
    go zero e =
        let a = asked_says ws k (then_zero (asked_number ws k) _ e).0 in
        let p = (some_policy ws a.ok).0 a.has in
        absurd (none p.0 p.1)
    go (suc n) e = refl
