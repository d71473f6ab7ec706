-- What the questions 19 to 21 say of a record, once they are passed, and that nothing else is asked.
-- Assumes nothing.
use Rattle.std.specs.Prelude.{◌≡◌, Bool, true, ◌&&◌, List, [], leb, eqb, length, drop}
use Rattle.std.proofs.Math.Path.{refl}
use Rattle.std.proofs.Common.{◌∙◌, leb-true, le-leb, eqb-true, eq-eqb}
use Prim.Native.Nat.{ℕ, zero, suc, ◌+◌, ◌*◌, ◌≤◌}
use native.Mathlib.Omega.{arith}
use Rattle.model.specs.Lists.{same}
use Rattle.model.specs.Model.{state_count}
use Rattle.model.specs.Questions.{first_no}
use Rattle.model.specs.Order.{ranking}
use Rattle.model.specs.Record.{list_bytes, carried_length, carried_k, carried_count, carried_book, list_start}
use Rattle.model.specs.Record.{head_questions, tail_questions, asked_number, accept_number}
use Rattle.model.specs.Calls.{if_accepted, accept_count}
use Rattle.questions.specs.Ranges.{and-true}
use Rattle.questions.specs.FirstNo.{passed, passes, none, then_zero}
use Rattle.asked.specs.Asked.{Asked, asked_says, asked_passed}
use Rattle.bytes_io.proofs.Same.{same_eq, eq_same}

module _ (bs : List ℕ) where
  -- where the list begins
  pub start_is : list_start bs ≡ 12 + 4 * carried_length bs
  unfolding list_start
  start_is = refl

  -- 19: "are there 12 bytes, is W at most 4,172, and do 4 × W bytes follow?"
  abbrev pub head_fits : Bool
  head_fits = leb 12 (length bs) && leb (carried_length bs) 4172 && leb (list_start bs) (length bs)

  pub record RecordHead : Type 0 where
    pub long : 12 ≤ length bs
    pub words : carried_length bs ≤ 4172
    pub follow : 12 + 4 * carried_length bs ≤ length bs

  pub head_says : first_no head_questions bs ≡ 0 → RecordHead
  head_says e =
      let t = (passed bs head_questions (omega arith) e).0 in
      let y = and-true (leb 12 (length bs) && leb (carried_length bs) 4172) (leb (list_start bs) (length bs)) t in
      let z = and-true (leb 12 (length bs)) (leb (carried_length bs) 4172) y.0 in
      record {
        long = leb-true 12 (length bs) z.0;
        words = leb-true (carried_length bs) 4172 z.1;
        follow = rw start_is at (leb-true (list_start bs) (length bs) y.1);
      }

  pub head_passed : RecordHead → first_no head_questions bs ≡ 0
  head_passed h =
      passes bs _ []
      (rw (le-leb 12 (length bs) h.long, le-leb (carried_length bs) 4172 h.words, start_is, le-leb _ (length bs) h.follow))
      ∙ none bs

  -- 20: "is k from 1 to K and the length exact?"
  pub record RecordSizes : Type 0 where
    pub some : 1 ≤ carried_count bs
    pub most : carried_count bs ≤ carried_k bs
    pub exact : length bs ≡ 12 + 4 * carried_length bs + 8 * carried_count bs + carried_count bs * state_count (carried_book bs)

  pub exact_length : (w n s : ℕ) → w ≡ carried_length bs → n ≡ carried_count bs → s ≡ state_count (carried_book bs) → RecordSizes
      → length bs ≡ 12 + 4 * w + 8 * n + n * s
  exact_length w n s e f g z = rw (e, f, g) z.exact

  -- 21: "Are costs, plans and k those that ranking gives?"
  pub record RecordList : Type 0 where
    pub count : carried_count bs ≡ length (ranking (carried_book bs) (carried_k bs))
    pub list : drop (12 + 4 * carried_length bs) bs ≡ list_bytes (carried_book bs) (carried_k bs)

  -- where the list ends
  abbrev end : ℕ
  end = list_start bs + 8 * carried_count bs + carried_count bs * state_count (carried_book bs)

  abbrev pub sizes_fit : Bool
  sizes_fit = leb 1 (carried_count bs) && leb (carried_count bs) (carried_k bs) && eqb (length bs) end

  abbrev count_is : Bool
  count_is = eqb (carried_count bs) (length (ranking (carried_book bs) (carried_k bs)))

  abbrev list_is : Bool
  list_is = same (drop (list_start bs) bs) (list_bytes (carried_book bs) (carried_k bs))

  pub sizes_say : sizes_fit ≡ true → RecordSizes
  sizes_say e =
      let p = and-true (leb 1 (carried_count bs) && leb (carried_count bs) (carried_k bs)) (eqb (length bs) end) e in
      let q = and-true (leb 1 (carried_count bs)) (leb (carried_count bs) (carried_k bs)) p.0 in
      record {
        some = leb-true 1 (carried_count bs) q.0;
        most = leb-true (carried_count bs) (carried_k bs) q.1;
        exact = rw start_is at (eqb-true (length bs) end p.1);
      }

  abbrev pub list_fits : Bool
  list_fits = count_is && list_is

  list_says : list_fits ≡ true → RecordList
  list_says e =
      let t = and-true count_is list_is e in
      record {
        count = eqb-true (carried_count bs) (length (ranking (carried_book bs) (carried_k bs))) t.0;
        list = rw start_is at (same_eq (drop (list_start bs) bs) (list_bytes (carried_book bs) (carried_k bs)) t.1);
      }

  pub tail_says : first_no tail_questions bs ≡ 0 → RecordSizes × RecordList
  tail_says e =
      let y = passed bs tail_questions (omega arith) e in (sizes_say y.0, list_says y.1.0)

  pub sizes_pass : RecordSizes → sizes_fit ≡ true
  sizes_pass z =
      rw (le-leb 1 (carried_count bs) z.some, le-leb (carried_count bs) (carried_k bs) z.most, start_is, eq-eqb _ _ z.exact)

  pub tail_passed : RecordSizes → RecordList → first_no tail_questions bs ≡ 0
  tail_passed z t =
      passes bs _ _ (sizes_pass z)
      ∙ passes bs _ [] (rw (eq-eqb _ _ t.count, start_is, eq_same t.list))
      ∙ none bs

  -- all that is asked of a record
  pub record AcceptedRecord : Type 0 where
    pub head : RecordHead
    pub asked : Asked (carried_book bs) (carried_k bs)
    pub sized : RecordSizes
    pub ranked : RecordList

  pub accept_says : accept_number bs ≡ 0 → AcceptedRecord
  unfolding accept_number
  accept_says e =
      let a = then_zero (first_no head_questions bs) _ e in
      let b = then_zero (asked_number (carried_book bs) (carried_k bs)) _ a.1 in
      let t = tail_says b.1 in
      record { head = head_says a.0; asked = asked_says (carried_book bs) (carried_k bs) b.0; sized = t.0; ranked = t.1 }

  pub accept_passed : AcceptedRecord → accept_number bs ≡ 0
  unfolding accept_number
  accept_passed a =
      rw (head_passed a.head, asked_passed (carried_book bs) (carried_k bs) a.asked, tail_passed a.sized a.ranked)

  -- no accepted record lists more than 64 policies
  pub listed_most : accept_count bs ≤ 64
  unfolding accept_count
  listed_most = go (accept_number bs) refl
    where
      go : (n : ℕ) → accept_number bs ≡ n → if_accepted n (carried_count bs) 0 ≤ 64
      go zero e = let a = accept_says e in omega (arith, a.sized.most, a.asked.high)
      go (suc n) e = omega arith
