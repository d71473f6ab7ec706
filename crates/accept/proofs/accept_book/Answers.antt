-- After 19 the questions 1 to 14 are asked of what is carried, then 28, and then 20 and 21. A list of no policy is question 28.
-- Assumes nothing.
use mathlib.Core.Path.{◌≡◌, sym, ap₂, ◌∙◌}
use mathlib.Core.List.{List}
use Prim.Native.Nat.{ℕ}
use native.Mathlib.Omega.{arith}
use Rattle.std.proofs.lemmas.Result.{err_from_is_err_and}
use Rattle.model.specs.Model.{Words}
use Rattle.model.specs.Questions.{first_no}
use Rattle.model.specs.Record.{carried_k, carried_book, head_questions, tail_questions, accept_number}
use Rattle.model.specs.Calls.{accept_states, accept_count}
use Rattle.questions.specs.Answers.{stops, goes_on, gives}
use Rattle.asked.specs.Asked.{Asked, Counted, counted_number, counted_says, counted_stops, list_none, list_some, asked_passed}
use Rattle.refusal.specs.Refusal.{some_number}
use Rattle.record.specs.declared.Listing.{Listing}
use Rattle.record.specs.Listed.{Listed}
use Rattle.record.specs.Passed.{head_says, accept_says}
use Rattle.accept.proofs.accept_book.Goals as goal
use Rattle.accept.proofs.accept_book.Goals.{After-carried_k-k}

-- a record of which 19 is passed, its book and its count
record Carries (r : List ℕ) (b : Words) (k : ℕ) : Type 0 where
  head : first_no head_questions r ≡ 0
  book : b ≡ carried_book r
  count : k ≡ carried_k r

module _ {r : List ℕ} {b : Words} {k : ℕ} (f : Carries r b k) where
  -- the answer to 1 to 14 is that for what is carried
  carried-number : counted_number b k ≡ counted_number (carried_book r) (carried_k r)
  carried-number = ap₂ counted_number f.book f.count

  stopped : {n : ℕ} → n ≡ counted_number b k → (n ≡ 0 → ⊥) → n ≡ accept_number r
  unfolding accept_number
  stopped e h = let n = e ∙ carried-number in goes_on f.head (stops (n ∙ counted_stops _ _ (λ z. h (n ∙ z))) _ h)

  -- they are passed, and the list is that of what is carried
  module _ (counted : 0 ≡ counted_number b k) {l : Listing} (list : Listed b k l) where
    says : Counted (carried_book r) (carried_k r)
    says = counted_says _ _ (sym (counted ∙ carried-number))

    carried : Listed (carried_book r) (carried_k r) l
    carried = rw (← f.book, ← f.count) list

    empty : l.n ≡ 0 → 28 ≡ accept_number r
    unfolding accept_number
    empty z = goes_on f.head (stops (sym (list_none _ _ says carried.count z)) _ (omega arith))

    module _ (h : l.n ≡ 0 → ⊥) where
      asked : Asked (carried_book r) (carried_k r)
      asked = list_some _ _ says carried.count h

      -- 20 and 21 are the last
      last : {n : ℕ} → n ≡ first_no tail_questions r → n ≡ accept_number r
      unfolding accept_number
      last e = goes_on f.head (goes_on (asked_passed _ _ asked) e)

carries : (c : goal.After-carried_k-k) → Carries c.args.r.now c.args.b.now c.carried_k-k.result
carries c = record { head = c.requires.0; book = c.requires.1; count = c.carried_k-k.ensures.0 }

pub carried_k-k-requires : goal.carried_k-k-requires
carried_k-k-requires c = (head_says _ c.requires.0).long

pub returns-in_err-counted_number-clause-number : goal.returns-in_err-counted_number-clause-number
returns-in_err-counted_number-clause-number c =
    let p = err_from_is_err_and c.from_residual.result c.from_residual.ensures.1 in
    let f = carries (goal.at.returns-in_err-counted_number-clause-number c).After-carried_k-k in
    rw (p.1, p.2) (stopped f c.in_err-counted_number.ensures (some_number c.in_err-counted_number.field-0.0))

pub list-list-requires : goal.list-list-requires
list-list-requires c = counted_says _ _ (sym c.in_ok-counted_number.ensures)

pub returns-then-list-eq0-clause-number : goal.returns-then-list-eq0-clause-number
returns-then-list-eq0-clause-number c =
    let f = carries (goal.at.returns-then-list-eq0-clause-number c).After-carried_k-k in
    empty f c.in_ok-counted_number.ensures c.list-list.ensures c.if-list-eq0.true

-- some policy is listed
pub tail_number-requires : goal.tail_number-requires
tail_number-requires c =
    let f = carries (goal.at.tail_number-requires c).After-carried_k-k in
    let n = c.in_ok-counted_number.ensures in
    (c.requires.0, asked f n c.list-list.ensures c.if-list-eq0.false, carried f n c.list-list.ensures)

pub returns-in_err-tail_number-clause-number : goal.returns-in_err-tail_number-clause-number
returns-in_err-tail_number-clause-number c =
    let q = c.from_residual-in_err-tail_number in
    let p = err_from_is_err_and q.result q.ensures.1 in
    let f = carries (goal.at.returns-in_err-tail_number-clause-number c).After-carried_k-k in
    rw (p.1, p.2) (last f c.in_ok-counted_number.ensures c.list-list.ensures c.if-list-eq0.false c.in_err-tail_number.ensures)

pub returns : goal.returns
unfolding accept_states accept_count
returns c =
    let f = carries (goal.at.returns c).After-carried_k-k in
    let n = c.in_ok-counted_number.ensures in
    let no : 0 ≡ accept_number c.args.r.now = last f n c.list-list.ensures c.if-list-eq0.false c.in_ok-tail_number.ensures in
    let l = carried f n c.list-list.ensures in
    record {
      number = no;
      states = gives (sym no) 0 l.states;
      count = gives (sym no) 0 (l.count ∙ sym (accept_says _ (sym no)).ranked.count);
    }
