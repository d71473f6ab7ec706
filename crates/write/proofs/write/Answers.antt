-- The questions in order, the list, and the record of it. A list of no policy is question 28. The length is asked before a byte is written.
-- Assumes nothing.
use mathlib.Core.Path.{◌≡◌, sym, ◌∙◌}
use mathlib.Core.List.{List}
use Prim.Native.Nat.{ℕ, ◌≤◌, ◌<◌}
use native.Mathlib.Omega.{arith}
use borrow.Author.Tests.{le-leb, lt-leb}
use lib.ListN.{length}
use Rattle.std.proofs.lemmas.Result.{err_from_is_err_and}
use Rattle.model.specs.Model.{Words}
use Rattle.model.specs.Record.{record_bytes}
use Rattle.model.specs.Calls.{write_number, write_length, write_record}
use Rattle.questions.specs.FirstNo.{fails, passes, none}
use Rattle.questions.specs.Answers.{stops, goes_on, leaves, gives}
use Rattle.refusal.specs.Refusal.{some_number}
use Rattle.asked.specs.Asked.{Asked, Counted, counted_number, counted_says, counted_stops, list_none, list_some, asked_passed}
use Rattle.record.specs.declared.Listing.{Listing}
use Rattle.record.specs.Listed.{Listed}
use Rattle.record.proofs.Parts.{record_long}
use Rattle.write.proofs.write.Goals as goal

module _ (ws : Words) (k : ℕ) where
  -- past 1 to 14 the length of the list says whether there is a policy
  module _ (counted : 0 ≡ counted_number ws k) {l : Listing} (list : Listed ws k l) where
    says : Counted ws k
    says = counted_says ws k (sym counted)

    asked : (l.n ≡ 0 → ⊥) → Asked ws k
    asked some = list_some ws k says list.count some

  module _ (o : List ℕ) where
    -- a refusal writes nothing
    untouched : {n : ℕ} → n ≡ write_number ws k (length o) → (n ≡ 0 → ⊥) → o ≡ write_record ws k o
    unfolding write_record
    untouched e h = leaves e h _ _

    stopped : {n : ℕ} → n ≡ counted_number ws k → (n ≡ 0 → ⊥) → n ≡ write_number ws k (length o)
    unfolding write_number
    stopped e h = stops (e ∙ counted_stops ws k (λ z. h (e ∙ z))) _ h

    module _ (counted : 0 ≡ counted_number ws k) {l : Listing} (list : Listed ws k l) where
      empty : l.n ≡ 0 → 28 ≡ write_number ws k (length o)
      unfolding write_number
      empty z = stops (sym (list_none ws k (says counted list) list.count z)) _ (omega arith)

      module _ (some : l.n ≡ 0 → ⊥) where
        short : length o < length (record_bytes ws k) → 18 ≡ write_number ws k (length o)
        unfolding write_number
        short h = goes_on (asked_passed ws k (asked counted list some)) (sym (fails _ _ _ (lt-leb _ _ h)))

        room : length (record_bytes ws k) ≤ length o → 0 ≡ write_number ws k (length o)
        unfolding write_number
        room h = goes_on (asked_passed ws k (asked counted list some)) (sym (passes _ _ _ (le-leb _ _ h) ∙ none _))

pub returns-in_err-counted_number : goal.returns-in_err-counted_number
returns-in_err-counted_number c =
    let p = err_from_is_err_and c.from_residual.result c.from_residual.ensures.1 in
    let q = some_number c.in_err-counted_number.field-0.0 in
    let e = stopped _ _ c.args.out.now c.in_err-counted_number.ensures q in
    rw (p.1, p.2) (record { number = e; long = tt; «record» = untouched _ _ _ e q })

pub list-list-requires : goal.list-list-requires
list-list-requires c = counted_says _ _ (sym c.in_ok-counted_number.ensures)

pub returns-then-list-eq0 : goal.returns-then-list-eq0
returns-then-list-eq0 c =
    let e = empty _ _ c.args.out.now c.in_ok-counted_number.ensures c.list-list.ensures c.if-list-eq0.true in
    record { number = e; long = tt; «record» = untouched _ _ _ e (omega arith) }

pub returns-then-out-long : goal.returns-then-out-long
returns-then-out-long c =
    let n = c.in_ok-counted_number.ensures in
    let l = c.list-list.ensures in
    let ok = asked _ _ n l c.if-list-eq0.false in
    let e = short _ _ c.args.out.now n l c.if-list-eq0.false (omega (arith, c.if-out-long.true, record_long _ _ _ l ok.ok)) in
    record { number = e; long = tt; «record» = untouched _ _ _ e (λ z. omega arith) }

pub put_record-requires : goal.put_record-requires
put_record-requires c =
    let l = c.list-list.ensures in
    let ok = asked _ _ c.in_ok-counted_number.ensures l c.if-list-eq0.false in
    (ok, l, omega (arith, c.if-out-long.false, record_long _ _ _ l ok.ok))

pub returns : goal.returns
unfolding write_length write_record
returns c =
    let n = c.in_ok-counted_number.ensures in
    let l = c.list-list.ensures in
    let ok = asked _ _ n l c.if-list-eq0.false in
    let long = record_long _ _ _ l ok.ok in
    let e = room _ _ c.args.out.now n l c.if-list-eq0.false (omega (arith, c.if-out-long.false, long)) in
    record { number = e; long = gives (sym e) _ (omega (arith, long)); «record» = gives (sym e) _ c.put_record.ensures }
