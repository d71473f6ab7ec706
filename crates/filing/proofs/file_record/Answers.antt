-- The refusal, or the record of the book that was read: the slice has room for every record, so what is asked of the input decides.
-- Assumes nothing.
use mathlib.Core.Path.{◌≡◌, refl, sym, ap₂, ◌∙◌}
use mathlib.Core.List.{List}
use Prim.Native.Nat.{ℕ, zero, suc, ◌≤◌}
use native.Mathlib.Omega.{arith}
use borrow.Author.Tests.{le-leb}
use lib.ListN.{length, take}
use Rattle.refusal.specs.Refusal.{some_number}
use Rattle.model.specs.Model.{Words}
use Rattle.model.specs.Questions.{first_no, and_then}
use Rattle.model.specs.Record.{asked_number, record_bytes}
use Rattle.model.specs.Calls.{write_questions, write_number, write_length, write_record}
use Rattle.model.specs.Page.{filed, refused_line, or_refused, most_record}
use Rattle.questions.specs.FirstNo.{passes, none}
use Rattle.questions.specs.Answers.{leaves, gives}
use Rattle.asked.specs.Asked.{asked_says}
use Rattle.record.specs.Lengths.{record_most}
use Rattle.text.specs.Text.{Appended}
use Rattle.page_lines.specs.Put.{Put, too_short, put_refused, put_due, put_same}
use Rattle.input.specs.declared.Input.{Input}
use Rattle.input.specs.Read.{Read}
use Rattle.filing.proofs.file_record.Goals as goal

module _ (ws : Words) (k : ℕ) (out : List ℕ) (h : most_record ≤ length out) where
  -- 18 is answered yes
  number_is : write_number ws k (length out) ≡ asked_number ws k
  unfolding write_number
  number_is = go (asked_number ws k) refl
    where
      go : (n : ℕ) → asked_number ws k ≡ n → and_then n (first_no (write_questions ws k) (length out)) ≡ n
      go zero e =
          let a = asked_says ws k e in
          passes (length out) _ _ (le-leb (length (record_bytes ws k)) (length out) (omega (arith, record_most ws k a.ok a.high, h))) ∙ none (length out)
      go (suc n) e = refl

  -- what writing has left, and the line of its refusal
  refused : {no r : ℕ} {out₁ out' : List ℕ} → no ≡ write_number ws k (length out) → (no ≡ 0 → ⊥) → out₁ ≡ write_record ws k out
      → Appended out₁ 0 (refused_line no) out' r → Put most_record (or_refused (asked_number ws k) (record_bytes ws k)) out out' r
  unfolding write_record
  refused {no} e i o a = put_refused (record_bytes ws k) h no (e ∙ number_is) i (rw (o, ← leaves e i _ out) at a)

  written : {n : ℕ} {out' : List ℕ} → 0 ≡ write_number ws k (length out) → n ≡ write_length ws k (length out) → out' ≡ write_record ws k out
      → Put most_record (or_refused (asked_number ws k) (record_bytes ws k)) out out' n
  unfolding write_length write_record
  written e l o =
      let ok = sym e in
      put_due (record_bytes ws k) h (sym number_is ∙ ok) (l ∙ sym (gives ok 0 refl)) (o ∙ sym (gives ok out refl))

pub returns-then-out-lt-MOST_RECORD : goal.returns-then-out-lt-MOST_RECORD
returns-then-out-lt-MOST_RECORD c = too_short most_record _ _ c.if-out-lt-MOST_RECORD.true

-- the record of what was read is that of the input
of_input : {input out out' : List ℕ} {q : Input} {r : ℕ} → Read input q
    → Put most_record (or_refused (asked_number (take q.n q.words) q.k) (record_bytes (take q.n q.words) q.k)) out out' r
    → Put most_record (filed input) out out' r
unfolding filed
of_input h = put_same h.number (λ z. ap₂ record_bytes (h.words z) (h.count z))

pub returns-in-Ok : goal.returns-in-Ok
returns-in-Ok c = of_input c.read-q.ensures (written _ _ _ (omega arith) c.in-Ok.ensures.number c.in-Ok.ensures.long c.in-Ok.ensures.record)

pub returns-in-Err : goal.returns-in-Err
returns-in-Err c =
    of_input c.read-q.ensures
    (refused _ _ _ (omega arith) c.in-Err.ensures.number (some_number c.in-Err.no) c.in-Err.ensures.record c.put_refusal.ensures)
