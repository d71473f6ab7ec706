-- What finding says of the K and the book that were read is what is asked of the input.
-- Assumes nothing.
use mathlib.Core.Path.{◌≡◌, refl, sym}
use mathlib.Core.List.{List}
use Prim.Native.Nat.{ℕ, ◌≤◌}
use lib.ListN.{length}
use Rattle.std.specs.Prelude.{Result, Ok, Err, IfOk}
use Rattle.model.specs.Model.{Words}
use Rattle.model.specs.Questions.{first_no}
use Rattle.model.specs.Policy.{Policy}
use Rattle.model.specs.Standing.{standing}
use Rattle.model.specs.Calls.{policy_questions, find_number}
use Rattle.model.specs.Page.{or_refused, input_plan, after_plan, plan_number, answer_line, plan_line, most_line}
use Rattle.refusal.specs.declared.Refusal.{Refusal}
use Rattle.refusal.specs.Refusal.{number_in, some_number}
use Rattle.text.specs.Text.{Appended}
use Rattle.page_lines.specs.Put.{Put, put_text, put_same, is_refused}
use Rattle.input.specs.declared.Input.{Input}
use Rattle.input.specs.Read.{Read, book}
use Rattle.input.specs.Ahead.{later-number, later_due}
use Rattle.find.specs.declared.Standing.{Standing}
use Rattle.find.specs.Says.{says}
use Rattle.finding.specs.Line.{found_line}

-- the line of what finding gives
line_is : (ws : Words) (k : ℕ) (bs : Policy) (r : Result Standing Refusal) → number_in r ≡ find_number ws k bs → IfOk r (λ a. says a ≡ standing ws k bs)
    → found_line r ≡ or_refused (find_number ws k bs) (answer_line (standing ws k bs))
line_is ws k bs (Ok a) n e = rw (← n, e) refl
line_is ws k bs (Err q) n e = rw (← n) (is_refused _ _ (some_number q))

pub print : (input : List ℕ) {rest bs out out' : List ℕ} {q : Input} {r : ℕ} (f : Result Standing Refusal) → rest ≡ after_plan input → bs ≡ input_plan input
    → Read rest q → number_in f ≡ find_number (book q) q.k bs → IfOk f (λ a. says a ≡ standing (book q) q.k bs) → most_line ≤ length out
    → Appended out 0 (found_line f) out' r → Put most_line (plan_line input) out out' r
unfolding plan_line plan_number find_number
print input {bs = bs} {q = q} f e p h n a l t =
    let d = rw e at h in
    let u = rw (line_is (book q) q.k bs f n a, p) at t in
    let later : Words → ℕ = λ (ws : Words). first_no (policy_questions ws) (input_plan input) in
    put_same (later-number d later) (later_due d later (λ (ws : Words) (k : ℕ). answer_line (standing ws k (input_plan input))))
    (put_text {n = 0} _ l refl u)
