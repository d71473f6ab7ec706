-- What the limit says of the K and the book that were read is what is asked of the input.
-- Assumes nothing.
use mathlib.Core.Path.{◌≡◌, refl}
use mathlib.Core.List.{List}
use Prim.Native.Nat.{ℕ, ◌≤◌}
use lib.ListN.{length}
use Rattle.std.specs.Prelude.{Result, Ok, Err, IfOk}
use Rattle.model.specs.Model.{Words}
use Rattle.model.specs.Questions.{first_no}
use Rattle.model.specs.Limit.{Limit, first_kept}
use Rattle.model.specs.Calls.{limit_questions, limit_number}
use Rattle.model.specs.Page.{or_refused, input_limit, after_marks, marks_number, kept_line, limit_line, most_line}
use Rattle.refusal.specs.declared.Refusal.{Refusal}
use Rattle.refusal.specs.Refusal.{number_in, some_number}
use Rattle.text.specs.Text.{Appended}
use Rattle.page_lines.specs.Put.{Put, put_text, put_same, is_refused}
use Rattle.input.specs.declared.Input.{Input}
use Rattle.input.specs.Read.{Read, book}
use Rattle.input.specs.Ahead.{later-number, later_due}
use Rattle.limit.specs.declared.Kept.{Kept}
use Rattle.limit.specs.Says.{says}
use Rattle.limiting.specs.Line.{limited_line}

-- the line of what the call gives
line_is : (ws : Words) (k : ℕ) (limit : Limit) (r : Result Kept Refusal) → number_in r ≡ limit_number ws k limit → IfOk r (λ a. says a ≡ first_kept ws k limit)
    → limited_line r ≡ or_refused (limit_number ws k limit) (kept_line (first_kept ws k limit))
line_is ws k limit (Ok a) n e = rw (← n, e) refl
line_is ws k limit (Err q) n e = rw (← n) (is_refused _ _ (some_number q))

pub print : (input : List ℕ) {rest out out' : List ℕ} {limit : Limit} {q : Input} {r : ℕ} (f : Result Kept Refusal) → rest ≡ after_marks input
    → limit ≡ input_limit input → Read rest q → number_in f ≡ limit_number (book q) q.k limit → IfOk f (λ a. says a ≡ first_kept (book q) q.k limit)
    → most_line ≤ length out → Appended out 0 (limited_line f) out' r → Put most_line (limit_line input) out out' r
unfolding limit_line marks_number limit_number
print input {limit = limit} {q = q} f e p h n a l t =
    let d = rw e at h in
    let u = rw (line_is (book q) q.k limit f n a, p) at t in
    let later : Words → ℕ = λ (ws : Words). first_no (limit_questions ws) (input_limit input) in
    put_same (later-number d later) (later_due d later (λ (ws : Words) (k : ℕ). kept_line (first_kept ws k (input_limit input))))
    (put_text {n = 0} _ l refl u)
