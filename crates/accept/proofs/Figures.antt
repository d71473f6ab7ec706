-- What accepting gives, and 0 for both figures where it refuses, are the figures of the record.
-- Assumes nothing.
use mathlib.Core.Path.{◌≡◌, ap, ◌∙◌}
use mathlib.Core.List.{List}
use Prim.Native.Nat.{ℕ}
use Rattle.std.specs.Prelude.{Result, Ok, Err, IfOk}
use Rattle.std.specs.Result.{ResultUnwrapsOrElse}
use Rattle.model.specs.Record.{accept_number}
use Rattle.model.specs.Calls.{accept_states, accept_count}
use Rattle.questions.specs.Answers.{leaves}
use Rattle.refusal.specs.declared.Refusal.{Refusal}
use Rattle.refusal.specs.Refusal.{number_in, some_number}
use Rattle.accept.specs.declared.Accepted.{Accepted}

pub figures : (x : Result Accepted Refusal) (r : List ℕ) {a : Accepted} → number_in x ≡ accept_number r → IfOk x (λ y. y.s ≡ accept_states r)
    → IfOk x (λ y. y.k ≡ accept_count r) → ResultUnwrapsOrElse x (λ y. (y.s ≡ 0) × (y.k ≡ 0)) a → (a.s ≡ accept_states r) × (a.k ≡ accept_count r)
unfolding accept_states accept_count
figures (Ok y) r n s k u = (ap (λ (z : Accepted). z.s) u ∙ s, ap (λ (z : Accepted). z.k) u ∙ k)
figures (Err q) r n s k u = (u.0 ∙ leaves n (some_number q) _ _, u.1 ∙ leaves n (some_number q) _ _)
