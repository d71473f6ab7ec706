-- A figure of a call: the one that the answer carries, and what stands for it where the call is refused.
-- Assumes nothing.
use Rattle.std.specs.Prelude.{◌≡◌, ℕ, Result, Ok, Err}
use Rattle.std.specs.Result.{IfOk, result_unwrap_or}
use Rattle.model.specs.Calls.{if_accepted}
use Rattle.questions.specs.Answers.{leaves}
use Rattle.refusal.specs.declared.Refusal.{Refusal}
use Rattle.refusal.specs.Refusal.{number_in, some_number}

module _ {A : Type 0} where
  pub figure_is : (r : Result A Refusal) {no : ℕ} (w x none : A) → w ≡ if_accepted no x none → number_in r ≡ no → IfOk r (λ y. y ≡ w) → result_unwrap_or r none ≡ w
  figure_is (Ok y) w x none d e k = k
  figure_is (Err q) w x none d e k = rw d (leaves e (some_number q) x none)
