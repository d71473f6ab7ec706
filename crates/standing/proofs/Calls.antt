-- What the call of request 2.8 gives: its numbers, and that its figures say the one answer that fits.
-- Assumes nothing.
use Rattle.std.specs.Prelude.{◌≡◌, refl, ◌↔◌, ℕ, ◌≤◌, T}
use Rattle.std.proofs.Math.Path.{sym}
use Rattle.std.proofs.Common.{◌∙◌, arith}
use Rattle.model.specs.Model.{Words}
use Rattle.model.specs.Questions.{book_number}
use Rattle.model.specs.Policy.{Policy, is_policy}
use Rattle.model.specs.Record.{asked_number}
use Rattle.model.specs.Standing.{Answer, standing, answer_number, answer_value}
use Rattle.model.specs.Calls.{policy_questions, find_number, find_answer, find_value}
use Rattle.laws.specs.Members.{T_true, true-T, same_test}
use Rattle.questions.specs.FirstNo.{passed, passes, fails, none, then_yes, then_zero}
use Rattle.questions.specs.Answers.{gives}
use Rattle.accepted.specs.Demands.{NoPolicy}
use Rattle.asked.specs.Asked.{Asked, asked_says, asked_passed, before_28}
use Rattle.standing.specs.Reasons.{Fits}
use Rattle.standing.proofs.Reasons.{reason_true}

module _ (ws : Words) (k : ℕ) (bs : Policy) where
  -- a book, K and plan that pass every question
  pub find_accepts : (find_number ws k bs ≡ 0) ↔ (Asked ws k × T (is_policy ws bs))
  unfolding find_number
  find_accepts = (
    λ e. let z = then_zero (asked_number ws k) _ e in
        (asked_says ws k z.0, true-T (passed bs (policy_questions ws) (omega arith) z.1).0),
    λ h. then_yes (asked_number ws k) _ (asked_passed ws k h.0) ∙ passes bs _ _ (T_true (is_policy ws bs) h.1) ∙ none bs,
  )

  -- "Other slices get 17": those that are no plan, where the book has one
  pub find_17 : Asked ws k → (find_number ws k bs ≡ 17) ↔ (T (is_policy ws bs) → ⊥)
  unfolding find_number
  find_17 a = (
    λ e t. omega (arith, e, find_accepts.1 (a, t)),
    λ n. then_yes (asked_number ws k) _ (asked_passed ws k a) ∙ fails bs _ _ (same_test (is_policy ws bs) _ n (λ t. absurd t)),
  )

  -- "asked after 14 and 28": a book without a plan gets 28, whatever the slice
  pub find_28 : book_number ws ≡ 0 → 1 ≤ k → k ≤ 64 → (find_number ws k bs ≡ 28) ↔ NoPolicy ws
  unfolding find_number
  find_28 ok low high = before_28 ws k ok low high bs (policy_questions ws) (refl, tt)

  -- the figures are those of an answer that fits, and no other does (`exactly_one`)
  pub find_says : find_number ws k bs ≡ 0 → (a : Answer) × Fits ws k bs a × (find_answer ws k bs ≡ answer_number a) × (find_value ws k bs ≡ answer_value a)
  unfolding find_answer find_value
  find_says e =
      let h = find_accepts.0 e in
      (standing ws k bs, reason_true ws h.0.ok k h.0.low bs h.1, sym (gives e _ refl), sym (gives e _ refl))
