-- What the call of request 2.10 gives: its numbers, and that its figures say the one answer that is true.
-- Assumes nothing.
use Rattle.std.specs.Prelude.{◌≡◌, refl, ◌↔◌, ℕ, ◌≤◌}
use Rattle.std.proofs.Math.Path.{sym}
use Rattle.std.proofs.Common.{◌∙◌, arith}
use Rattle.model.specs.Model.{Words}
use Rattle.model.specs.Questions.{book_number}
use Rattle.model.specs.Record.{asked_number}
use Rattle.model.specs.Limit.{Limit, limit_allowed, Kept, first_kept, kept_number, kept_rank}
use Rattle.model.specs.Calls.{limit_questions, limit_number, limit_answer, limit_rank}
use Rattle.laws.specs.Members.{T_true, true-T, same_test}
use Rattle.questions.specs.FirstNo.{passed, passes, fails, none, then_yes, then_zero}
use Rattle.questions.specs.Answers.{gives}
use Rattle.accepted.specs.Demands.{NoPolicy}
use Rattle.asked.specs.Asked.{Asked, asked_says, asked_passed, before_28}
use Rattle.marks.specs.Allowed.{Allowed, allowed_is}
use Rattle.marked.specs.Answers.{Fits}
use Rattle.marked.proofs.Answers.{answer-true}

module _ (ws : Words) (k : ℕ) (limit : Limit) where
  -- a book, K, marks and m that pass every question
  pub limit_accepts : (limit_number ws k limit ≡ 0) ↔ (Asked ws k × Allowed ws limit)
  unfolding limit_number
  limit_accepts = (
    λ e. let z = then_zero (asked_number ws k) _ e in
        (asked_says ws k z.0, (allowed_is ws limit).0 (true-T (passed limit (limit_questions ws) (omega arith) z.1).0)),
    λ h. then_yes (asked_number ws k) _ (asked_passed ws k h.0) ∙ passes limit _ _ (T_true _ ((allowed_is ws limit).1 h.1)) ∙ none limit,
  )

  -- "Refused: 29, marks of the wrong length or value, or m out of range"
  pub limit_29 : Asked ws k → (limit_number ws k limit ≡ 29) ↔ (Allowed ws limit → ⊥)
  unfolding limit_number
  limit_29 a = (
    λ e t. omega (arith, e, limit_accepts.1 (a, t)),
    λ n. then_yes (asked_number ws k) _ (asked_passed ws k a)
        ∙ fails limit _ _ (same_test (limit_allowed ws limit) _ (λ t. n ((allowed_is ws limit).0 t)) (λ t. absurd t)),
  )

  -- "after 14 and 28": a book without a plan gets 28, whatever the marks and m
  pub limit_28 : book_number ws ≡ 0 → 1 ≤ k → k ≤ 64 → (limit_number ws k limit ≡ 28) ↔ NoPolicy ws
  unfolding limit_number
  limit_28 ok low high = before_28 ws k ok low high limit (limit_questions ws) (refl, tt)

  -- the figures are those of an answer that is true, and no other is (`exactly_one`)
  pub limit_says : limit_number ws k limit ≡ 0 → (a : Kept) × Fits ws k limit a × (limit_answer ws k limit ≡ kept_number a) × (limit_rank ws k limit ≡ kept_rank a)
  unfolding limit_answer limit_rank
  limit_says e =
      let h = limit_accepts.0 e in
      (first_kept ws k limit, answer-true ws h.0.ok k limit, sym (gives e _ refl), sym (gives e _ refl))
