-- "Check 8 loses its second half": the rules before the request accept a book exactly if it is accepted and has one closing action a state; an accepted
-- book with more gets 8 by them. A book with one gives the same numbers, lists and records, and no record that they accept is refused.
-- Assumes nothing.
use Rattle.std.specs.Prelude.{◌≡◌, Bool, cond, ◌↔◌, List, map, ℕ, ◌+◌, ◌<◌, pos}
use Rattle.std.proofs.Math.Path.{refl, sym}
use Rattle.std.proofs.Common.{◌∙◌, arith, eqb-true, eq-eqb}
use Rattle.std.proofs.Math.Bool.{true, false}
use Rattle.std.proofs.Math.Dec.{eqb}
use Rattle.model.specs.Model.{Words, word, horizon, state_count, stage, action_count}
use Rattle.model.specs.Questions.{first_no, inside, most_actions, count_allowed, counts_allowed, size_questions, action_questions, book_number}
use Rattle.model.specs.Record.{carried_k, carried_book, head_questions, accept_number}
use Rattle.questions.specs.Ranges.{all-at, all_same, inside_range, inside_wider}
use Rattle.questions.specs.FirstNo.{fails, passed, after, then_yes, then_zero, both_zero, rest-same, answers_same}
use Rattle.questions.specs.Calls.{asked_by, accept_number_by, SameCalls, same-calls, same_accept}
use Rattle.depots.specs.Former.{OneClosing, former_count, former_counts, former_question, former_number}

module _ (ws : Words) where
  -- ---- question 8

  counts_same : OneClosing ws → former_counts ws ≡ counts_allowed ws
  unfolding former_counts former_count counts_allowed count_allowed action_count
  counts_same one = all_same (state_count ws) (former_count ws) (count_allowed ws) (λ p l. go p l (eqb (stage ws p) (horizon ws)) refl)
    where
      go : (p : ℕ) → p < state_count ws → (b : Bool) → eqb (stage ws p) (horizon ws) ≡ b
          → inside (pos 1) (pos (cond b 1 most_actions)) (word ws (4 + horizon ws + p)) ≡ inside (pos 1) (pos most_actions) (word ws (4 + horizon ws + p))
      go p l true e = inside_wider 1 1 most_actions (word ws (4 + horizon ws + p)) (omega (arith, one p l (eqb-true (stage ws p) (horizon ws) e))) (omega arith)
      go p l false e = refl

  counts_one : former_counts ws ≡ true → OneClosing ws
  unfolding former_counts former_count action_count
  counts_one e p l last =
      let r = inside_range 1 1 (word ws (4 + horizon ws + p)) (rw (eq-eqb (stage ws p) (horizon ws) last) at (all-at (state_count ws) (former_count ws) e p l)) in
      omega (arith, r.0, r.1)

  -- ---- the questions 1 to 13

  -- a book with one closing action a state gets the same number
  pub number_same : OneClosing ws → former_number ws ≡ book_number ws
  unfolding former_number book_number
  number_same one =
      rest-same ws size_questions (omega arith) (map former_question action_questions) action_questions
      (λ passed. answers_same ws former_question action_questions
      (refl, counts_same one, (refl, refl, (refl, refl, (refl, refl, (refl, refl, (refl, refl, tt)))))))

  -- "At stage H each post has one choice": so it is in a book that they accept
  former_one : former_number ws ≡ 0 → OneClosing ws
  unfolding former_number
  former_one before =
      counts_one
      (passed ws (map former_question action_questions) (omega arith)
      (both_zero ws size_questions (omega arith) (map former_question action_questions) before).1).0

  -- the second half of question 8 is all that they add
  pub accepts_exactly : (former_number ws ≡ 0) ↔ ((book_number ws ≡ 0) × OneClosing ws)
  accepts_exactly = (
    λ before. let one = former_one before in (sym (number_same one) ∙ before, one),
    λ h. number_same h.1 ∙ h.0,
  )

  -- an accepted book with several depots at a state gets 8 by them
  pub several_refused : book_number ws ≡ 0 → (p : ℕ) → p < state_count ws → stage ws p ≡ horizon ws → 1 < action_count ws p → former_number ws ≡ 8
  unfolding former_number book_number
  several_refused ok p l last more =
      after ws size_questions (map former_question action_questions) (omega arith)
      ∙ then_yes (first_no size_questions ws) (first_no (map former_question action_questions) ws)
      (both_zero ws size_questions (omega arith) action_questions ok).0
      ∙ fails ws _ _ (refused (former_counts ws) refl)
    where
      refused : (b : Bool) → former_counts ws ≡ b → b ≡ false
      refused true e = absurd (omega (arith, counts_one e p l last))
      refused false e = refl

-- ---- the calls

-- the same list and record bytes, and the same answers of checking, valuing and the least cost
pub calls_same : (ws : Words) → OneClosing ws → SameCalls former_number ws
calls_same ws one = same-calls former_number ws (number_same ws one)

module _ (bs : List ℕ) where
  pub accept_same : OneClosing (carried_book bs) → accept_number_by former_number bs ≡ accept_number bs
  accept_same one = same_accept former_number bs (number_same (carried_book bs) one)

  -- a record that they accept is accepted
  pub still_accepted : accept_number_by former_number bs ≡ 0 → accept_number bs ≡ 0
  unfolding accept_number_by asked_by
  still_accepted before =
      let a = then_zero (first_no head_questions bs) _ before in
      let b = then_zero (asked_by former_number (carried_book bs) (carried_k bs)) _ a.1 in
      let c = then_zero (former_number (carried_book bs)) _ b.0 in
      sym (accept_same (former_one (carried_book bs) c.0)) ∙ before
