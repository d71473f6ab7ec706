-- "That figure becomes the limit": a book is accepted exactly if the rules before the request accept it and no action has more transitions than the
-- limit; one with more gets 9. "No filed record is affected": its number, its list and its bytes are the same.
-- Assumes nothing.
-- ---- question 9 with other limits
use Rattle.std.specs.Prelude.{◌≡◌, Bool, true, false, ◌&&◌, cond, ◌↔◌, List, map, ℕ, ◌<◌, eqb, leb, ℤ, pos}
use Rattle.std.proofs.Math.Path.{refl, sym}
use Rattle.std.proofs.Common.{ap, ◌∙◌, arith}
use Rattle.model.specs.Model.{Words, horizon, line_count, state_count, stage, action_count, left, branches, line_after, state_line, action_line}
use Rattle.model.specs.Questions.{first_no, inside, fewest_branches, most_branches, branches_allowed, lines_allowed, size_questions, action_questions}
use Rattle.model.specs.Questions.{book_number}
use Rattle.model.specs.Record.{carried_book, accept_number}
use Rattle.questions.specs.Ranges.{inside_wider}
use Rattle.questions.specs.FirstNo.{passes, fails, passed, after, then_yes, both_zero, rest-same, answers_same}
use Rattle.questions.specs.Stages.{stage-before}
use Rattle.questions.specs.Calls.{accept_number_by, SameCalls, same-calls, same_accept}
use Rattle.accepted.specs.Facts.{each_action, every-same, most-branches, lines_say, accepted}
use Rattle.record.specs.Passed.{accept_says}
use Rattle.branch_limit.specs.Former.{branches_within, lines_within, WithinLimit, former_most, former_question, former_number}

-- limits that agree on each r before stage H
pub lines_agree : (ws : Words) (lo hi from to : ℕ)
    → ((p c : ℕ) → p < state_count ws → c < action_count ws p → stage ws p < horizon ws
    → inside (pos lo) (pos hi) (left ws (action_line ws p c)) ≡ inside (pos from) (pos to) (left ws (action_line ws p c)))
    → lines_within lo hi ws ≡ lines_within from to ws
unfolding lines_within branches_within
lines_agree ws lo hi from to agree =
    ap (λ (t : Bool). t && eqb (state_line ws (state_count ws)) (line_count ws)) (every-same ws (branches_within lo hi) (branches_within from to) one)
  where
    one : (p c : ℕ) → p < state_count ws → c < action_count ws p
        → branches_within lo hi ws (stage ws p) (action_line ws p c) ≡ branches_within from to ws (stage ws p) (action_line ws p c)
    one p c l k = go (eqb (stage ws p) (horizon ws)) refl
      where
        r : ℤ
        r = left ws (action_line ws p c)

        fit : Bool
        fit = leb (line_after ws (action_line ws p c)) (line_count ws)

        go : (b : Bool) → eqb (stage ws p) (horizon ws) ≡ b
            → (cond b (inside (pos 0) (pos 0) r) (inside (pos lo) (pos hi) r) && fit) ≡ (cond b (inside (pos 0) (pos 0) r) (inside (pos from) (pos to) r) && fit)
        go true e = refl
        go false e = ap (λ (t : Bool). t && fit) (agree p c l k (stage-before ws p l e))

-- ---- the questions 1 to 13

module _ (ws : Words) where
  -- "r is at most 6"
  pub within : book_number ws ≡ 0 → WithinLimit ws
  within ok = (accepted ws ok).branches-most

  -- words in which no r is above the limit get the same number by both
  pub number_same : WithinLimit ws → former_number ws ≡ book_number ws
  unfolding former_number book_number lines_allowed branches_allowed lines_within branches_within branches
  number_same few =
      rest-same ws size_questions (omega arith) (map former_question action_questions) action_questions
      (λ passed. answers_same ws former_question action_questions
      (refl, refl, (refl, lines, (refl, refl, (refl, refl, (refl, refl, (refl, refl, tt)))))))
    where
      lines : lines_within fewest_branches former_most ws ≡ lines_allowed ws
      lines =
          lines_agree ws fewest_branches former_most fewest_branches most_branches
          (λ p c l k h. sym (inside_wider fewest_branches most_branches former_most (left ws (action_line ws p c)) (few p c l k h) (omega arith)))

  -- a book that is accepted is so by the rules before the request
  pub accepted_before : book_number ws ≡ 0 → former_number ws ≡ 0
  accepted_before ok = number_same (within ok) ∙ ok

  -- the limit is all that they lack
  pub accepts_exactly : (book_number ws ≡ 0) ↔ ((former_number ws ≡ 0) × WithinLimit ws)
  accepts_exactly = (λ ok. (accepted_before ok, within ok), λ h. sym (number_same h.1) ∙ h.0)

  -- "A row of 7, accepted before, gets 9."
  pub row_refused : former_number ws ≡ 0 → (p c : ℕ) → p < state_count ws → c < action_count ws p → stage ws p < horizon ws
      → most_branches < branches ws (action_line ws p c) → book_number ws ≡ 9
  unfolding former_number book_number
  row_refused before p c l k h wide =
      after ws size_questions action_questions (omega arith)
      ∙ then_yes (first_no size_questions ws) (first_no action_questions ws) both.0
      ∙ passes ws _ _ (passed ws (map former_question action_questions) (omega arith) both.1).0
      ∙ fails ws _ _ (refused (lines_allowed ws) refl)
    where
      both : (first_no size_questions ws ≡ 0) × (first_no (map former_question action_questions) ws ≡ 0)
      both = both_zero ws size_questions (omega arith) (map former_question action_questions) before

      refused : (b : Bool) → lines_allowed ws ≡ b → b ≡ false
      refused true e =
          let few = most-branches ws (stage ws p) (action_line ws p c) (each_action branches_allowed ws (lines_say ws e) p c l k) h in
          absurd (omega arith)
      refused false e = refl

-- ---- the calls

-- the same list and record bytes, and the same answers of checking, valuing and the least cost
pub calls_same : (ws : Words) → WithinLimit ws → SameCalls former_number ws
calls_same ws few = same-calls former_number ws (number_same ws few)

module _ (bs : List ℕ) where
  -- "No filed record is affected.": one whose book has no r above the limit gets the same number
  pub accept_same : WithinLimit (carried_book bs) → accept_number_by former_number bs ≡ accept_number bs
  accept_same few = same_accept former_number bs (number_same (carried_book bs) few)

  -- one that is accepted is so by the rules before the request
  pub accept_before : accept_number bs ≡ 0 → accept_number_by former_number bs ≡ 0
  accept_before ok = accept_same (within (carried_book bs) (accept_says bs ok).asked.ok) ∙ ok
