-- The number of a book by the parts that answer its questions.
-- Assumes nothing.
use mathlib.Core.Path.{◌≡◌, refl, ◌∙◌}
use mathlib.Core.Bool.{Bool, true, false}
use native.Mathlib.Omega.{arith}
use lib.ListN.{drop}
use Rattle.model.specs.Model.{Words}
use Rattle.model.specs.Questions.{first_no, and_then, counts_allowed, every_action, lines_allowed, cost_allowed, nexts_allowed, weights_allowed, costs_bounded, size_questions, action_questions, book_number}
use Rattle.questions.specs.FirstNo.{passes, fails, none, after, then_no}
use Rattle.actions.specs.Action.{code}

module _ (ws : Words) where
  by_parts : book_number ws ≡ and_then (first_no size_questions ws) (first_no action_questions ws)
  unfolding book_number
  by_parts = after ws size_questions action_questions (omega arith)

  -- one of 1 to 7 is answered no
  pub of_sizes : (first_no size_questions ws ≡ 0 → ⊥) → book_number ws ≡ first_no size_questions ws
  of_sizes h = by_parts ∙ then_no (first_no size_questions ws) (first_no action_questions ws) h

  module _ (sizes : first_no size_questions ws ≡ 0) where
    past_sizes : book_number ws ≡ first_no action_questions ws
    past_sizes = by_parts ∙ rw sizes

    pub of_counts : counts_allowed ws ≡ false → book_number ws ≡ 8
    of_counts e = past_sizes ∙ fails ws _ _ e

    -- 9 to 13
    pub of_lines : counts_allowed ws ≡ true
        → book_number ws ≡ code (lines_allowed ws) (every_action cost_allowed ws) (every_action nexts_allowed ws) (every_action weights_allowed ws) (costs_bounded ws)
    of_lines counts =
        past_sizes ∙ passes ws _ _ counts
        ∙ go (lines_allowed ws) refl (every_action cost_allowed ws) refl (every_action nexts_allowed ws) refl (every_action weights_allowed ws) refl (costs_bounded ws) refl
      where
        go : (a : Bool) → lines_allowed ws ≡ a → (b : Bool) → every_action cost_allowed ws ≡ b → (c : Bool) → every_action nexts_allowed ws ≡ c
            → (d : Bool) → every_action weights_allowed ws ≡ d → (e : Bool) → costs_bounded ws ≡ e → first_no (drop 1 action_questions) ws ≡ code a b c d e
        go false p b q c r d s e t = fails ws _ _ p
        go true p false q c r d s e t = passes ws _ _ p ∙ fails ws _ _ q
        go true p true q false r d s e t = passes ws _ _ p ∙ passes ws _ _ q ∙ fails ws _ _ r
        go true p true q true r false s e t = passes ws _ _ p ∙ passes ws _ _ q ∙ passes ws _ _ r ∙ fails ws _ _ s
        go true p true q true r true s false t = passes ws _ _ p ∙ passes ws _ _ q ∙ passes ws _ _ r ∙ passes ws _ _ s ∙ fails ws _ _ t
        go true p true q true r true s true t =
            passes ws _ _ p ∙ passes ws _ _ q ∙ passes ws _ _ r ∙ passes ws _ _ s ∙ passes ws _ _ t ∙ none ws
