-- How the walk's findings grow by one action and by one state, and what they come to.
-- Assumes nothing.
use mathlib.Core.Path.{◌≡◌, refl, sym, ap, ap₂, ◌∙◌}
use mathlib.Core.Bool.{Bool, true, false, ◌&&◌}
use Prim.Native.Nat.{ℕ, ◌+◌, ◌<◌}
use native.Mathlib.Numerals.{add-one}
use native.Mathlib.Omega.{arith}
use borrow.Author.Tests.{eq-eqb, ne_eqb}
use Rattle.model.specs.Lists.{all}
use Rattle.model.specs.Model.{Words, line_count, state_count, stage, action_count, branches, line_after, skip, state_line, action_line}
use Rattle.model.specs.Questions.{every_action, branches_allowed, lines_allowed, cost_allowed, nexts_allowed, weights_allowed}
use Rattle.questions.specs.Ranges.{all_step, all_fails}
use Rattle.book.specs.declared.Sizes.{Sizes}
use Rattle.actions.specs.Action.{code, cost_up_to, action_number}
use Rattle.actions.proofs.Steps.{fit_bound}
use Rattle.std.specs.Prelude.{Ok}
use Rattle.refusal.specs.declared.Refusal.{Refusal}
use Rattle.refusal.specs.Refusal.{number_of, number_in}
use Rattle.check_book.specs.Walk.{lowest, partly, Progress, Stopped, walk_number}
use Rattle.check_book.specs.declared.Walk.{Walk}
use Rattle.check_book.proofs.Steps.{code_both}

and_assoc : (a b c : Bool) → (a && (b && c)) ≡ (a && b && c)
and_assoc true b c = refl
and_assoc false b c = refl

and_end : (a : Bool) → (a && true) ≡ a
and_end true = refl
and_end false = refl

module _ (ws : Words) (p c : ℕ) where
  -- one action more
  partly_step : (test : Words → ℕ → ℕ → Bool) → partly test ws p (c + 1) ≡ (partly test ws p c && test ws (stage ws p) (action_line ws p c))
  unfolding partly
  partly_step test =
      rw (all_step c (λ (d : ℕ). test ws (stage ws p) (action_line ws p d)))
      (and_assoc (all p (λ (q : ℕ). all (action_count ws q) (λ (d : ℕ). test ws (stage ws q) (action_line ws q d))))
      (all c (λ (d : ℕ). test ws (stage ws p) (action_line ws p d))) (test ws (stage ws p) (action_line ws p c)))

  line_step : action_line ws p (c + 1) ≡ line_after ws (action_line ws p c)
  unfolding action_line skip
  line_step = rw add-one

  abbrev n : ℕ
  n = stage ws p

  abbrev j : ℕ
  j = action_line ws p c

  module _ (z : Sizes) (most : ℕ) (w : Walk) (h : Progress ws z most p c w) where
    pub step : branches_allowed ws n j ≡ true → (x : ℕ) → x ≡ action_number most ws n j → (r : Walk) → number_in r.answer ≡ lowest (number_in w.answer) x
        → r.at ≡ w.at + 1 + branches ws j → Progress ws z most p (c + 1) r
    unfolding action_number line_after
    step fits x e r a b =
        record {
          fit = rw (partly_step branches_allowed, h.fit, fits);
          no_is =
              a
              ∙ ap₂ lowest h.no_is
              (e ∙ ap (λ (t : Bool). code t (cost_allowed ws n j) (nexts_allowed ws n j) (weights_allowed ws n j) (cost_up_to most ws n j)) fits)
              ∙ code_both (partly cost_allowed ws p c) (partly nexts_allowed ws p c) (partly weights_allowed ws p c) (partly (cost_up_to most) ws p c)
              (cost_allowed ws n j) (nexts_allowed ws n j) (weights_allowed ws n j) (cost_up_to most ws n j)
              ∙ rw (partly_step cost_allowed, partly_step nexts_allowed, partly_step weights_allowed, partly_step (cost_up_to most));
          at-is = omega (arith, b, h.at-is, line_step);
          inside = omega (arith, line_step, fit_bound ws n j fits);
        }

  -- an action that fails question 9
  pub stop : p < state_count ws → c < action_count ws p → branches_allowed ws n j ≡ false → every_action branches_allowed ws ≡ false
  unfolding every_action
  stop s l e =
      all_fails (state_count ws) (λ (q : ℕ). all (action_count ws q) (λ (d : ℕ). branches_allowed ws (stage ws q) (action_line ws q d))) p s
      (all_fails (action_count ws p) (λ (d : ℕ). branches_allowed ws (stage ws p) (action_line ws p d)) c l e)

-- ---- one state more

module _ (ws : Words) (z : Sizes) (most p : ℕ) where
  partly-next : (test : Words → ℕ → ℕ → Bool) → partly test ws (p + 1) 0 ≡ partly test ws p (action_count ws p)
  unfolding partly
  partly-next test =
      and_end _ ∙ all_step p (λ (q : ℕ). all (action_count ws q) (λ (d : ℕ). test ws (stage ws q) (action_line ws q d)))

  line_next : action_line ws (p + 1) 0 ≡ action_line ws p (action_count ws p)
  unfolding action_line skip state_line
  line_next = rw add-one

  pub next_state : (w : Walk) → Progress ws z most p (action_count ws p) w → Progress ws z most (p + 1) 0 w
  next_state w h =
      record {
        fit = partly-next branches_allowed ∙ h.fit;
        no_is =
            h.no_is ∙ rw (partly-next cost_allowed, partly-next nexts_allowed, partly-next weights_allowed, partly-next (cost_up_to most));
        at-is = rw line_next h.at-is;
        inside = rw line_next h.inside;
      }

pub begin : (ws : Words) (z : Sizes) (most : ℕ) → Progress ws z most 0 0 (record { answer = Ok tt; at = z.columns })
unfolding partly action_line skip state_line
begin ws z most = record { fit = refl; no_is = refl; at-is = omega arith; inside = omega arith }

-- ---- the whole walk

module _ (ws : Words) (z : Sizes) (most : ℕ) where
  module _ (w : Walk) (h : Progress ws z most (state_count ws) 0 w) where
    whole : (test : Words → ℕ → ℕ → Bool) → partly test ws (state_count ws) 0 ≡ every_action test ws
    unfolding partly every_action
    whole test = and_end _

    pub finish : w.at ≡ z.columns + line_count ws → number_in w.answer ≡ walk_number most ws
    unfolding walk_number lines_allowed action_line skip
    finish e =
        h.no_is
        ∙ rw (
          whole cost_allowed,
          whole nexts_allowed,
          whole weights_allowed,
          whole (cost_up_to most),
          sym (whole branches_allowed),
          h.fit,
          eq-eqb (state_line ws (state_count ws)) (line_count ws) (omega (arith, h.at-is, e)),
        )

    pub too_short : (w.at ≡ z.columns + line_count ws → ⊥) → 9 ≡ walk_number most ws
    unfolding walk_number lines_allowed action_line skip
    too_short e =
        rw (sym (whole branches_allowed), h.fit, ne_eqb (state_line ws (state_count ws)) (line_count ws) (λ k. e (omega (arith, h.at-is, k))))

  -- a walk that has stopped
  pub stopped_at : (q : Refusal) → Stopped ws q → number_of q ≡ walk_number most ws
  unfolding walk_number lines_allowed
  stopped_at q s = s.no_is ∙ rw (s.unfit)
