-- What a walk over the actions has found so far, by the questions' own tests.
-- Assumes nothing.
use Rattle.std.specs.Prelude.{◌≡◌, Bool, true, false, ◌&&◌, ℕ, zero, suc, ◌+◌, ◌≤◌, ◌<◌, min, Result, Ok, Err}
use Rattle.model.specs.Lists.{all}
use Rattle.model.specs.Model.{Words, line_count, stage_size, state_count, stage, action_count, action_line}
use Rattle.model.specs.Questions.{every_action, branches_allowed, lines_allowed, cost_allowed, nexts_allowed, weights_allowed}
use Rattle.book.specs.declared.Sizes.{Sizes}
use Rattle.actions.specs.Action.{code, cost_up_to}
use Rattle.actions.specs.declared.Limits.{Limits}
use Rattle.refusal.specs.declared.Refusal.{Refusal}
use Rattle.refusal.specs.Refusal.{number_of, number_in}
use Rattle.check_book.specs.declared.Walk.{Walk}

-- the lower of two numbers, where 0 is none
abbrev pub lowest : ℕ → ℕ → ℕ
lowest zero y = y
lowest (suc x) zero = suc x
lowest (suc x) (suc y) = min (suc x) (suc y)

-- p is a state of the model, and q says what its actions are asked by
pub record StateOf (ws : Words) (p : ℕ) (q : Limits) : Type 0 where
  pub state : p < state_count ws
  pub stage_is : stage ws p ≡ q.n
  pub width_is : q.width ≡ stage_size ws (q.n + 1)

-- ---- the walk has passed every action of the states below p and the first c of state p

-- a test of them
unfoldable pub partly : (Words → ℕ → ℕ → Bool) → Words → ℕ → ℕ → Bool
partly test ws p c =
    all p (λ (q : ℕ). all (action_count ws q) (λ (d : ℕ). test ws (stage ws q) (action_line ws q d)))
    && all c (λ (d : ℕ). test ws (stage ws p) (action_line ws p d))

pub record Progress (ws : Words) (z : Sizes) (most p c : ℕ) (w : Walk) : Type 0 where
  pub fit : partly branches_allowed ws p c ≡ true
  pub no_is : number_in w.answer ≡ code true (partly cost_allowed ws p c) (partly nexts_allowed ws p c) (partly weights_allowed ws p c) (partly (cost_up_to most) ws p c)
  pub at-is : w.at ≡ z.columns + action_line ws p c
  pub inside : action_line ws p c ≤ line_count ws

-- the walk has stopped at an action that fails question 9
pub record Stopped (ws : Words) (q : Refusal) : Type 0 where
  pub no_is : number_of q ≡ 9
  pub unfit : every_action branches_allowed ws ≡ false

abbrev pub Walked : Words → Sizes → ℕ → ℕ → ℕ → Result Walk Refusal → Type 0
Walked ws z most p c (Ok w) = Progress ws z most p c w
Walked ws z most p c (Err q) = Stopped ws q

-- the whole walk
unfoldable pub walk_number : ℕ → Words → ℕ
walk_number most ws =
    code (lines_allowed ws) (every_action cost_allowed ws) (every_action nexts_allowed ws) (every_action weights_allowed ws) (every_action (cost_up_to most) ws)
