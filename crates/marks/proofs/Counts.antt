-- Where the marks of each state stand.
-- Assumes nothing.
use mathlib.Core.Path.{◌≡◌}
use Prim.Native.Nat.{ℕ, zero, suc, ◌+◌, ◌*◌, ◌≤◌, ◌<◌}
use native.Mathlib.Omega.{arith}
use Rattle.model.specs.Model.{Words, state_count, action_count}
use Rattle.model.specs.Questions.{book_number}
use Rattle.model.specs.Limit.{first_mark}
use Rattle.questions.specs.Ranges.{sum_step, sum_mono}
use Rattle.accepted.specs.Facts.{accepted}

module _ (ws : Words) where
  pub mark_none : first_mark ws 0 ≡ 0
  unfolding first_mark
  mark_none = omega arith

  pub mark_step : (p : ℕ) → first_mark ws (p + 1) ≡ first_mark ws p + action_count ws p
  unfolding first_mark
  mark_step p = sum_step p (action_count ws)

  -- at most 8 for each state before
  pub mark_few : book_number ws ≡ 0 → (p : ℕ) → p ≤ state_count ws → first_mark ws p ≤ 8 * p
  unfolding first_mark
  mark_few ok zero h = omega arith
  mark_few ok (suc p) h = omega (arith, mark_few ok p (omega arith), (accepted ws ok).counts_high p (omega arith))

  -- no marks end after all of them
  pub mark_inside : (p : ℕ) → p < state_count ws → first_mark ws p + action_count ws p ≤ first_mark ws (state_count ws)
  unfolding first_mark
  mark_inside p l = omega (arith, sum_mono (suc p) (state_count ws) (action_count ws) l)
