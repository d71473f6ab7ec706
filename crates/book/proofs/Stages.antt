-- The stage that a loop over the states carries.
-- Assumes nothing.
use mathlib.Core.Path.{◌≡◌}
use Prim.Native.Nat.{ℕ, ◌+◌}
use native.Mathlib.Omega.{arith}
use Rattle.model.specs.Model.{Words, stage}
use Rattle.questions.specs.Stages.{stage_is, first-zero, first_step}
use Rattle.questions.specs.Sizes.{Sized}
use Rattle.book.specs.Read.{StageNear, StageFor}
use Rattle.book.specs.declared.Stage.{Stage}

-- stage 0 has one state
pub start_near : (ws : Words) → Sized ws → StageNear ws 0 (record { n = 0; end = 1 })
start_near ws s =
    record {
      last = omega arith;
      end_is = omega (arith, first_step ws 0, first-zero ws, s.one);
      from = omega (arith, first-zero ws);
      to = omega arith;
    }

module _ (ws : Words) (p : ℕ) (t : Stage) (h : StageFor ws p t) where
  pub for_stage : stage ws p ≡ t.n
  for_stage = stage_is ws p t.n (record { within = h.last; from = h.from; to = omega (arith, h.to, h.end_is) })

  pub next_near : StageNear ws (p + 1) t
  next_near = record { last = h.last; end_is = h.end_is; from = omega (arith, h.from); to = omega (arith, h.to) }
