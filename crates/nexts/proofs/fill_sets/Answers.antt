-- Assumes nothing.
use native.Mathlib.Omega.{arith}
use Rattle.accepted.specs.Facts.{accepted}
use Rattle.nexts.proofs.Rows.{state_more}
use Rattle.nexts.proofs.fill_sets.Goals as goal

pub bounds-off-p : goal.bounds-off-p
bounds-off-p c = omega (arith, (accepted c.args.b.now c.requires.0.checked.ok).sizes.s_high)

pub loop-p-preserved : goal.loop-p-preserved
loop-p-preserved c = state_more c.args.b.now c.loop-p.p _ c.fill_state.ensures
