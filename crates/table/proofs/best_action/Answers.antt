-- Assumes nothing.
use mathlib.Core.Path.{◌∙◌}
use native.Mathlib.Omega.{arith}
use Rattle.sets.specs.Sets.{has}
use Rattle.table.specs.Table.{row_of}
use Rattle.table.proofs.Better.{best_step, chosen_step}
use Rattle.table.proofs.best_action.Goals as goal

pub loop-c-preserved : goal.loop-c-preserved
loop-c-preserved c =
    let s = c.args in
    let f = row_of s.q.now s.p in
    rw c.best_of_two-best.ensures (
      chosen_step f (has s.mask c.loop-c.c) c.loop-c.best c.loop-c.c c.loop-c.invariant.0 (omega arith),
      c.loop-c.invariant.1 ∙ best_step f s.mask c.loop-c.c s.n c.loop-c.best (omega arith) (omega arith) c.loop-c.invariant.0,
    )
