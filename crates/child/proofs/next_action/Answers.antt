-- One answer at the split state and one after it.
-- Assumes nothing.
use mathlib.Core.Path.{ap, ◌∙◌}
use Prim.Native.Nat.{◌+◌, ◌<◌}
use native.Mathlib.Omega.{arith}
use borrow.Author.Tests.{eq-eqb}
use lib.ListN.{get_or}
use Rattle.model.specs.Lists.{up_from}
use Rattle.model.specs.Recursion.{best_of}
use Rattle.accepted.specs.Facts.{accepted}
use Rattle.sets.specs.Sets.{free, free-union}
use Rattle.table.specs.Table.{row_of}
use Rattle.child.proofs.next_action.Goals as goal
use Rattle.child.proofs.next_action.Goals.{Start}

below_64 : (s : goal.Start) → s.args.p < 64
below_64 s = omega (arith, s.requires.2, (accepted s.args.b.now s.requires.0.ok).sizes.s_high)

pub overflow_add-p : goal.overflow_add-p
overflow_add-p c = omega (arith, below_64 (goal.at.overflow_add-p c).Start)

pub bounds-best-p : goal.bounds-best-p
bounds-best-p c = omega (arith, below_64 (goal.at.bounds-best-p c).Start)

pub best_action-requires : goal.best_action-requires
best_action-requires c =
    let s = (goal.at.best_action-requires c).Start in
    (below_64 s, omega (arith, c.count-n.ensures, (accepted s.args.b.now s.requires.0.ok).counts_high s.args.p s.requires.2))

pub returns-then-split-p : goal.returns-then-split-p
returns-then-split-p c =
    let f = row_of c.args.q.now c.args.p in
    let off = get_or c.args.best.now (128 + c.args.p) 0 in
    rw (eq-eqb c.args.split c.args.p c.if-split-p.true)
    (c.best_action.ensures
    ∙ ap (λ m. best_of f (free m (up_from 0 c.count-n.result))) c.union-all.ensures
    ∙ ap (best_of f) (free-union c.args.mask off (up_from 0 c.count-n.result))
    ∙ ap (λ k. best_of f (free c.args.mask (free off (up_from 0 k)))) c.count-n.ensures)

pub overflow_add-result : goal.overflow_add-result
overflow_add-result c = omega (arith, below_64 (goal.at.overflow_add-result c).Start)

pub bounds-best-p-2 : goal.bounds-best-p-2
bounds-best-p-2 c = omega (arith, below_64 (goal.at.bounds-best-p-2 c).Start)
