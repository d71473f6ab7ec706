-- The choices before this state are written.
-- Assumes nothing.
use Prim.Native.Nat.{◌+◌, ◌*◌, ◌≤◌}
use lib.ListN.{take}
use Rattle.model.specs.Lists.{for_each}
use Rattle.model.specs.Page.{choice_text}
use Rattle.text.specs.Text.{Appended}
use Rattle.text.proofs.put_choices.Given as goal

abbrev pub invariant-loop-x : goal.invariant-loop-x
invariant-loop-x l = (l.p ≤ l.at + 21 * l.x-index) × Appended l.initial.out l.at (for_each choice_text (take l.x-index l.plan)) l.out l.p
