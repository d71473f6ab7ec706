-- The index has the first line of the state and the stages still to come.
-- Assumes nothing.
use mathlib.Core.Path.{◌≡◌, refl}
use Prim.Native.Nat.{◌+◌, ◌<◌, ◌≤◌}
use native.Mathlib.Omega.{arith}
use lib.ListN.{get_or}
use Rattle.model.specs.Model.{Words, horizon, stage, togo, action_line}
use Rattle.questions.specs.Stages.{of_stage}
use Rattle.accepted.specs.Facts.{accepted}
use Rattle.index.proofs.Lines.{line_start}
use Rattle.lines.specs.Lines.{word_of, WordOf}
use Rattle.lines.proofs.Places.{room, last_word}
use Rattle.lines.proofs.line_of.Goals as goal
use Rattle.lines.proofs.line_of.Goals.{Start}

low : (s : goal.Start) → s.args.p < 64
low s = omega (arith, s.requires.1, (accepted s.args.b.now s.requires.0.checked.ok).sizes.s_high)

pub offset_bounds-x-p : goal.offset_bounds-x-p
offset_bounds-x-p c = omega (arith, low c)

pub bounds-x-p : goal.bounds-x-p
bounds-x-p c = omega (arith, low (goal.at.bounds-x-p c).Start)

pub overflow_add-p : goal.overflow_add-p
overflow_add-p c = omega (arith, low (goal.at.overflow_add-p c).Start)

pub offset_bounds-x-p-2 : goal.offset_bounds-x-p-2
offset_bounds-x-p-2 c = omega (arith, low (goal.at.offset_bounds-x-p-2 c).Start)

pub bounds-x-p-2 : goal.bounds-x-p-2
bounds-x-p-2 c = omega (arith, low (goal.at.bounds-x-p-2 c).Start)

-- the state is of the last stage
module _ (c : goal.Then-x-p-eq0) where
  abbrev s : goal.Then-x-p-eq0
  s = c

  abbrev ws : Words
  ws = s.args.b.now

  last : stage ws s.args.p ≡ horizon ws
  unfolding togo
  last = omega (arith, c.if-x-p-eq0.true, s.requires.0.index.to_go_lem s.args.p s.requires.1, (of_stage ws s.args.p s.requires.1).within)

  line_is : get_or s.args.x.now s.args.p 0 + s.args.c ≡ action_line ws s.args.p s.args.c
  line_is =
      omega (arith, s.requires.0.index.line s.args.p s.requires.1, line_start ws s.args.p, last_word s.requires.0.checked s.args.p s.requires.1 last s.args.c (omega arith))

  small : action_line ws s.args.p s.args.c ≤ 4172
  small =
      let w : WordOf ws s.args.p s.args.c (word_of ws s.args.p s.args.c) = record { state = s.requires.1; has = s.requires.2; is = refl } in
      omega (arith, room s.requires.0.checked w)

pub overflow_add-result : goal.overflow_add-result
overflow_add-result c = omega (arith, line_is c, small c)

pub returns-then-x-p-eq0 : goal.returns-then-x-p-eq0
returns-then-x-p-eq0 c = line_is c
