-- At the last stage the actions are one line each; before it they are walked.
-- Assumes nothing.
use mathlib.Core.Path.{◌≡◌, ap, ◌∙◌}
use Prim.Native.Nat.{◌+◌, ◌≤◌}
use native.Mathlib.Omega.{arith}
use Rattle.model.specs.Model.{horizon, stage, action_count}
use Rattle.accepted.specs.Facts.{accepted}
use Rattle.book.proofs.Stages.{for_stage}
use Rattle.lines.specs.Lines.{WordOf}
use Rattle.lines.proofs.Places.{state_after, room, last_word}
use Rattle.lines.proofs.find.Goals as goal
use Rattle.lines.proofs.find.Goals.{Start}

module _ (s : goal.Start) where
  -- action 0 is there
  first : WordOf s.args.b.now s.args.p 0 s.args.from
  first =
      record { state = s.requires.2; has = omega (arith, (accepted s.args.b.now s.requires.0.ok).counts_low s.args.p s.requires.2); is = s.requires.3 }

  small : s.args.from ≤ 4172
  small = omega (arith, room s.requires.0 first)

pub overflow_add-result : goal.overflow_add-result
overflow_add-result c = omega (arith, small (goal.at.overflow_add-result c).Start, c.requires.4)

pub overflow_add-result-then-t-z : goal.overflow_add-result-then-t-z
overflow_add-result-then-t-z c =
    let s = (goal.at.overflow_add-result-then-t-z c).Start in
    omega (arith, small s, c.count.ensures, (accepted s.args.b.now s.requires.0.ok).counts_high s.args.p s.requires.2)

pub returns-then-t-z : goal.returns-then-t-z
returns-then-t-z c =
    let s = c in
    let ws = s.args.b.now in
    let p = s.args.p in
    let last : stage ws p ≡ horizon ws = for_stage ws p s.args.t s.requires.1 ∙ c.if-t-z.true ∙ s.requires.0.sizes.h_is in
    record {
      at-is = λ h. ap (λ k. k + s.args.c) s.requires.3 ∙ last_word s.requires.0 p s.requires.2 last s.args.c (omega arith);
      after_is =
          omega (arith, s.requires.3, c.count.ensures, last_word s.requires.0 p s.requires.2 last (action_count ws p) (omega arith), state_after ws p);
    }
