-- A word that is not from lo to hi is one of those asked.
-- Assumes nothing.
use mathlib.Core.Path.{sym, ◌∙◌}
use native.Mathlib.Omega.{arith}
use mir.Facts.{to_z-of_z}
use Rattle.questions.specs.Ranges.{all_fails}
use Rattle.book.proofs.words_in.Invariants.{between}
use Rattle.book.proofs.words_in.Goals as goal

pub returns-then-not-word_in : goal.returns-then-not-word_in
returns-then-not-word_in c =
    sym (all_fails c.args.n (between c.args.b.now c.args.at c.args.lo c.args.hi) c.loop-i.i (omega arith) (sym (simp (to_z-of_z c.ranges.lo, to_z-of_z c.ranges.hi) at c.word_in.ensures) ∙ c.if-not-word_in.true))
