-- The refusal, or the word, the value and the line feed.
-- Assumes nothing.
use mathlib.Core.Path.{sym, ap}
use mir.Syntax.{w64}
use mir.Val.{SFits}
use mir.Facts.{to_z-of_z}
use Rattle.std.proofs.Common.{rules}
use Rattle.model.specs.Page.{answer_word, answer_line}
use Rattle.text.specs.Text.{Appended, joined}
use Rattle.text.proofs.Steps.{spoken}
use Rattle.find.specs.Says.{says}
use Rattle.finding.specs.Line.{found_line}
use Rattle.finding.proofs.put_found.Goals as goal
use Rattle.finding.proofs.put_found.Goals.{Joined-a, in-Rank, in-CostsMore, in-TakesHigher}

-- the word is that of the answer
word : (c : Joined-a) → Appended c.args.out.now 0 (answer_word (says c.in-Ok.a)) c.match-a.out c.match-a.at
word c = elim c.match-a.branch [
  | in-Rank w ↦ rw (w.out-is, w.at-is, w.in-Rank.is) w.put_text-at.ensures
  | in-CostsMore w ↦ rw (w.out-is, w.at-is, w.in-CostsMore.is) w.put_text-at-in-CostsMore.ensures
  | in-TakesHigher w ↦ rw (w.out-is, w.at-is, w.in-TakesHigher.is) w.put_text-at-in-TakesHigher.ensures
]

pub returns-after-a : goal.returns-after-a
unfolding answer_line
returns-after-a c =
    let fit : SFits w64 c.value.result = search rules in
    let value = rw (to_z-of_z fit, c.value.ensures) at c.put_signed-end.ensures.0 in
    spoken (ap found_line (sym c.in-Ok.is)) (joined (joined (word (goal.at.returns-after-a c).Joined-a) value) c.put_byte.ensures)
