-- Assumes nothing.
use mathlib.Core.Path.{sym, ◌∙◌}
use Rattle.index.proofs.Lines.{line_start}
use Rattle.index.proofs.action_line.Goals as goal

pub loop-d-init : goal.loop-d-init
loop-d-init c = c.requires.2 ∙ sym (line_start c.args.b.now c.args.p)
