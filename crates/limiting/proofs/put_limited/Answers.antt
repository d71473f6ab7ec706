-- The refusal, or the line of the answer.
-- Assumes nothing.
use mathlib.Core.Path.{◌≡◌, sym, ap}
use Rattle.std.specs.Prelude.{Ok}
use Rattle.std.proofs.Common.{rules}
use Rattle.model.specs.Page.{decimal, kept_line}
use Rattle.text.specs.Text.{joined}
use Rattle.text.proofs.Steps.{spoken}
use Rattle.limit.specs.declared.Kept.TheVariants.{Rank, NoneListed, NoneInBook}
use Rattle.limiting.specs.Line.{limited_line}
use Rattle.limiting.proofs.put_limited.Goals as goal

pub returns-in-Ok-NoneListed : goal.returns-in-Ok-NoneListed
unfolding kept_line
returns-in-Ok-NoneListed c =
    let e : c.args.limited ≡ Ok NoneListed = search rules in
    spoken (ap limited_line (sym e)) c.put_text.ensures

pub returns-in-Ok-NoneInBook : goal.returns-in-Ok-NoneInBook
unfolding kept_line
returns-in-Ok-NoneInBook c =
    let e : c.args.limited ≡ Ok NoneInBook = search rules in
    spoken (ap limited_line (sym e)) c.put_text-in-Ok-NoneInBook.ensures

pub returns-in-Ok-Rank : goal.returns-in-Ok-Rank
unfolding kept_line
returns-in-Ok-Rank c =
    let e : c.args.limited ≡ Ok (Rank c.in-Ok-Rank.j) = search rules in
    let n = spoken (ap decimal c.from.ensures) c.put_number-end.ensures.0 in
    spoken (ap limited_line (sym e)) (joined (joined c.put_text-at.ensures n) c.put_byte.ensures)
