-- The word, the number and the line feed.
-- Assumes nothing.
use mathlib.Core.Path.{◌≡◌}
use Rattle.text.specs.Text.{joined}
use Rattle.page_lines.proofs.put_refused.Goals as goal

pub returns : goal.returns
returns c =
    let e : c.from.result ≡ c.args.no = cc in
    joined (joined c.put_text-a.ensures (rw e at c.put_number-b.ensures.0)) c.put_byte.ensures
