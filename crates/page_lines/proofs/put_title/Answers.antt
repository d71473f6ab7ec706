-- The six texts of the title, one after another.
-- Assumes nothing.
use native.Mathlib.Omega.{arith}
use Rattle.text.specs.Text.{joined}
use Rattle.page_lines.proofs.put_title.Goals as goal

pub returns : goal.returns
returns c =
    let k = joined (joined c.put_number-a.ensures.0 c.put_text-b.ensures) c.put_number-c.ensures.0 in
    (joined (joined (joined k c.put_text-d.ensures) c.put_number-e.ensures.0) c.put_byte.ensures, omega arith)
