-- The five texts of a line, one after another.
-- Assumes nothing.
use native.Mathlib.Omega.{arith}
use mir.Facts.{to_z-of_z}
use Rattle.model.specs.Page.{signed_decimal}
use Rattle.text.specs.Text.{Appended, joined}
use Rattle.text.proofs.put_line.Goals as goal

pub returns : goal.returns
returns c =
    let cost : Appended c.put_byte-b.new.out c.put_byte-b.result (signed_decimal c.args.cost) c.put_signed-c.new.out c.put_signed-c.result
    = rw (to_z-of_z c.ranges.cost) at c.put_signed-c.ensures.0 in
    (joined (joined (joined c.put_number-a.ensures.0 (joined c.put_byte-b.ensures cost)) c.put_choices-d.ensures.0) c.put_byte.ensures, omega arith)
