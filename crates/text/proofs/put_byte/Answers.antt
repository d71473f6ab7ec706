-- One byte is stored.
-- Assumes nothing.
use mathlib.Core.Path.{refl}
use native.Mathlib.Omega.{arith}
use Rattle.bytes_io.proofs.Parts.{set-written}
use Rattle.text.proofs.put_byte.Goals as goal

pub returns : goal.returns
returns c = record { end = refl; room = omega arith; text = set-written c.args.out.now c.args.at c.args.x (omega arith) }
