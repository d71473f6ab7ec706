-- The digits are spelt in an array and copied.
-- Assumes nothing.
use Prim.Native.Nat.{◌≤◌}
use native.Mathlib.Omega.{arith}
use Rattle.text.proofs.Digits.{few}
use Rattle.text.proofs.Steps.{number}
use Rattle.text.proofs.put_number.Goals as goal

pub returns : goal.returns
returns c =
    let n = c.decimal-n in
    let t = c.put_text.ensures in
    let s : n.result ≤ 20 = few c.args.x n.result (omega arith) n.ensures.len in
    (number c.args.x n.result _ s n.ensures.len n.ensures.digits t, omega (arith, t.end, s))
