-- The sign, then the number without it.
-- Assumes nothing.
use mathlib.Core.Path.{◌≡◌, sym, ◌∙◌, ap}
use mathlib.Core.Bool.{true}
use mathlib.Core.List.{[], ◌∷◌, ◌++◌}
use Prim.Native.Nat.{ℕ}
use native.Mathlib.Omega.{arith}
use lib.IntN.{pos, nat_abs}
use lib.Signed.{lt_z}
use mir.Facts.{to_z-of_z}
use Rattle.model.specs.Page.{decimal}
use Rattle.text.specs.Text.{joined}
use Rattle.text.proofs.Steps.{below-zero, spoken}
use Rattle.text.proofs.put_signed.Goals as goal

pub returns-then-x-lt0 : goal.returns-then-x-lt0
returns-then-x-lt0 c =
    let x = c.args.x in
    let below : lt_z x (pos 0) ≡ true = rw (to_z-of_z c.ranges.x) at c.if-x-lt0.true in
    let m : c.unsigned_abs.result ≡ nat_abs x = rw (to_z-of_z c.ranges.x) at c.unsigned_abs.ensures.value in
    (spoken (ap (λ (n : ℕ). (45 ∷ []) ++ decimal n) m ∙ sym (below-zero x below)) (joined c.put_byte-next.ensures c.put_number.ensures.0), omega arith)
