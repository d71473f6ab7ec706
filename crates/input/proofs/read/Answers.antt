-- The first 16,696 bytes count.
-- Assumes nothing.
use mathlib.Core.Path.{◌≡◌, ap, ◌∙◌}
use Prim.Native.Nat.{ℕ}
use native.Mathlib.Omega.{arith}
use lib.ListN.{take}
use Rattle.std.proofs.lemmas.List.{take_min}
use Rattle.model.specs.Page.{most_input}
use Rattle.input.proofs.Whole.{front}
use Rattle.input.proofs.read.Goals as goal

pub returns : goal.returns
returns c =
    let r = c.args.r.now in
    let e : take c.min.result r ≡ take most_input r = ap (λ (n : ℕ). take n r) (omega arith) ∙ take_min most_input r in
    front r (rw e at c.read_counted.ensures)
