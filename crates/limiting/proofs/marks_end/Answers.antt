-- The input ends before the marks do, or after them.
-- Assumes nothing.
use mathlib.Core.Path.{◌≡◌, refl, ap, ◌∙◌}
use mathlib.Core.Bool.{Bool, true, false, cond}
use mathlib.Core.List.{List}
use Prim.Native.Nat.{ℕ, ◌+◌, ◌*◌, ◌≤◌, ◌<◌}
use native.Mathlib.Omega.{arith}
use lib.Dec.{leb}
use lib.ListN.{length, get_or}
use Rattle.std.specs.Prelude.{Option, Some, None}
use Rattle.std.specs.Bool.{then_some}
use Rattle.std.proofs.lemmas.Grind.{common_steps}
use Rattle.model.specs.Page.{mark_count}
use Rattle.bytes_io.proofs.Parts.{part_step}
use Rattle.input.specs.Ahead.{end_ahead, cut_short}
use Rattle.limiting.proofs.marks_end.Goals as goal

two_bytes : (input : List ℕ) → 3 ≤ length input → mark_count input ≡ get_or input 1 0 + 256 * get_or input 2 0
unfolding mark_count
two_bytes input h =
    rw (
      part_step input 0 2 1 2 0 (omega arith) (omega arith) refl,
      part_step input 1 2 2 3 0 (omega arith) (omega arith) refl,
    )
    (omega arith)

pub returns-in_default : goal.returns-in_default
returns-in_default c = cut_short _ _ (omega arith)

then_is : (b : Bool) (n : ℕ) → then_some b n ≡ cond b (Some n) None
then_is true n = refl
then_is false n = refl

pub returns : goal.returns
unfolding end_ahead
returns c =
    let e : c.from.result + 256 * c.from-2.result + 3 ≡ 3 + mark_count c.args.input.now = omega (arith, two_bytes c.args.input.now (omega arith)) in
    c.then_some.ensures ∙ then_is _ _ ∙ ap (λ (n : ℕ). cond (leb n (length c.args.input.now)) (Some n) None) e
