-- The input ends before the plan does, or after it.
-- Assumes nothing.
use mathlib.Core.Path.{◌≡◌, refl, ap, ◌∙◌}
use mathlib.Core.Bool.{Bool, true, false, cond}
use Prim.Native.Nat.{ℕ, ◌+◌, ◌<◌}
use native.Mathlib.Omega.{arith}
use lib.Dec.{leb}
use lib.ListN.{length, get_or}
use Rattle.std.specs.Prelude.{Option, Some, None}
use Rattle.std.specs.Bool.{then_some}
use Rattle.std.proofs.lemmas.Grind.{common_steps}
use Rattle.input.specs.Ahead.{end_ahead, cut_short}
use Rattle.finding.proofs.plan_end.Goals as goal

pub returns-in_err-first : goal.returns-in_err-first
returns-in_err-first c =
    let l : length c.args.input.now < 1 + get_or c.args.input.now 0 0 = grind (arith, common_steps) in
    c.from_residual.ensures ∙ cut_short _ _ l

then_is : (b : Bool) (n : ℕ) → then_some b n ≡ cond b (Some n) None
then_is true n = refl
then_is false n = refl

pub returns : goal.returns
unfolding end_ahead
returns c =
    let e : c.from-end.result + 1 ≡ 1 + get_or c.args.input.now 0 0 = grind (arith, common_steps) in
    c.then_some.ensures ∙ then_is _ _ ∙ ap (λ (n : ℕ). cond (leb n (length c.args.input.now)) (Some n) None) e
