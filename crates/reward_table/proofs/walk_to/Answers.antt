-- Assumes nothing.
use mathlib.Core.Path.{◌≡◌, refl, sym}
use native.Mathlib.Omega.{arith}
use Rattle.questions.specs.Ranges.{all_fails}
use Rattle.reward_table.specs.Read.{state_given, states_given}
use Rattle.reward_table.specs.Says.{line_zero}
use Rattle.reward_table.proofs.walk_to.Goals as goal

pub loop-s-init : goal.loop-s-init
loop-s-init c = (sym (line_zero c.args.t.now), omega arith, refl)

pub returns-in_err-at : goal.returns-in_err-at
unfolding states_given
returns-in_err-at c =
    rw c.from_residual.ensures (record {
      ok_is = sym (all_fails c.args.end (state_given c.args.t.now) c.loop-s.s (omega arith) (sym (c.in_err-at.ensures).ok_is));
      at-is = tt;
      small = tt;
    })

pub returns : goal.returns
unfolding states_given
returns c =
    let e : c.loop-s.s ≡ c.args.end = omega arith in
    record { ok_is = sym (rw e at c.loop-s.invariant.2); at-is = rw e at c.loop-s.invariant.0; small = c.loop-s.invariant.1 }
