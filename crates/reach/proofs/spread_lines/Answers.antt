-- Assumes nothing.
use mathlib.Core.Path.{◌≡◌}
use mathlib.Core.List.{List, ◌∷◌}
use Prim.Native.Nat.{◌+◌, ◌*◌, ◌≤◌}
use native.Mathlib.Omega.{arith}
use lib.ListN.{drop, get_or}
use Rattle.model.specs.Model.{Transition, action}
use Rattle.lines.proofs.Steps.{one_done, all_done}
use Rattle.reach.proofs.Spreading.{sum_small, one_spread, all-spread}
use Rattle.reach.proofs.spread_lines.Goals as goal
use Rattle.reach.proofs.spread_lines.Goals.{After-weight-weight}

-- transition i
module _ (c : goal.After-weight-weight) where
  abbrev ts : List Transition
  ts = (action c.args.b.now c.args.p c.args.c).transitions

  front : drop c.loop-i.i ts ≡ record { next = c.next-q.result; weight = c.weight-weight.result } ∷ drop (c.loop-i.i + 1) ts
  front = one_done c.requires.0 c.loop-i.i c.loop-i-test.true _ _ c.next-q.ensures.is c.weight-weight.ensures.is

  small : get_or c.loop-i.w c.next-q.result 0 + c.args.y * c.weight-weight.result ≤ 10000000000000000
  small = sum_small c.loop-i.invariant c.next-q.ensures.low front

pub overflow_mul-w : goal.overflow_mul-w
overflow_mul-w c = omega (arith, small (goal.at.overflow_mul-w c).After-weight-weight)

pub overflow_add-w : goal.overflow_add-w
overflow_add-w c = omega (arith, small (goal.at.overflow_add-w c).After-weight-weight)

pub loop-i-preserved : goal.loop-i-preserved
loop-i-preserved c = one_spread c.loop-i.invariant c.next-q.ensures.low (front (goal.at.loop-i-preserved c).After-weight-weight)

pub returns : goal.returns
returns c = all-spread c.loop-i.invariant (all_done c.requires.0 c.loop-i.i c.loop-i-test.false)
