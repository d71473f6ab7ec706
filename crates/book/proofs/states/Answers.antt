-- Assumes nothing.
use mathlib.Core.Path.{◌≡◌, sym, ap, ◌∙◌}
use Prim.Native.Nat.{◌+◌}
use native.Mathlib.Omega.{arith}
use Rattle.model.specs.Model.{stage_size, first_state, state_count}
use Rattle.questions.specs.Stages.{first_step, first-zero}
use borrow.Author.Rules.{rules}
use Rattle.book.proofs.states.Goals as goal

pub loop-n-init : goal.loop-n-init
loop-n-init c = (sym (first-zero _), search rules)

pub overflow_add-s : goal.overflow_add-s
overflow_add-s c = omega (arith, c.size_at-s.ensures.small)

pub loop-n-preserved : goal.loop-n-preserved
unfolding stage_size
loop-n-preserved c = (
  rw (first_step c.args.b.now c.loop-n.n, c.loop-n.invariant.0, c.size_at-s.ensures.is),
  omega (arith, c.size_at-s.ensures.small),
)

pub returns : goal.returns
unfolding state_count
returns c =
    let e : c.loop-n.n ≡ c.args.h + 1 = omega arith in (
      c.loop-n.invariant.0 ∙ ap (first_state c.args.b.now) (e ∙ ap (λ n. n + 1) c.requires.0),
      omega (arith, c.loop-n.invariant.1),
    )
