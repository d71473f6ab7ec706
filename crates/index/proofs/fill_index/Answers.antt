-- Assumes nothing.
use mathlib.Core.Path.{refl, sym, ap, ◌∙◌}
use Prim.Native.Nat.{◌+◌, ◌-◌}
use native.Mathlib.Omega.{arith}
use Rattle.model.specs.Model.{horizon, first_state, togo, state_line, action_line}
use Rattle.accepted.specs.Facts.{accepted}
use Rattle.book.proofs.Stages.{start_near, for_stage, next_near}
use Rattle.index.proofs.Lines.{state_next}
use Rattle.index.proofs.Fill.{index_more}
use Rattle.index.proofs.fill_index.Goals as goal

pub loop-p-init : goal.loop-p-init
unfolding state_line
loop-p-init s =
    let a = (accepted s.args.b.now s.requires.0.ok).sizes in (
      a.s_high,
      record {
        long = s.requires.1;
        line = λ p h. absurd (omega arith);
        base = λ p h. absurd (omega arith);
        to_go_lem = λ p h. absurd (omega arith);
      },
      start_near s.args.b.now a,
      refl,
    )

pub stage_for-t-requires : goal.stage_for-t-requires
stage_for-t-requires c =
    ((accepted c.args.b.now c.requires.0.ok).sizes, c.requires.0.sizes, c.loop-p.invariant.2, omega arith)

pub loop-p-preserved : goal.loop-p-preserved
unfolding togo
loop-p-preserved c =
    let ws = c.args.b.now in
    let p = c.loop-p.p in
    let for = c.stage_for-t in
    let is = for_stage ws p for.result for.ensures in (
      c.loop-p.invariant.0,
      index_more c.loop-p.x p c.loop-p.at for.result.end (c.args.z.h - for.result.n) c.loop-p.invariant.1.long (omega arith) ws
          c.loop-p.invariant.1 c.loop-p.invariant.3 (for.ensures.end_is ∙ ap (λ k. first_state ws (k + 1)) (sym is))
          (ap (λ k. k - for.result.n) c.requires.0.sizes.h_is ∙ ap (λ k. horizon ws - k) (sym is)),
      next_near ws p for.result for.ensures,
      c.action_line-at.ensures ∙ ap (action_line ws p) c.count-n.ensures ∙ sym (state_next ws p),
    )
