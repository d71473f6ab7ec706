-- Where p is the first state after stage n, it is of stage n + 1, which has a state.
-- Assumes nothing.
use mathlib.Core.Path.{◌≡◌, sym, ◌∙◌}
use Prim.Native.Nat.{ℕ, ◌+◌, ◌≤◌, ◌<◌}
use native.Mathlib.Omega.{arith}
use native.Mathlib.Decide.{dec_lt}
use lib.IntN.{nat_abs}
use Rattle.model.specs.Model.{Words, word, horizon, stage_size, first_state, state_count}
use Rattle.questions.specs.Stages.{first_step, first_mono}
use Rattle.book.proofs.stage_for.Goals as goal

-- a stage with a state of the model after it is not the last
not_last : (ws : Words) (n : ℕ) → n ≤ horizon ws → first_state ws (n + 1) < state_count ws → n + 1 ≤ horizon ws
unfolding state_count
not_last ws n h l = go (dec_lt n (horizon ws))
  where
    go : Dec (n < horizon ws) → n + 1 ≤ horizon ws
    go (yes k) = omega arith
    go (no k) = absurd (omega (arith, first_mono ws (horizon ws + 1) (n + 1) (omega arith)))

next-size : (ws : Words) (n : ℕ) → nat_abs (word ws (4 + n)) ≡ stage_size ws (n + 1)
unfolding stage_size
next-size ws n = let e : 4 + n ≡ 3 + (n + 1) = omega arith in rw e

pub returns-then-p-end : goal.returns-then-p-end
returns-then-p-end c =
    let s = c in
    let ws = s.args.b.now in
    let n = s.args.t.n in
    let near = s.requires.2 in
    let here : first_state ws (n + 1) ≡ s.args.p = sym near.end_is ∙ sym c.if-p-end.true in
    let last : n + 1 ≤ horizon ws = not_last ws n near.last (omega (arith, here)) in
    let size : c.size_at.result ≡ stage_size ws (n + 1) = c.size_at.ensures.is ∙ next-size ws n in
    let step : first_state ws (n + 1 + 1) ≡ first_state ws (n + 1) + stage_size ws (n + 1) = first_step ws (n + 1) in
    record {
      last = last;
      end_is = omega (arith, size, step, near.end_is);
      from = omega (arith, here);
      to = omega (arith, size, s.requires.0.some (n + 1) last, c.if-p-end.true);
    }
