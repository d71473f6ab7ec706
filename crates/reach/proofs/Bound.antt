-- How large the weights of the pass can be.
-- Assumes nothing.
use mathlib.Core.Path.{◌≡◌}
use Prim.Native.Nat.{ℕ, ◌≤◌, ◌<◌}
use native.Mathlib.Nat.{mul-le-mul_left, one-le-pow}
use native.Mathlib.Decide.{dec_lt}
use native.Mathlib.Omega.{arith}
use Rattle.model.specs.Model.{Words, scale, state_count, togo, action}
use Rattle.model.specs.Questions.{book_number}
use Rattle.model.specs.Policy.{Policy}
use Rattle.model.specs.Path.{byte_at}
use Rattle.accepted.specs.Facts.{accepted}
use Rattle.accepted.specs.Shape.{shape, weights_bound, togo_start}
use Rattle.power.proofs.Range.{power_high}
use Rattle.splits.specs.Reach.{weights_before, weights_settled, reach_bound}

-- the weights by a policy before the pass comes to state p
abbrev pub weights : Words → Policy → ℕ → ℕ → ℕ
weights ws bs = weights_before (λ q. action ws q (byte_at bs q))

module _ (ws : Words) (ok : book_number ws ≡ 0) (bs : Policy) where
  -- those of the states up to p are settled
  pub settled : (p s : ℕ) → s ≤ p → weights ws bs p s ≡ weights ws bs s s
  settled = weights_settled (λ q. action ws q (byte_at bs q)) (λ q. (shape ws ok).later q (byte_at bs q))

  -- those of the others are at most D^H, and so at most 100^8
  later_small : (p s : ℕ) → p ≤ s → s < state_count ws → weights ws bs p s ≤ 10000000000000000
  later_small p s a b =
      let z = (accepted ws ok).sizes in
      omega (
        arith,
        mul-le-mul_left (weights ws bs p s) (one-le-pow (togo ws s) (scale ws) z.d_low),
        reach_bound (scale ws) (togo ws) (state_count ws) (λ q. action ws q (byte_at bs q)) (λ q. (shape ws ok).step q (byte_at bs q))
            (λ q. (shape ws ok).later q (byte_at bs q)) (λ q. (shape ws ok).inside q (byte_at bs q)) (λ q. weights_bound ws ok q (byte_at bs q)) p s a b,
        power_high (scale ws) (togo ws 0) z.d_high (omega (arith, togo_start ws ok, z.h_high)),
      )

  -- all of them
  pub weights_small : (p s : ℕ) → s < state_count ws → weights ws bs p s ≤ 10000000000000000
  weights_small p s l = go (dec_lt s p)
    where
      go : Dec (s < p) → weights ws bs p s ≤ 10000000000000000
      go (yes h) = rw (settled p s (omega arith)) (later_small s s (omega arith) l)
      go (no h) = later_small p s (omega arith) l
