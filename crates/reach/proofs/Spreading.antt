-- Spreading a weight over the transitions of an action, one transition after another, in an array.
-- Assumes nothing.
use mathlib.Core.Path.{◌≡◌, refl, ap, ◌∙◌, fun_ext}
use mathlib.Core.List.{List, [], ◌∷◌}
use Prim.Native.Nat.{ℕ, zero, suc, ◌+◌, ◌*◌, ◌≤◌, ◌<◌}
use native.Mathlib.Decide.{ℕ_discrete}
use native.Mathlib.Omega.{arith}
use borrow.Author.Tests.{eq-eqb, ne_eqb}
use lib.ListN.{length, set, replicate, length-set}
use lib.Seq.{get_or-set_same, get_or-set_other}
use Rattle.model.specs.Model.{Transition}
use Rattle.laws.specs.Members.{AtNexts}
use Rattle.splits.specs.Reach.{add_to, spread}
use Rattle.reach.specs.Weights.{weight_at, first_weights, Holds}

-- ---- sums at single states

-- an array once x more is stored at q
add_set : (w : List ℕ) (q x : ℕ) → q < length w → weight_at (set w q (weight_at w q + x)) ≡ add_to q x (weight_at w)
unfolding add_to
add_set w q x l = fun_ext (λ s. go s (ℕ_discrete s q))
  where
    go : (s : ℕ) → Dec (s ≡ q) → weight_at (set w q (weight_at w q + x)) s ≡ add_to q x (weight_at w) s
    go s (yes e) = rw (eq-eqb s q e, e) (get_or-set_same w q (weight_at w q + x) 0 l)
    go s (no n) = rw (ne_eqb s q n) (get_or-set_other w q s (weight_at w q + x) 0 n ∙ omega arith)

-- an array of zeros, and 1 stored at state 0
no_weights : (n s : ℕ) → weight_at (replicate n 0) s ≡ 0
no_weights zero s = refl
no_weights (suc n) zero = refl
no_weights (suc n) (suc s) = no_weights n s

pub first_held : Holds (set (replicate 64 0) 0 1) first_weights
first_held = record { long = refl; at = λ s. ap (λ (W : ℕ → ℕ). W s) are }
  where
    are : weight_at (set (replicate 64 0) 0 1) ≡ first_weights
    are = add_set (replicate 64 0) 0 1 (omega arith) ∙ ap (add_to 0 1) (fun_ext (no_weights 64))

-- ---- sums at the next states

-- no weight falls
spread_grows : (x : ℕ) (ts : List Transition) (W : ℕ → ℕ) (s : ℕ) → W s ≤ spread x ts W s
unfolding spread add_to
spread_grows x [] W s = omega arith
spread_grows x (t ∷ ts) W s = omega (arith, spread_grows x ts (add_to t.next (x * t.weight) W) s)

-- x is still to be spread over the transitions `left`; T has the sums once it is
pub record ToSpread (x : ℕ) (T : ℕ → ℕ) (left : List Transition) (w : List ℕ) : Type 0 where
  pub long : length w ≡ 64
  pub low : AtNexts (λ q. T q ≤ 10000000000000000) left
  pub rest : spread x left (weight_at w) ≡ T

module _ {x : ℕ} {T : ℕ → ℕ} {left : List Transition} {w : List ℕ} (m : ToSpread x T left w) where
  module _ {q k : ℕ} {after : List Transition} (l : q < 64) (e : left ≡ record { next = q; weight = k } ∷ after) where
    -- the new sum at the next state of the first of them
    abbrev sum : ℕ
    sum = weight_at w q + x * k

    -- with it the others make the whole sums
    whole : spread x after (weight_at (set w q sum)) ≡ T
    unfolding spread
    whole = ap (spread x after) (add_set w q (x * k) (omega (arith, m.long))) ∙ (rw e at m.rest)

    -- the sum does not wrap
    pub sum_small : sum ≤ 10000000000000000
    sum_small =
        omega (
          arith,
          (rw e at m.low).0,
          ap (λ (W : ℕ → ℕ). W q) whole,
          spread_grows x after (weight_at (set w q sum)) q,
          get_or-set_same w q sum 0 (omega (arith, m.long)),
        )

    pub one_spread : ToSpread x T after (set w q sum)
    one_spread = record { long = length-set w q sum ∙ m.long; low = (rw e at m.low).1; rest = whole }

  pub all-spread : left ≡ [] → Holds w T
  unfolding spread
  all-spread e = record { long = m.long; at = λ s. ap (λ (W : ℕ → ℕ). W s) (rw e at m.rest) }
