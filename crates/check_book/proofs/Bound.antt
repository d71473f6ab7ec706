-- Question 13 by division, since the product of its factors can exceed 64 bits, and of each action by itself.
-- Assumes nothing.
use mathlib.Core.Path.{◌≡◌, sym, ap, ◌∙◌}
use mathlib.Core.Bool.{Bool, ◌&&◌}
use Prim.Native.Nat.{ℕ, zero, suc, ◌+◌, ◌*◌, ◌^◌, ◌/◌, ◌≤◌, max}
use native.Mathlib.Nat.{mul_comm, mul-le-mul, one-le-pow, le-div_iff_mul-le}
use native.Mathlib.Omega.{arith}
use native.Mathlib.Decide.{dec_le}
use borrow.Author.Tests.{le-leb, lt-leb}
use lib.Dec.{leb}
use Rattle.model.specs.Lists.{all, max_to}
use Rattle.model.specs.Model.{Words, scale, horizon, state_count, action_count, action_line, right}
use Rattle.model.specs.Questions.{every_action, open_size, largest_cost, costs_bounded}
use Rattle.questions.specs.Ranges.{all_same}
use Rattle.actions.specs.Action.{cost_up_to}
use Rattle.power.proofs.Range.{power_high}

module _ (d h : ℕ) (a : 1 ≤ d) (b : d ≤ 100) (c : h ≤ 8) where
  pub unit_high : d ^ h * (h + 1) ≤ 90000000000000000
  unit_high = mul-le-mul {n₁ = d ^ h} {m₁ = h + 1} {n₂ = 10000000000000000} {m₂ = 9} (power_high d h b c) (omega arith)

  pub unit_low : 1 ≤ d ^ h * (h + 1)
  unit_low = mul-le-mul {n₁ = 1} {m₁ = 1} {n₂ = d ^ h} {m₂ = h + 1} (one-le-pow h d a) (omega arith)

-- u × x is at most N exactly if x is at most N / u
pub by_division : (u x N : ℕ) → 1 ≤ u → leb x (N / u) ≡ leb (u * x) N
by_division u x N h = go (dec_le x (N / u))
  where
    go : Dec (x ≤ N / u) → leb x (N / u) ≡ leb (u * x) N
    go (yes k) = le-leb x (N / u) k ∙ sym (le-leb (u * x) N (omega (arith, (le-div_iff_mul-le {k = u} {x = x} {y = N} h).0 k, mul_comm u x)))
    go (no k) =
        lt-leb x (N / u) (omega arith)
        ∙ sym (lt-leb (u * x) N (omega (arith, over, mul_comm u x)))
      where
        over : (x * u ≤ N) → ⊥
        over l = k ((le-div_iff_mul-le {k = u} {x = x} {y = N} h).1 l)

-- ---- of each action by itself

max_both : (a b m : ℕ) → leb (max a b) m ≡ (leb a m && leb b m)
max_both a b m = go (dec_le a m) (dec_le b m)
  where
    go : Dec (a ≤ m) → Dec (b ≤ m) → leb (max a b) m ≡ (leb a m && leb b m)
    go (yes h) (yes k) = rw (le-leb a m h, le-leb b m k, le-leb (max a b) m (omega arith))
    go (yes h) (no k) = rw (le-leb a m h, lt-leb b m (omega arith), lt-leb (max a b) m (omega arith))
    go (no h) k = rw (lt-leb a m (omega arith), lt-leb (max a b) m (omega arith))

-- the largest is at most m exactly if each is
max-all : (n : ℕ) (f : ℕ → ℕ) (m : ℕ) → leb (max_to n f) m ≡ all n (λ (i : ℕ). leb (f i) m)
max-all zero f m = le-leb 0 m (omega arith)
max-all (suc n) f m = max_both (max_to n f) (f n) m ∙ ap (λ (b : Bool). b && leb (f n) m) (max-all n f m)

module _ (ws : Words) where
  abbrev size : ℕ → ℕ → ℕ
  size p c = open_size (right ws (action_line ws p c))

  each : (m : ℕ) → leb (largest_cost ws) m ≡ every_action (cost_up_to m) ws
  unfolding largest_cost every_action cost_up_to
  each m =
      max-all (state_count ws) (λ (p : ℕ). max_to (action_count ws p) (size p)) m
      ∙ all_same (state_count ws) _ _ (λ p h. max-all (action_count ws p) (size p) m)

  pub bounded_is : 1 ≤ scale ws → scale ws ≤ 100 → horizon ws ≤ 8
      → every_action (cost_up_to (4000000000000000000 / (scale ws ^ horizon ws * (horizon ws + 1)))) ws ≡ costs_bounded ws
  unfolding costs_bounded
  bounded_is a b c =
      sym (each (4000000000000000000 / (scale ws ^ horizon ws * (horizon ws + 1))))
      ∙ by_division (scale ws ^ horizon ws * (horizon ws + 1)) (largest_cost ws) 4000000000000000000 (unit_low (scale ws) (horizon ws) a b c)
