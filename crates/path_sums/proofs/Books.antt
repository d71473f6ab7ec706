-- The most over the sample paths of a policy of an accepted book (document 01: over the days of a plan): no path has more, one has as much, and one pass
-- over the states from the last to the first gives it. So no path costs more than H + 1 times the largest cost, without signs.
-- Assumes nothing.
use Rattle.std.specs.Prelude.{◌≡◌, ◌↔◌, ℕ, ◌+◌, ◌*◌, ◌^◌, ◌≤◌, T, nat_abs}
use Rattle.std.proofs.Math.Path.{sym, ap}
use Rattle.std.proofs.Common.{◌∙◌, mul-le-mul_left, mul_assoc, arith}
use Rattle.std.proofs.Math.Nat.{le_trans}
use Rattle.model.specs.Model.{Words, scale, horizon, togo, action}
use Rattle.model.specs.Questions.{largest_cost, book_number}
use Rattle.model.specs.Policy.{Policy, is_policy}
use Rattle.model.specs.Path.{Path, path_cost, path_sum, byte_at, of_taken, taken, paths}
use Rattle.laws.specs.Members.{In}
use Rattle.accepted.specs.Facts.{accepted}
use Rattle.accepted.specs.Shape.{shape, togo_start, cost_bound}
use Rattle.accepted.specs.Demands.{policy_takes, most-fits}
use Rattle.path_sums.specs.Most.{most_next, most_to_go}
use Rattle.path_sums.proofs.Most.{most_within, to_go_bound, by_stage, path_has, most-paths, cost-most}
use Rattle.path_sums.specs.Books.{most_over, most_from}

-- it is at most k exactly if no path has more
pub over_within : (ws : Words) (number : ℕ → ℕ → ℕ) (bs : Policy) (k : ℕ)
    → (most_over ws number bs ≤ k) ↔ ((x : Path) → In x (paths ws bs) → path_sum (of_taken number bs) x ≤ k)
unfolding most_over
over_within ws number bs k = most_within (of_taken number bs) k (paths ws bs)

module _ (ws : Words) (ok : book_number ws ≡ 0) (number : ℕ → ℕ → ℕ) (bs : Policy) where
  -- one path has as much
  pub over-has : (x : Path) × In x (paths ws bs) × (path_sum (of_taken number bs) x ≡ most_over ws number bs)
  unfolding most_over paths
  over-has =
      let h = path_has (of_taken number bs) (taken ws bs) (scale ws) (accepted ws ok).sizes.d_low (horizon ws) 0 in
      (h.0, h.1, h.2 ∙ sym (most-paths (of_taken number bs) (taken ws bs) (scale ws) (accepted ws ok).sizes.d_low (horizon ws) 0))

  -- it is the figure of state 0
  pub over_from : most_over ws number bs ≡ most_from ws number bs 0
  unfolding most_over most_from paths
  over_from =
      most-paths (of_taken number bs) (taken ws bs) (scale ws) (accepted ws ok).sizes.d_low (horizon ws) 0
      ∙ ap (λ (m : ℕ). most_to_go (of_taken number bs) (taken ws bs) m 0) (sym (togo_start ws ok))

  -- that of each state, by those of the next states of the action taken: the states' figures come from the last state to the first
  pub from_nexts : (p : ℕ) → most_from ws number bs p ≡ of_taken number bs p + most_next (most_from ws number bs) (taken ws bs p).transitions
  unfolding most_from taken
  from_nexts p = by_stage (of_taken number bs) (taken ws bs) (togo ws) p ((shape ws ok).step p (byte_at bs p))

  -- with at most B for each action, at most B for each of the H + 1 stages
  pub over_bound : (B : ℕ) → ((p : ℕ) → of_taken number bs p ≤ B) → most_over ws number bs ≤ (horizon ws + 1) * B
  unfolding most_over paths
  over_bound B h =
      rw (most-paths (of_taken number bs) (taken ws bs) (scale ws) (accepted ws ok).sizes.d_low (horizon ws) 0)
      (to_go_bound (of_taken number bs) (taken ws bs) B h (horizon ws) 0)

-- ---- the cost of a path

module _ (ws : Words) (ok : book_number ws ≡ 0) (bs : Policy) (t : T (is_policy ws bs)) where
  -- an action's cost without its sign
  abbrev size : ℕ → ℕ → ℕ
  size p c = nat_abs (action ws p c).cost

  -- "its cost is the sum of the H + 1 choices' costs": at most H + 1 times the largest, without signs
  pub path_cost_lem : (x : Path) → In x (paths ws bs) → nat_abs (path_cost x) ≤ (horizon ws + 1) * largest_cost ws
  unfolding paths taken
  path_cost_lem x i =
      le_trans (cost-most (scale ws) (taken ws bs) (horizon ws) 0 x i)
      ((over_within ws size bs ((horizon ws + 1) * largest_cost ws)).0
      (over_bound ws ok size bs (largest_cost ws) (λ p. cost_bound ws ok p (byte_at bs p) (policy_takes ws ok bs t p))) x i)

  -- "Is D^H × (H + 1) × (largest cost without its sign) at most 4 × 10^18?": so no path's cost times D^H is more
  pub path_cost-fits : (x : Path) → In x (paths ws bs) → scale ws ^ horizon ws * nat_abs (path_cost x) ≤ 4000000000000000000
  path_cost-fits x i =
      le_trans (mul-le-mul_left (scale ws ^ horizon ws) (path_cost_lem x i))
      (rw (← mul_assoc (scale ws ^ horizon ws) (horizon ws + 1) (largest_cost ws)) (most-fits ws ok (horizon ws) (omega arith)))
