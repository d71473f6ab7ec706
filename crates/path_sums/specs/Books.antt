-- The most over the sample paths of a policy of an accepted book (document 01: over the days of a plan): no path has more, one has as much, and one pass
-- over the states from the last to the first gives it. So no path costs more than H + 1 times the largest cost, without signs.
-- Assumes nothing.
use Rattle.std.specs.Prelude.{ℕ}
use Rattle.model.specs.Model.{Words, togo}
use Rattle.model.specs.Policy.{Policy}
use Rattle.model.specs.Path.{of_taken, taken, paths}
use Rattle.path_sums.specs.Most.{most_of, most_to_go}

-- the most over the paths of a policy of the sum of the numbers of the actions taken
unfoldable pub most_over : Words → (ℕ → ℕ → ℕ) → Policy → ℕ
most_over ws number bs = most_of (of_taken number bs) (paths ws bs)

-- the same from state p on
unfoldable pub most_from : Words → (ℕ → ℕ → ℕ) → Policy → ℕ → ℕ
most_from ws number bs p = most_to_go (of_taken number bs) (taken ws bs) (togo ws p) p
