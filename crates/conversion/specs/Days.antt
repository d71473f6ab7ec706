-- The paths of a policy of a table's book are the days of the table under it, each with its reward negated. None stops: the weights of each choice
-- add to exactly D.
-- Assumes nothing.
use Rattle.std.specs.Prelude.{neg_ℤ}
use mathlib.Core.List.{map}
use Prim.Native.Nat.{ℕ}
use Rattle.model.specs.Path.{Step, Path}
use Rattle.reward_table.specs.Days.{TableStep, TableDay, place}

-- a day of the table, as a path of the book: "each reward is negated"
abbrev pub as_step : ℕ → TableStep → Step
as_step n s = record { state = place n s.stage s.state; cost = neg_ℤ s.reward; weight = s.weight }

abbrev pub as_path : ℕ → TableDay → Path
as_path n day = map (as_step n) day
