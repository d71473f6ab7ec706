-- What request 2.5 promises of a conversion, in its reader's words. Each law quotes the sentence that it renders.
-- Assumes nothing.
use Rattle.std.specs.Prelude.{List, [], ◌∷◌, ℕ, ◌+◌}
use Rattle.reward_table.specs.Days.{TableDay, day_weight}

-- the weights of days, added
abbrev pub days_weight : List TableDay → ℕ
days_weight [] = 0
days_weight (d ∷ ds) = day_weight d + days_weight ds
