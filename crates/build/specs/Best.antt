-- The first and the second best action of each state, and the table that they are read from.
-- Assumes nothing.
use Rattle.std.specs.Prelude.{◌≡◌, List, ℕ, ◌+◌, ◌<◌, ℤ, length, get_or}
use Rattle.model.specs.Model.{Words, scale, state_count, togo, action}
use Rattle.model.specs.Recursion.{best_of, through, feasible}
use Rattle.accepted.specs.Options.{Feasible}
use Rattle.sets.specs.Sets.{with, free}
use Rattle.feasible.specs.Barred.{Leaves}
use Rattle.table.specs.Table.{row_of}

-- the first best action of state p; 255 where no policy goes on from it
abbrev pub best_at : Words → ℕ → ℕ
best_at ws p = best_of (through (scale ws) (action ws) (feasible ws) (togo ws p) p) (feasible ws p)

-- and the first best of its others
abbrev pub second_at : Words → ℕ → ℕ
second_at ws p = best_of (through (scale ws) (action ws) (feasible ws) (togo ws p) p) (free (with 0 (best_at ws p)) (feasible ws p))

-- q has the costs of the feasible actions of every state
pub record RowsOf (ws : Words) (q : List ℤ) : Type 0 where
  pub rows : length q ≡ 512
  pub through_is : (p c : ℕ) → p < state_count ws → Feasible ws p c
      → row_of q p c ≡ through (scale ws) (action ws) (feasible ws) (togo ws p) p c

-- xs has the first best actions of the states below n and, 128 places further on, the sets of those that no policy can take
pub record BestTo (ws : Words) (n : ℕ) (xs : List ℕ) : Type 0 where
  pub long : length xs ≡ 192
  pub best_is : (p : ℕ) → p < n → get_or xs p 0 ≡ best_at ws p
  pub barred : (p : ℕ) → p < n → Leaves ws p (get_or xs (128 + p) 0)

-- and, 64 places further on, their second best actions
abbrev pub SecondTo : Words → ℕ → List ℕ → Type 0
SecondTo ws n xs = (p : ℕ) → p < n → get_or xs (64 + p) 0 ≡ second_at ws p

abbrev pub BestOf : Words → List ℕ → Type 0
BestOf ws xs = BestTo ws (state_count ws) xs

abbrev pub SecondOf : Words → List ℕ → Type 0
SecondOf ws xs = SecondTo ws (state_count ws) xs
