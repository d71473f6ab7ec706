-- What the pass over a policy's states holds.
-- Assumes nothing.
use Rattle.std.specs.Prelude.{◌≡◌, List, ℕ, ◌≤◌, ◌<◌, length, get_or}
use Rattle.model.specs.Model.{Words, state_count}
use Rattle.model.specs.Policy.{Policy}
use Rattle.model.specs.Limit.{first_mark, mark_of}
use Rattle.laws.specs.Members.{In}
use Rattle.path_sums.specs.Books.{most_from}

-- the number of state q, of those that an array holds
abbrev pub number_at : List ℕ → ℕ → ℕ
number_at v q = get_or v q 0

-- "one byte per choice, 1 or 0": one mark for each action of the model
pub record MarksOf (ws : Words) (marks : List ℕ) : Type 0 where
  pub one_each : length marks ≡ first_mark ws (state_count ws)
  pub values : (b : ℕ) → In b marks → b ≤ 1

-- v has the most marked actions from each state on, of the states from p on, and 0 for those before
pub record MostTo (ws : Words) (marks : List ℕ) (bs : Policy) (p : ℕ) (v : List ℕ) : Type 0 where
  pub long : length v ≡ 64
  pub done : (q : ℕ) → p ≤ q → q < state_count ws → number_at v q ≡ most_from ws (mark_of ws marks) bs q
  pub left : (q : ℕ) → q < p → number_at v q ≡ 0
