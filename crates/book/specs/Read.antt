-- What the reading functions ask and give.
-- Assumes nothing.
use Rattle.std.specs.Prelude.{◌≡◌, ℕ, ◌+◌, ◌≤◌, ◌<◌, ℤ, nat_abs, length}
use Rattle.model.specs.Model.{Words, scale, horizon, line_count, first_state, state_count}
use Rattle.book.specs.declared.Sizes.{Sizes}
use Rattle.book.specs.declared.Stage.{Stage}

-- r is the word without its sign
pub record SizeIs (z : ℤ) (r : ℕ) : Type 0 where
  pub is : r ≡ nat_abs z
  pub small : r ≤ 2147483648

-- what the questions 1 to 5 leave: the sizes and the state counts are there
pub record Headed (ws : Words) : Type 0 where
  pub h_high : horizon ws ≤ 8
  pub long : 4 + horizon ws ≤ length ws

pub record SizesAre (ws : Words) (z : Sizes) : Type 0 where
  pub d_is : z.d ≡ scale ws
  pub h_is : z.h ≡ horizon ws
  pub l_is : z.l ≡ line_count ws
  pub s_is : z.s ≡ state_count ws
  pub columns_is : z.columns ≡ 4 + horizon ws + state_count ws

-- t is the stage of state p, or p is the first state after it
pub record StageNear (ws : Words) (p : ℕ) (t : Stage) : Type 0 where
  pub last : t.n ≤ horizon ws
  pub end_is : t.end ≡ first_state ws (t.n + 1)
  pub from : first_state ws t.n ≤ p
  pub to : p ≤ t.end

-- t is the stage of state p
pub record StageFor (ws : Words) (p : ℕ) (t : Stage) : Type 0 where
  pub last : t.n ≤ horizon ws
  pub end_is : t.end ≡ first_state ws (t.n + 1)
  pub from : first_state ws t.n ≤ p
  pub to : p < t.end
