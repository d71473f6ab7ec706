-- A cost that moves by a weight times the difference of two others.
-- Assumes nothing.
use Rattle.std.specs.Prelude.{ℕ, ◌*◌, ◌≤◌, ℤ, pos, nat_abs, ◌+ℤ◌, ◌-ℤ◌, ◌*ℤ◌}

-- no step of the move leaves 64 bits
pub record Movable (cost : ℤ) (w : ℕ) (new old : ℤ) : Type 0 where
  pub weight : w ≤ 10000000000000000
  pub new_size : nat_abs new ≤ 4000000000000000000
  pub old-size : nat_abs old ≤ 4000000000000000000
  pub new_part : w * nat_abs new ≤ 4000000000000000000
  pub old-part : w * nat_abs old ≤ 4000000000000000000
  pub result : nat_abs (cost +ℤ pos w *ℤ (new -ℤ old)) ≤ 4000000000000000000
