-- A waiting candidate, as it is stored.
-- Assumes nothing.
use Rattle.std.specs.Prelude.{Bool, not, ◌&&◌, ◌||◌, List, ℕ, ℤ}
use Rattle.std.specs.Int.Signed.{lt_z}
use Rattle.model.specs.Order.{lower}

pub record Entry : Type 0 where
  pub cost : ℤ
  pub plan : List ℕ
  pub split : ℕ
  pub mask : ℕ

abbrev pub earlier_entry : Entry → Entry → Bool
earlier_entry e d = lt_z e.cost d.cost || (not (lt_z d.cost e.cost) && lower e.plan d.plan)
