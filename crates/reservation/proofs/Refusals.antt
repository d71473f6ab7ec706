-- When a call is refused and when it is granted, as the goals of the questions ask for it.
-- Assumes nothing.
use mathlib.Core.Path.{◌≡◌}
use Prim.Native.Nat.{ℕ, ◌<◌, ◌%◌}
use native.Mathlib.Omega.{arith}
use Rattle.model.specs.Questions.{first_no}
use Rattle.refusal.specs.Refusal.{some_number}
use Rattle.reservation.specs.declared.Desk.{Desk}
use Rattle.reservation.specs.Reservations.{ask_questions}
use Rattle.reservation.specs.Numbers.{no_rider, stops_at_rider, may_cancel, no_hold, may_commit, no_rank, beyond_list, not_free, has_committed, may_ask, ask_says, cancel_says}

pub ruleset refusals = (some_number, no_rider, stops_at_rider, may_cancel, no_hold, may_commit, no_rank, beyond_list, not_free, has_committed, may_ask, cancel_says)

-- a rank that is asked for and listed is a byte
pub same_byte : (d : Desk) (rider rank : ℕ) → d.k < 256 → first_no (ask_questions d rank) rider ≡ 0 → rank % 256 ≡ rank
same_byte d rider rank h e = omega (arith, (ask_says d rider rank e).last)
