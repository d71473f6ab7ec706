-- What a granted call of a rider says, as bounds, and how the answer of a call follows from its number.
-- Assumes nothing.
use mathlib.Core.Path.{◌≡◌}
use Prim.Native.Nat.{ℕ, ◌<◌, ◌≤◌}
use Rattle.model.specs.Questions.{first_no}
use Rattle.record.specs.Passed.{listed_most}
use Rattle.refusal.specs.Refusal.{some_number}
use Rattle.reservation.specs.declared.Desk.{Desk}
use Rattle.reservation.specs.Reservations.{riders, ask_questions, commit_questions}
use Rattle.reservation.specs.Numbers.{refused, granted, ask_says, commit_says, cancel_says}

module _ (d : Desk) (rider : ℕ) where
  pub ask_rider : (rank : ℕ) → first_no (ask_questions d rank) rider ≡ 0 → rider < riders
  ask_rider rank e = (ask_says d rider rank e).is

  pub ask_rank : (rank : ℕ) → first_no (ask_questions d rank) rider ≡ 0 → rank ≤ d.k
  ask_rank rank e = (ask_says d rider rank e).last

  pub commit_rider : first_no (commit_questions d) rider ≡ 0 → rider < riders
  commit_rider e = (commit_says d rider e).0

pub ruleset calls = (some_number, refused, granted, ask_rider, ask_rank, commit_rider, cancel_says, listed_most)
