-- Request 2.4: the desk keeps reservations of the ranks of one record for sixteen riders. "Asking holds a rank, 1 to k, for a rider; committing makes
-- it theirs and ends the hold." Each call is defined for every desk: its number, and the desk afterwards.
-- Assumes nothing.
use Rattle.std.specs.Prelude.{ℕ, Bool, not, ◌&&◌, ◌||◌, List, [], ◌∷◌, eqb, leb, ltb, get_or, set, replicate}
use Rattle.model.specs.Lists.{all}
use Rattle.model.specs.Questions.{Question, first_no}
use Rattle.model.specs.Record.{accept_number}
use Rattle.model.specs.Calls.{if_accepted, accept_count}
use Rattle.reservation.specs.declared.Desk.{Desk}
use Rattle.reservation.specs.declared.Answer.{Answer}

-- "sixteen riders (0 to 15)"
abbrev pub riders : ℕ
riders = 16

-- the rank that a rider holds, and the one that they have committed to; 0 where there is none, and for a number that is no rider's
abbrev pub held_by : Desk → ℕ → ℕ
held_by d rider = get_or d.held rider 0

abbrev pub committed_by : Desk → ℕ → ℕ
committed_by d rider = get_or d.committed rider 0

-- the rank is with the rider: held or committed
abbrev pub has : Desk → ℕ → ℕ → Bool
has d rider rank = eqb (held_by d rider) rank || eqb (committed_by d rider) rank

-- the rank is not "with another rider": whoever has it is the rider
abbrev pub leaves : Desk → ℕ → ℕ → ℕ → Bool
leaves d rider rank other = not (has d other rank) || eqb other rider

unfoldable pub free : Desk → ℕ → ℕ → Bool
free d rider rank = all riders (leaves d rider rank)

-- ---- the questions, put to a rider

-- "22, rider not 0 to 15"
abbrev pub is_rider : Question ℕ
is_rider = record { number = 22; asks = λ rider. ltb rider riders }

-- "23, on asking, rank not listed"
abbrev pub is_listed : Desk → ℕ → Question ℕ
is_listed d rank = record { number = 23; asks = λ rider. leb 1 rank && leb rank d.k }

-- "24, on asking, rank with another rider or the asker already committed"
abbrev pub may_have : Desk → ℕ → Question ℕ
may_have d rank = record { number = 24; asks = λ rider. free d rider rank && eqb (committed_by d rider) 0 }

-- "24, [..] on committing, no hold"
abbrev pub holds : Desk → Question ℕ
holds d = record { number = 24; asks = λ rider. leb 1 (held_by d rider) }

-- "tested in that order"
abbrev pub ask_questions : Desk → ℕ → List (Question ℕ)
ask_questions d rank = is_rider ∷ is_listed d rank ∷ may_have d rank ∷ []

abbrev pub commit_questions : Desk → List (Question ℕ)
commit_questions d = is_rider ∷ holds d ∷ []

abbrev pub cancel_questions : List (Question ℕ)
cancel_questions = is_rider ∷ []

-- ---- desks

-- "The desk [..] opens with that record's k and nothing held or committed"
abbrev pub open_for : ℕ → Desk
open_for k = record { k = k; held = replicate riders 0; committed = replicate riders 0 }

-- the rider holds the rank, and no other that they held before; 0 drops the hold
abbrev pub holding : Desk → ℕ → ℕ → Desk
holding d rider rank = record { k = d.k; held = set d.held rider rank; committed = d.committed }

-- the rank that the rider held is theirs, and the hold has ended
abbrev pub taking : Desk → ℕ → Desk
taking d rider = record { k = d.k; held = set d.held rider 0; committed = set d.committed rider (held_by d rider) }

-- ---- the calls

-- what a call gives: its number, and the desk afterwards
abbrev pub reply : ℕ → Desk → Answer
reply n d = record { no = n; desk = d }

-- the next desk, or the same where the call is refused
abbrev pub answer : ℕ → Desk → Desk → Answer
answer n next d = reply n (if_accepted n next d)

-- "A granted ask drops the rider's earlier hold; a refused one changes nothing."
unfoldable pub asking : Desk → ℕ → ℕ → Answer
asking d rider rank = answer (first_no (ask_questions d rank) rider) (holding d rider rank) d

-- "committing makes it theirs and ends the hold"
unfoldable pub committing : Desk → ℕ → Answer
committing d rider = answer (first_no (commit_questions d) rider) (taking d rider) d

-- "Cancelling drops a hold, if any, and never a commitment"
unfoldable pub cancelling : Desk → ℕ → Answer
cancelling d rider = answer (first_no cancel_questions rider) (holding d rider 0) d

-- "opening asks the record's questions, and a refused opening changes nothing"
unfoldable pub opening : Desk → List ℕ → Answer
opening d bytes = answer (accept_number bytes) (open_for (accept_count bytes)) d
