-- Sequences of calls at a desk, granted and refused, openings among them.
-- Assumes nothing.
use Rattle.std.specs.Prelude.{◌≡◌, Bool, true, false, List, [], ◌∷◌, ℕ, T, eqb}
use Rattle.model.specs.Calls.{accept_count}
use Rattle.reservation.specs.declared.Desk.{Desk}
use Rattle.reservation.specs.declared.Answer.{Answer}
use Rattle.reservation.specs.Reservations.{open_for, holding, taking, asking, committing, cancelling, opening}

-- a call, with the rider's number and the rank or with the bytes of the record
pub data Call : Type 0 where
  asks : ℕ → ℕ → Call
  commits : ℕ → Call
  cancels : ℕ → Call
  opens : List ℕ → Call

abbrev pub answer_to : Desk → Call → Answer
answer_to d (asks rider rank) = asking d rider rank
answer_to d (commits rider) = committing d rider
answer_to d (cancels rider) = cancelling d rider
answer_to d (opens bytes) = opening d bytes

-- the desk after a sequence of calls
abbrev pub after : Desk → List Call → Desk
after d [] = d
after d (c ∷ cs) = after (answer_to d c).desk cs

abbrev pub Granted : Desk → Call → Type 0
Granted d c = (answer_to d c).no ≡ 0

-- no call of a kind is granted in the course of a sequence
abbrev pub NoneGranted : (Call → Bool) → Desk → List Call → Type 0
NoneGranted kind d [] = Unit {0}
NoneGranted kind d (c ∷ cs) = (T (kind c) → Granted d c → ⊥) × NoneGranted kind (answer_to d c).desk cs

-- "opened anew"
abbrev pub is_opening : Call → Bool
is_opening (asks rider rank) = false
is_opening (commits rider) = false
is_opening (cancels rider) = false
is_opening (opens bytes) = true

-- "cancelled, committed or been granted another", or opened anew
abbrev pub ends_hold : ℕ → Call → Bool
ends_hold i (asks rider rank) = eqb rider i
ends_hold i (commits rider) = eqb rider i
ends_hold i (cancels rider) = eqb rider i
ends_hold i (opens bytes) = true

-- the desk that a granted call leaves
abbrev pub next : Desk → Call → Desk
next d (asks rider rank) = holding d rider rank
next d (commits rider) = taking d rider
next d (cancels rider) = holding d rider 0
next d (opens bytes) = open_for (accept_count bytes)
