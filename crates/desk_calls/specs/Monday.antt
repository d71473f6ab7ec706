-- A Monday at a desk of three plans: one table of calls with the numbers they get, and one proof, by computation, that the definitions yield them.
-- Assumes nothing.
use Rattle.std.specs.Prelude.{◌≡◌, refl, List, [], ◌∷◌, map, ℕ, set, replicate}
use Rattle.model.specs.Questions.{first_no}
use Rattle.model.specs.Record.{accept_number}
use Rattle.reservation.specs.declared.Desk.{Desk}
use Rattle.reservation.specs.Reservations.{riders, free, open_for, asking, committing, cancelling, opening}
use Rattle.desk_calls.specs.Calls.{Call, asks, commits, cancels, opens, answer_to, after}

pub record Row : Type 0 where
  pub call : Call
  pub due : ℕ

abbrev row : Call → ℕ → Row
row c n = record { call = c; due = n }

abbrev pub monday : List Row
monday =
    -- two dispatchers give the same plan, and the second is refused
    row (asks 0 1) 0 ∷ row (asks 1 1) 24 ∷ row (asks 1 2) 0
    -- the rank that a rider holds may be asked for again; another drops it, and it is free
    ∷ row (asks 0 1) 0 ∷ row (asks 0 3) 0 ∷ row (asks 1 1) 0
    -- a commitment ends the hold, and is for good: the rank is taken, and the rider neither commits again nor asks
    ∷ row (commits 0) 0 ∷ row (commits 0) 24 ∷ row (asks 0 2) 24 ∷ row (asks 1 3) 24 ∷ row (cancels 0) 0 ∷ row (asks 1 3) 24
    -- 22 comes before 23, and 23 before 24
    ∷ row (asks 16 4) 22 ∷ row (asks 0 4) 23 ∷ row (asks 0 0) 23 ∷ row (commits 16) 22 ∷ row (cancels 16) 22
    -- a hold is cancelled; where there is none, nothing changes
    ∷ row (cancels 1) 0 ∷ row (cancels 1) 0 ∷ row (commits 1) 24
    -- an opening that is refused leaves the desk
    ∷ row (opens []) 19 ∷ row (asks 15 1) 0
    ∷ []

abbrev calls : List Call
calls = map (λ (r : Row). r.call) monday

-- the numbers of a sequence of calls
abbrev pub numbers : Desk → List Call → List ℕ
numbers d [] = []
numbers d (c ∷ cs) = (answer_to d c).no ∷ numbers (answer_to d c).desk cs

pub yields : numbers (open_for 3) calls ≡ map (λ (r : Row). r.due) monday
unfolding first_no free accept_number asking committing cancelling opening
yields = refl

-- in the evening rider 15 holds rank 1, and rank 3 is rider 0's
pub evening : after (open_for 3) calls ≡ record { k = 3; held = set (replicate riders 0) 15 1; committed = set (replicate riders 0) 0 3 }
unfolding first_no free accept_number asking committing cancelling opening
evening = refl
