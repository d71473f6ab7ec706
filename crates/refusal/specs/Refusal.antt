-- The number that documents 01 and 02 give a question, and the number of a call: "The first "no" gives its number; 0 means accepted."
-- Assumes nothing.
use Rattle.std.specs.Prelude.{◌≡◌, ℕ, Result, Ok, Err}
use Rattle.std.proofs.Common.{arith}
use Rattle.refusal.specs.declared.Refusal.{Refusal}
use Rattle.refusal.specs.declared.Refusal.TheVariants.{TooShort, Scale, Horizon, LineCount, NoStages, StageSizes, Length, ActionCounts, Lines, Cost, NextStates, Weights, CostBound, Count, CostRoom, PlanRoom, Plan, RecordRoom, RecordHead, RecordLength, RecordList, Rider, Rank, Taken, TableSizes, TableLines, BookRoom, NoPlan, Marks, ManyPlans}

abbrev pub number_of : Refusal → ℕ
number_of TooShort = 1
number_of Scale = 2
number_of Horizon = 3
number_of LineCount = 4
number_of NoStages = 5
number_of StageSizes = 6
number_of Length = 7
number_of ActionCounts = 8
number_of Lines = 9
number_of Cost = 10
number_of NextStates = 11
number_of Weights = 12
number_of CostBound = 13
number_of Count = 14
number_of CostRoom = 15
number_of PlanRoom = 16
number_of Plan = 17
number_of RecordRoom = 18
number_of RecordHead = 19
number_of RecordLength = 20
number_of RecordList = 21
number_of Rider = 22
number_of Rank = 23
number_of Taken = 24
number_of TableSizes = 25
number_of TableLines = 26
number_of BookRoom = 27
number_of NoPlan = 28
number_of Marks = 29
number_of ManyPlans = 30

-- no question has the number 0
pub some_number : (q : Refusal) → number_of q ≡ 0 → ⊥
some_number TooShort e = absurd (omega (arith, e))
some_number Scale e = absurd (omega (arith, e))
some_number Horizon e = absurd (omega (arith, e))
some_number LineCount e = absurd (omega (arith, e))
some_number NoStages e = absurd (omega (arith, e))
some_number StageSizes e = absurd (omega (arith, e))
some_number Length e = absurd (omega (arith, e))
some_number ActionCounts e = absurd (omega (arith, e))
some_number Lines e = absurd (omega (arith, e))
some_number Cost e = absurd (omega (arith, e))
some_number NextStates e = absurd (omega (arith, e))
some_number Weights e = absurd (omega (arith, e))
some_number CostBound e = absurd (omega (arith, e))
some_number Count e = absurd (omega (arith, e))
some_number CostRoom e = absurd (omega (arith, e))
some_number PlanRoom e = absurd (omega (arith, e))
some_number Plan e = absurd (omega (arith, e))
some_number RecordRoom e = absurd (omega (arith, e))
some_number RecordHead e = absurd (omega (arith, e))
some_number RecordLength e = absurd (omega (arith, e))
some_number RecordList e = absurd (omega (arith, e))
some_number Rider e = absurd (omega (arith, e))
some_number Rank e = absurd (omega (arith, e))
some_number Taken e = absurd (omega (arith, e))
some_number TableSizes e = absurd (omega (arith, e))
some_number TableLines e = absurd (omega (arith, e))
some_number BookRoom e = absurd (omega (arith, e))
some_number NoPlan e = absurd (omega (arith, e))
some_number Marks e = absurd (omega (arith, e))
some_number ManyPlans e = absurd (omega (arith, e))

module _ {A : Type 0} where
  abbrev pub number_in : Result A Refusal → ℕ
  number_in (Ok x) = 0
  number_in (Err q) = number_of q
