-- What an answer of the call says.
-- Assumes nothing.
use Rattle.model.specs.Standing.{Answer, is_rank, costs_more, takes_higher}
use Rattle.find.specs.declared.Standing.{Standing}
use Rattle.find.specs.declared.Standing.TheVariants.{Rank, CostsMore, TakesHigher}

abbrev pub says : Standing → Answer
says (Rank j) = is_rank j
says (CostsMore z) = costs_more z
says (TakesHigher p) = takes_higher p
