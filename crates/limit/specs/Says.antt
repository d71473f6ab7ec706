-- What an answer of the call says, and which answer says that no listed policy keeps the limit.
-- Assumes nothing.
use Rattle.std.specs.Prelude.{ℕ, cond, ltb}
use Rattle.model.specs.Limit.{Kept as Answer, kept_at, none_listed, none_in_book}
use Rattle.limit.specs.declared.Kept.{Kept}
use Rattle.limit.specs.declared.Kept.TheVariants.{Rank, NoneListed, NoneInBook}

abbrev pub says : Kept → Answer
says (Rank j) = kept_at j
says NoneListed = none_listed
says NoneInBook = none_in_book

-- by how many are listed of how many asked for
abbrev pub none_of : ℕ → ℕ → Answer
none_of n k = cond (ltb n k) none_in_book none_listed
