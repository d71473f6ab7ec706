-- The line of an answer, as the code makes it.
-- Assumes nothing.
use Rattle.std.specs.Prelude.{ℕ, List, Result, Ok, Err}
use Rattle.model.specs.Page.{refused_line, kept_line}
use Rattle.refusal.specs.declared.Refusal.{Refusal}
use Rattle.refusal.specs.Refusal.{number_of}
use Rattle.limit.specs.declared.Kept.{Kept}
use Rattle.limit.specs.Says.{says}

abbrev pub limited_line : Result Kept Refusal → List ℕ
limited_line (Ok a) = kept_line (says a)
limited_line (Err q) = refused_line (number_of q)
