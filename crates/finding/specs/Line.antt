-- The line of what was found, as the code makes it.
-- Assumes nothing.
use Rattle.std.specs.Prelude.{ℕ, List, Result, Ok, Err}
use Rattle.model.specs.Page.{refused_line, answer_line}
use Rattle.refusal.specs.declared.Refusal.{Refusal}
use Rattle.refusal.specs.Refusal.{number_of}
use Rattle.find.specs.declared.Standing.{Standing}
use Rattle.find.specs.Says.{says}

abbrev pub found_line : Result Standing Refusal → List ℕ
found_line (Ok a) = answer_line (says a)
found_line (Err q) = refused_line (number_of q)
