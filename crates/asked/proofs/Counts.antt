-- A count that is too low or too high: question 14 is the first that is answered no.
-- Assumes nothing.
use mathlib.Core.Path.{◌≡◌, ◌∙◌}
use Prim.Native.Nat.{ℕ, ◌<◌}
use borrow.Author.Tests.{lt-leb}
use Rattle.model.specs.Model.{Words}
use Rattle.model.specs.Questions.{book_number}
use Rattle.questions.specs.Ranges.{and_right}
use Rattle.questions.specs.FirstNo.{fails, then_yes}
use Rattle.asked.specs.Asked.{counted_number}

pub too_low : (ws : Words) (k : ℕ) → book_number ws ≡ 0 → k < 1 → counted_number ws k ≡ 14
unfolding counted_number
too_low ws k ok low = then_yes (book_number ws) _ ok ∙ fails _ _ _ (rw (lt-leb 1 k low))

pub too_high : (ws : Words) (k : ℕ) → book_number ws ≡ 0 → 64 < k → counted_number ws k ≡ 14
unfolding counted_number
too_high ws k ok high = then_yes (book_number ws) _ ok ∙ fails _ _ _ (rw (lt-leb k 64 high, and_right))
