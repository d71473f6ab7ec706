-- Every word passed so far is from lo to hi.
-- Assumes nothing.
use mathlib.Core.Path.{◌≡◌}
use mathlib.Core.Bool.{Bool, true}
use Prim.Native.Nat.{ℕ, ◌+◌}
use lib.IntN.{ℤ}
use Rattle.model.specs.Lists.{all}
use Rattle.model.specs.Model.{Words, word}
use Rattle.model.specs.Questions.{inside}
use Rattle.book.proofs.words_in.Given as goal

abbrev pub between : Words → ℕ → ℤ → ℤ → ℕ → Bool
between b at lo hi i = inside lo hi (word b (at + i))

abbrev pub invariant-loop-i : goal.invariant-loop-i
invariant-loop-i l = all l.i (between l.b l.at l.lo l.hi) ≡ true
