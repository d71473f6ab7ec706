-- The walk has come to action d; if it has passed action c, it has kept where that begins.
-- Assumes nothing.
use mathlib.Core.Path.{◌≡◌}
use Prim.Native.Nat.{◌<◌}
use Rattle.lines.specs.Lines.{word_of}
use Rattle.lines.proofs.find_walking.Given as goal

abbrev pub invariant-loop-d : goal.invariant-loop-d
invariant-loop-d l = (l.k ≡ word_of l.b l.p l.d) × (l.c < l.d → l.at ≡ word_of l.b l.p l.c)
