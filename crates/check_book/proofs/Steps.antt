-- The lower of two numbers, where 0 is none.
-- Assumes nothing.
use mathlib.Core.Path.{◌≡◌, refl}
use mathlib.Core.Bool.{Bool, true, false, ◌&&◌}
use Rattle.actions.specs.Action.{code}
use Rattle.check_book.specs.Walk.{lowest}

pub code_both : (a b c d x y z w : Bool) → lowest (code true a b c d) (code true x y z w) ≡ code true (a && x) (b && y) (c && z) (d && w)
code_both true true true true x y z w = refl
code_both true true true false true true true true = refl
code_both true true true false true true true false = refl
code_both true true true false true true false w = refl
code_both true true true false true false z w = refl
code_both true true true false false y z w = refl
code_both true true false d true true true true = refl
code_both true true false d true true true false = refl
code_both true true false d true true false w = refl
code_both true true false d true false z w = refl
code_both true true false d false y z w = refl
code_both true false c d true true true true = refl
code_both true false c d true true true false = refl
code_both true false c d true true false w = refl
code_both true false c d true false z w = refl
code_both true false c d false y z w = refl
code_both false b c d true true true true = refl
code_both false b c d true true true false = refl
code_both false b c d true true false w = refl
code_both false b c d true false z w = refl
code_both false b c d false y z w = refl
