-- A space, then the number.
-- Assumes nothing.
use mathlib.Core.Path.{◌≡◌, sym}
use mathlib.Core.List.{[], ◌∷◌, ◌++◌}
use native.Mathlib.Omega.{arith}
use borrow.Author.Tests.{ne_eqb}
use Rattle.model.specs.Page.{decimal, choice_text}
use Rattle.text.specs.Text.{joined}
use Rattle.text.proofs.Steps.{spoken}
use Rattle.text.proofs.put_choice.Goals as goal

pub returns : goal.returns
returns c =
    let x = c.args.x in
    let t : choice_text x ≡ (32 ∷ []) ++ decimal x = rw (ne_eqb x 255 c.if-x-eq255.false) in
    (spoken (sym t) (joined c.put_byte-next.ensures c.put_number.ensures.0), omega arith)
