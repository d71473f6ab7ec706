-- The words read are those of the left column.
-- Assumes nothing.
use mathlib.Core.Path.{◌≡◌, refl, sym, ◌∙◌}
use mathlib.Core.Bool.{Bool, true, false, cond}
use Prim.Native.Nat.{◌+◌, ◌-◌}
use native.Mathlib.Omega.{arith}
use lib.Dec.{eqb}
use lib.IntN.{pos}
use mir.Syntax.{w32}
use mir.Val.{to_z, of_z}
use Rattle.model.specs.Model.{word}
use Rattle.model.specs.Questions.{inside, most_branches}
use Rattle.actions.proofs.Steps.{unbranched, fit_is}
use Rattle.actions.proofs.action_fits.Goals as goal
use Rattle.actions.proofs.action_fits.Goals.{After-word_in, Start}

-- its line
line : (c : goal.Start) → c.args.at ≡ c.args.z.columns + (c.args.at - c.args.z.columns)
line c = omega (arith, c.requires.2.from)

-- what the most transitions read back as
read_most : (b : Bool) → to_z w32 (of_z w32 (cond b (pos 0) (pos most_branches))) ≡ cond b (pos 0) (pos most_branches)
read_most true = refl
read_most false = refl

-- r, tested
tested : (c : goal.After-word_in) →
    let s = c.args in
    c.word_in.result ≡ inside (pos 0) (cond (eqb s.n s.z.h) (pos 0) (pos most_branches)) (word s.b.now s.at)
tested c =
    let s = c.args in
    rw (c.most_branches-most.ensures, read_most (eqb s.n s.z.h)) at c.word_in.ensures

pub word_in-requires : goal.word_in-requires
word_in-requires c = omega (arith, c.requires.2.to)

pub returns-then-not-word_in : goal.returns-then-not-word_in
returns-then-not-word_in c =
    let s = (goal.at.returns-then-not-word_in c).Start in
    unbranched s.args.b.now s.args.z s.requires.1 s.args.n _ s.args.at (line s) (sym (tested (goal.at.returns-then-not-word_in c).After-word_in) ∙ c.if-not-word_in.true)

pub returns : goal.returns
returns c =
    let w = c in
    let s = (goal.at.returns w).Start in
    fit_is s.args.b.now s.args.z s.requires.1 s.args.n _ s.args.at (line s) (sym (tested (goal.at.returns w).After-word_in) ∙ w.if-not-word_in.false) c.size_at.result
    c.size_at.ensures.is
