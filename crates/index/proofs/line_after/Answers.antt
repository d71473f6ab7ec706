-- The word read is r of the line.
-- Assumes nothing.
use mathlib.Core.Path.{◌≡◌, ap, ◌∙◌}
use Prim.Native.Nat.{◌+◌}
use native.Mathlib.Omega.{arith}
use Rattle.model.specs.Model.{Words, branches}
use Rattle.book.proofs.Columns.{branches_are}
use Rattle.index.proofs.Lines.{Inside, lines_inside, line_next}
use Rattle.index.proofs.Signs.{line_up}
use Rattle.index.proofs.line_after.Goals as goal
use Rattle.index.proofs.line_after.Goals.{Start}

module _ (s : goal.Start) where
  abbrev ws : Words
  ws = s.args.b.now

  inside : Inside ws s.args.z s.args.j
  inside = lines_inside ws s.args.z s.args.p s.args.c s.args.j s.requires.0 s.requires.1

pub overflow_add-result : goal.overflow_add-result
overflow_add-result c = omega (arith, inside c)

pub overflow_add-z : goal.overflow_add-z
overflow_add-z c = omega (arith, inside (goal.at.overflow_add-z c).Start)

pub plain_at-requires : goal.plain_at-requires
plain_at-requires c =
    let s = (goal.at.plain_at-requires c).Start in
    (omega (arith, inside s), line_up (ws s) s.args.z s.args.p s.args.c s.args.j s.requires.0 s.requires.1)

r_is : (c : goal.After-plain_at) → c.plain_at.result ≡ branches (ws (goal.at.overflow_add-result-2 c).Start) c.args.j
r_is c =
    let s = (goal.at.overflow_add-result-2 c).Start in
    branches_are (ws s) s.args.z s.requires.0.sizes s.args.j c.plain_at.result c.plain_at.ensures.is

pub overflow_add-result-2 : goal.overflow_add-result-2
overflow_add-result-2 c = omega (arith, inside (goal.at.overflow_add-result-2 c).Start, r_is c)

pub returns : goal.returns
returns c =
    let s = (goal.at.returns c).Start in
    ap (λ n. s.args.j + 1 + n) (r_is c) ∙ line_next (ws s) s.args.p s.args.c s.args.j s.requires.1.line_is
