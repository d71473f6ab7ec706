-- A book has a policy exactly if one goes on from state 0.
-- Assumes nothing.
use mathlib.Core.Path.{sym, ap, ◌∙◌}
use mathlib.Core.Bool.{not}
use native.Mathlib.Omega.{arith}
use Rattle.accepted.specs.Shape.{shape, has_is}
use Rattle.index.proofs.Lines.{headed}
use Rattle.feasible.proofs.has_policy.Goals as goal

pub read_sizes-z-requires : goal.read_sizes-z-requires
read_sizes-z-requires c = headed _ c.requires

pub returns : goal.returns
returns c =
    let m = c in
    let s = m in
    let ws = s.args.b.now in
    ap not (c.has.ensures ∙ m.find_barred-m.ensures.dead_is 0 (omega arith) (shape ws s.requires).some_state) ∙ sym (has_is ws s.requires)
