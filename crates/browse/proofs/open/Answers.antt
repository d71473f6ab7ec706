-- The figures of accepting are kept.
-- Assumes nothing.
use mathlib.Core.Path.{refl}
use Rattle.accept.proofs.Figures.{figures}
use Rattle.browse.proofs.open.Goals as goal

pub returns : goal.returns
returns c =
    let a = c.accept.ensures in
    let f = figures _ c.args.r.now a.number a.states a.count c.unwrap_or_default-a.ensures in
    (refl, f.0, f.1)
