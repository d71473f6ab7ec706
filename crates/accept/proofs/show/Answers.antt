-- The figures of accepting are 0 where the record is refused, and then nothing is shown.
-- Assumes nothing.
use mathlib.Core.Path.{◌∙◌}
use Rattle.place.specs.Place.{browsed-shown}
use Rattle.accept.proofs.Figures.{figures}
use Rattle.accept.proofs.show.Goals as goal

pub returns : goal.returns
returns c =
    let a = c.accept.ensures in
    let f = figures _ c.args.r.now a.number a.states a.count c.unwrap_or_default-a.ensures in
    c.part.ensures ∙ browsed-shown _ _ f.0 f.1
