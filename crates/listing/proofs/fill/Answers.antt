-- The list stands at the fronts of the arrays.
-- Assumes nothing.
use mathlib.Core.Path.{refl}
use Rattle.listing.proofs.Listed.{listed, room}
use Rattle.listing.proofs.fill.Goals as goal

pub list-requires : goal.list-requires
list-requires c =
    let h = c.requires in
    (h.0.ok, h.0.low, h.0.high, room _ _ h.0 h.1 h.2)

pub returns : goal.returns
returns c =
    let l = c in
    listed _ _ l.requires.0 _ refl l.list.ensures
