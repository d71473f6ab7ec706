-- The list stands at the fronts of the arrays, as by the book alone.
-- Assumes nothing.
use mathlib.Core.Path.{refl}
use Rattle.listing.proofs.Listed.{listed, room}
use Rattle.listing.proofs.fill_by.Goals as goal

pub list_by-requires : goal.list_by-requires
list_by-requires c =
    let h = c.requires in
    (h.1, h.0.low, h.0.high, room _ _ h.0 h.2 h.3)

pub returns : goal.returns
returns c =
    let l = c in
    listed _ _ l.requires.0 _ refl l.list_by.ensures
