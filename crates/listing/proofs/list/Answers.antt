-- The list is that of the arrays.
-- Assumes nothing.
use Rattle.index.proofs.Lines.{headed}
use Rattle.listing.proofs.Listed.{by_states}
use Rattle.listing.proofs.list.Goals as goal

pub read_sizes-z-requires : goal.read_sizes-z-requires
read_sizes-z-requires c = headed _ c.requires.ok

pub returns : goal.returns
returns c =
    let f = c in
    by_states f.read_sizes-z.ensures.s_is f.fill.ensures
