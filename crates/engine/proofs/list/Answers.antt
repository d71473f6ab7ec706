-- The index is made, and the list by it.
-- Assumes nothing.
use Rattle.index.proofs.Lines.{headed}
use Rattle.engine.proofs.list.Goals as goal

pub read_sizes-z-requires : goal.read_sizes-z-requires
read_sizes-z-requires c = headed _ c.requires.0
