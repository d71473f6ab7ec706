-- The word read is the count's.
-- Assumes nothing.
use native.Mathlib.Omega.{arith}
use Rattle.accepted.specs.Facts.{accepted}
use Rattle.book.proofs.Columns.{count_is}
use Rattle.index.proofs.count.Goals as goal

pub size_at-requires : goal.size_at-requires
size_at-requires c = let s = (accepted c.args.b.now c.requires.0.ok).sizes in omega arith

pub returns : goal.returns
returns c =
    let s = c in
    count_is s.args.b.now s.args.z.h s.args.p c.size_at.result s.requires.0.sizes.h_is c.size_at.ensures.is
