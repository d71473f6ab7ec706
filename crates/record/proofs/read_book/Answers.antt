-- The words that are read are those of the definition, and stand at the front.
-- Assumes nothing.
use native.Mathlib.Omega.{arith}
use Rattle.record.specs.Passed.{head_says}
use Rattle.record.proofs.Parts.{book_read}
use Rattle.record.proofs.read_book.Goals as goal

pub carried_length-w-requires : goal.carried_length-w-requires
carried_length-w-requires c = omega (arith, head_says c.args.r.now c.requires.0)

pub read_words-requires : goal.read_words-requires
read_words-requires c = omega (arith, head_says c.args.r.now c.requires.0)

pub returns : goal.returns
returns c =
    let s = c in
    let w = c.carried_length-w in
    let d = c.read_words.ensures in
    (book_read s.args.r.now w.result s.args.out.now _ w.ensures.0 d.0, d.1)
