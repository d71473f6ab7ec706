-- Four parts, one after another.
-- Assumes nothing.
use Rattle.record.proofs.Parts.{head_written}
use Rattle.record.proofs.put_head.Goals as goal

pub returns : goal.returns
returns c =
    let d = c in
    let f = d in
    let g = f in
    let h = g in
    let s = h in
    head_written s.args.out.now h.write4.new.out g.write4-2.new.out f.write4-3.new.out d.write_words.new.out s.args.b.now
    s.args.k s.args.n s.requires.0 h.write4.ensures g.write4-2.ensures f.write4-3.ensures d.write_words.ensures
