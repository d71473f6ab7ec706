-- The head, then the costs, then the policies.
-- Assumes nothing.
use native.Mathlib.Omega.{arith}
use Rattle.record.specs.Lengths.{book-length}
use Rattle.record.proofs.Parts.{record_long, record_written}
use Rattle.record.proofs.put_record.Goals as goal

pub put_head-requires : goal.put_head-requires
put_head-requires c =
    let s = c.args in
    omega (arith, record_long s.b.now s.k s.list.now c.requires.1 c.requires.0.ok, c.requires.1.held.few, book-length s.b.now c.requires.0.ok)

pub write_costs-requires : goal.write_costs-requires
write_costs-requires c =
    let s = c.args in
    omega (arith, record_long s.b.now s.k s.list.now c.requires.1 c.requires.0.ok, c.requires.1.held.costs_long)

pub write_bytes-requires : goal.write_bytes-requires
write_bytes-requires c =
    let s = c.args in
    omega (arith, record_long s.b.now s.k s.list.now c.requires.1 c.requires.0.ok, c.requires.1.held.plans_long)

pub returns : goal.returns
returns c =
    let s = c.args in
    record_written s.b.now s.k s.list.now c.requires.1 s.out.now _ _ _ c.requires.0.ok c.requires.2 c.put_head.ensures
    c.write_costs.ensures c.write_bytes.ensures
