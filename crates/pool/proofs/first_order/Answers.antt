-- Assumes nothing.
use Rattle.std.proofs.Common.{rules}
use Rattle.pool.proofs.Moves.{in_order_slots}
use Rattle.pool.proofs.first_order.Goals as goal

pub returns : goal.returns
returns c = in_order_slots c.from_fn.result c.from_fn.ensures.items.long (λ i h. let e = (c.from_fn.ensures.items.at i 0 h).2 in search rules)
