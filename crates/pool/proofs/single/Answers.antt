-- The first slot holds the candidate.
-- Assumes nothing.
use mathlib.Core.Path.{◌≡◌, refl, sym, subst}
use mathlib.Core.List.{[], ◌∷◌}
use lib.IntN.{pos}
use lib.ListN.{length, get_or, set, replicate}
use Rattle.pool.specs.declared.Pool.{Pool}
use Rattle.pool.specs.Entries.{entries, Formed}
use Rattle.costs.proofs.Sums.{read64}
use Rattle.pool.proofs.Alone.{alone_formed, alone_entries}
use Rattle.pool.proofs.single.Goals as goal

pub returns : goal.returns
returns c =
    let a = c.args in
    let h = c.requires in
    let bs = a.plan.now in
    let o = c.first_order-order.result in
    subst
    (λ (r : Pool). Formed r × (r.most ≡ a.k) × (entries (length bs) r ≡ record { cost = a.cost; plan = bs; split = 0; mask = 0 } ∷ []))
    (λ t. record {
      costs = set (replicate 64 (pos 0)) (get_or o 0 0) (sym (read64 a.cost c.ranges.cost.sfits) t);
      plans = sym c.write_row.ensures t;
      splits = replicate 64 0;
      barred = replicate 64 0;
      order = o;
      count = 1;
      most = a.k;
    }) (
      alone_formed a.k h.0 h.1 o c.first_order-order.ensures a.cost bs h.2,
      refl,
      alone_entries a.k h.0 h.1 o c.first_order-order.ensures a.cost bs h.2,
    )
