-- A child of the listed candidate joins those that wait, or stays out.
-- Assumes nothing.
use mathlib.Core.Path.{◌≡◌, sym, ap, ◌∙◌, subst}
use mathlib.Core.Bool.{true}
use mathlib.Core.List.{List, [], ◌∷◌}
use Prim.Native.Nat.{ℕ, ◌+◌, ◌*◌, ◌≤◌, ◌<◌}
use native.Mathlib.Omega.{arith}
use lib.ListN.{length, set, get_or, take}
use lib.Seq.{paste}
use Rattle.model.specs.Model.{Words, state_count, action}
use Rattle.model.specs.Policy.{Policy}
use Rattle.accepted.specs.Facts.{accepted}
use Rattle.book.specs.declared.Sizes.{Sizes}
use Rattle.index.specs.Index.{Checked}
use Rattle.build.specs.Walk.{walk_by, chosen}
use Rattle.build.proofs.Prefix.{walk_long}
use Rattle.pool.specs.declared.Pool.{Pool}
use Rattle.pool.specs.Entries.{entries, Formed, beyond_of, earlier_than, first_yes, Holding, Inserted, Spare, moved_up}
use Rattle.pool.proofs.Moves.{slot_low}
use Rattle.pool.proofs.Insertion.{unchanged, place-before, filled_inserted, beyond_kept}
use Rattle.child.specs.Children.{child_of, joined}
use Rattle.child.specs.declared.Child.{Child}

pub few : {ws : Words} {z : Sizes} → Checked ws z → z.s ≤ 64
few {ws} known = omega (arith, known.sizes.s_is, (accepted ws known.ok).sizes.s_high)

module _ {ws : Words} {z : Sizes} (known : Checked ws z) (bs : Policy) (p : ℕ) (d : Child) (pool : Pool) (formed : Formed pool) where
  abbrev S : ℕ
  S = state_count ws

  abbrev Joined : Pool → Type 0
  Joined r = Holding S (joined pool.most (child_of ws bs p d) (entries S pool)) pool r

  -- it costs more than the last of those that may wait
  pub stays_out : beyond_of (length (take pool.count pool.order)) pool.most d.cost pool.costs (take pool.count pool.order) ≡ true → Joined pool
  stays_out h = beyond_kept pool S (child_of ws bs p d) formed h

  -- it is compared
  module _ {row : List ℕ} (is : row ≡ walk_by (action ws) (chosen ws bs p d.action) S 0 (0 ∷ [])) where
    all : length row ≡ S
    all = ap length is ∙ walk_long (action ws) (chosen ws bs p d.action) S 0 (0 ∷ [])

    pub row_short : length row ≤ 64
    row_short = omega (arith, all, few known, known.sizes.s_is)

    module _ {i : ℕ} (place : i ≡ first_yes (earlier_than d.cost row (length row) pool.costs pool.plans) (take pool.count pool.order)) where
      enters : {r : Pool} → Inserted (length row) (record { cost = d.cost; plan = row; split = p; mask = d.mask }) pool r → Joined r
      enters {r} i =
          record {
            formed = i.formed;
            same-most = i.same-most;
            waits = ap (λ (n : ℕ). entries n r) (sym all) ∙ i.waits
                ∙ (λ t. joined pool.most (record { cost = d.cost; plan = is t; split = p; mask = d.mask }) (entries (all t) pool));
          }

      -- others come before it
      pub no_place : pool.most ≤ i → Joined pool
      no_place h = enters (unchanged pool formed d.cost row row_short p d.mask i place h)

      -- it goes to the slot of place `last`, and that to place i
      module _ {last : ℕ} (spare : (last < pool.most) × Spare last pool.count pool.most) (new : i < pool.most) where
        pub before_last : i ≤ last
        before_last = place-before pool formed d.cost row row_short p d.mask i place last spare new

        pub last_low : last < 64
        last_low = omega (arith, spare.0, formed.most_high)

        pub slot_small : get_or pool.order last 0 < 64
        slot_small = slot_low formed.slots last last_low

        pub placed : {ps o : List ℕ} → ps ≡ paste pool.plans (get_or pool.order last 0 * 64) row (length row) → o ≡ moved_up i last pool.order
            → Joined (record {
              costs = set pool.costs (get_or pool.order last 0) d.cost;
              plans = ps;
              splits = set pool.splits (get_or pool.order last 0) p;
              barred = set pool.barred (get_or pool.order last 0) d.mask;
              order = o;
              count = last + 1;
              most = pool.most;
            })
        placed {ps} {o} hp ho =
            enters
            (subst (Inserted (length row) (record { cost = d.cost; plan = row; split = p; mask = d.mask }) pool)
            (λ t. record {
              costs = set pool.costs (get_or pool.order last 0) d.cost;
              plans = sym hp t;
              splits = set pool.splits (get_or pool.order last 0) p;
              barred = set pool.barred (get_or pool.order last 0) d.mask;
              order = sym ho t;
              count = last + 1;
              most = pool.most;
            })
            (filled_inserted pool formed d.cost row row_short p d.mask i place last spare new))
