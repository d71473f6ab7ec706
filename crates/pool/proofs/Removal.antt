-- The first candidate is taken away.
-- Assumes nothing.
use mathlib.Core.Path.{◌≡◌, ap, ◌∙◌, sym, subst}
use mathlib.Core.List.{List, ◌∷◌, map}
use Prim.Native.Nat.{ℕ, ◌-◌, ◌≤◌}
use native.Mathlib.Omega.{arith}
use lib.ListN.{length}
use Rattle.pool.specs.declared.Pool.{Pool}
use Rattle.pool.specs.Entries.{entry_at, first_entry, entries, Slots, Formed, Popped, moved_back}
use Rattle.pool.proofs.Ascent.{ascends_rest}
use Rattle.pool.proofs.Moves.{back-slots, first_others, back_first}

-- the pool with its slots in the order o, of which one less wait
abbrev pub shorter : Pool → List ℕ → Pool
shorter p o =
    record { costs = p.costs; plans = p.plans; splits = p.splits; barred = p.barred; order = o; count = p.count - 1; most = p.most }

module _ (p : Pool) (ok : Formed p) (some : 1 ≤ p.count) (o : List ℕ) (moved : o ≡ moved_back p.count p.order) where
  high : p.count ≤ length p.order
  high = omega (arith, ok.few, ok.most_high, ok.slots.long)

  rests : (s : ℕ) → entries s p ≡ first_entry s p ∷ entries s (shorter p o)
  rests s =
      rw moved
      (ap (map (entry_at s p)) (first_others p.order p.count some high)
      ∙ ap (λ (xs : List ℕ). first_entry s p ∷ map (entry_at s p) xs) (sym (back_first p.order p.count some high)))

  pub shorter_popped : Popped p (shorter p o)
  shorter_popped =
      record {
        formed = record {
          costs_long = ok.costs_long;
          plans_long = ok.plans_long;
          splits_long = ok.splits_long;
          barred_long = ok.barred_long;
          most_low = ok.most_low;
          most_high = ok.most_high;
          few = omega (arith, ok.few);
          slots = subst Slots (sym moved) (back-slots p.order p.count some high ok.slots);
          ascends = ascends_rest 0 p (shorter p o) (first_entry 0 p) ok.ascends (rests 0);
        };
        count_is = omega arith;
        rest = rests;
      }
