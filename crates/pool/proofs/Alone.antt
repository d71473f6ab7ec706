-- The pool in which one candidate waits.
-- Assumes nothing.
use mathlib.Core.Path.{◌≡◌, refl, ap, ◌∙◌}
use mathlib.Core.List.{List, [], ◌∷◌, map}
use Prim.Native.Nat.{ℕ, ◌*◌, ◌≤◌, ◌<◌}
use native.Mathlib.Omega.{arith}
use lib.IntN.{ℤ, pos}
use lib.ListN.{length, get_or, set, take, replicate, length-set, length-replicate, get_or-replicate}
use lib.Seq.{get_or-set_same, paste}
use Rattle.stored.specs.Entry.{Entry}
use Rattle.pool.specs.declared.Pool.{Pool}
use Rattle.pool.specs.Entries.{entry_at, entries, Slots, Formed}
use Rattle.pool.proofs.Ascent.{ascends_one}
use Rattle.pool.proofs.Moves.{slot_low}
use Rattle.pool.proofs.Rows.{written_long, row_same}

first_one : (o : List ℕ) → 1 ≤ length o → take 1 o ≡ get_or o 0 0 ∷ []
first_one [] h = absurd (omega arith)
first_one (x ∷ o) h = refl

module _ (k : ℕ) (low-k : 1 ≤ k) (high-k : k ≤ 64) (o : List ℕ) (slots : Slots o) (x : ℤ) (bs : List ℕ) (short : length bs ≤ 64) where
  abbrev s : ℕ
  s = length bs

  abbrev j : ℕ
  j = get_or o 0 0

  abbrev pub alone : Pool
  alone =
      record {
        costs = set (replicate 64 (pos 0)) j x;
        plans = paste (replicate 4096 0) (j * 64) bs s;
        splits = replicate 64 0;
        barred = replicate 64 0;
        order = o;
        count = 1;
        most = k;
      }

  low : j < 64
  low = slot_low slots 0 (omega arith)

  the_entry : entry_at s alone j ≡ record { cost = x; plan = bs; split = 0; mask = 0 }
  the_entry =
      λ t. record {
        cost = get_or-set_same (replicate 64 (pos 0)) j x (pos 0) (omega (arith, low, length-replicate 64 (pos 0))) t;
        plan = row_same (replicate 4096 0) j bs (length-replicate {A = ℕ} 4096 0) low short t;
        split = get_or-replicate 64 j 0 0 low t;
        mask = get_or-replicate 64 j 0 0 low t;
      }

  pub alone_entries : entries s alone ≡ record { cost = x; plan = bs; split = 0; mask = 0 } ∷ []
  alone_entries =
      ap (map (entry_at s alone)) (first_one o (omega (arith, slots.long))) ∙ ap (λ (e : Entry). e ∷ []) the_entry

  pub alone_formed : Formed alone
  alone_formed =
      record {
        costs_long = length-set (replicate 64 (pos 0)) j x ∙ length-replicate 64 (pos 0);
        plans_long = written_long (replicate 4096 0) j bs (length-replicate {A = ℕ} 4096 0) low short;
        splits_long = length-replicate {A = ℕ} 64 0;
        barred_long = length-replicate {A = ℕ} 64 0;
        most_low = low-k;
        most_high = high-k;
        few = low-k;
        slots = slots;
        ascends = ascends_one s alone (record { cost = x; plan = bs; split = 0; mask = 0 }) alone_entries;
      }
