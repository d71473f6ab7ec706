-- The number of a call whose slices are too short.
-- Assumes nothing.
use Rattle.std.proofs.Math.Path.{◌≡◌, refl, sym}
use Rattle.std.proofs.Common.{◌∙◌, arith}
use Rattle.std.specs.Prelude.{Bool, ℕ, ◌*◌, ◌≤◌}
use Rattle.std.proofs.Math.Bool.{true, false, cond}
use mathlib.Core.List.{[]}
use Rattle.std.proofs.Math.Dec.{leb}
use borrow.Author.Tests.{leb-true, le-leb}
use Rattle.model.specs.Model.{Words, state_count}
use Rattle.model.specs.Policy.{has_policy}
use Rattle.model.specs.Calls.{Room, rank_number}
use Rattle.questions.specs.FirstNo.{fails, passes, none}
use Rattle.questions.specs.Answers.{stops, goes_on}
use Rattle.asked.specs.Asked.{Asked, Counted, asked-none, asked_passed}

module _ (ws : Words) (r : Room) where
  -- 28 comes before the number of a slice
  unfoldable pub short_number : ℕ
  short_number = cond (leb r.k r.costs) (cond (leb (r.k * state_count ws) r.plans) 0 (cond (has_policy ws) 16 28)) (cond (has_policy ws) 15 28)

  -- room for k policies
  pub record Fits : Type 0 where
    pub costs : r.k ≤ r.costs
    pub plans : r.k * state_count ws ≤ r.plans

  pub short_none : short_number ≡ 0 → Fits
  unfolding short_number
  short_none e =
      go (leb r.k r.costs) refl (leb (r.k * state_count ws) r.plans) refl (has_policy ws) e
    where
      go : (a : Bool) → leb r.k r.costs ≡ a → (b : Bool) → leb (r.k * state_count ws) r.plans ≡ b → (h : Bool)
          → ◌≡◌ {A = ℕ} (cond a (cond b 0 (cond h 16 28)) (cond h 15 28)) 0 → Fits
      go true c true p h e = record { costs = leb-true r.k r.costs c; plans = leb-true (r.k * state_count ws) r.plans p }
      go true c false p true e = absurd (omega (arith, e))
      go true c false p false e = absurd (omega (arith, e))
      go false c b p true e = absurd (omega (arith, e))
      go false c b p false e = absurd (omega (arith, e))

  module _ (counted : Counted ws r.k) where
    abbrev asked : has_policy ws ≡ true → Asked ws r.k
    asked h = record { ok = counted.ok; low = counted.low; high = counted.high; has = h }

    -- a book without a policy
    pub rank_none : has_policy ws ≡ false → rank_number ws r ≡ 28
    unfolding rank_number
    rank_none h = sym (stops (sym (asked-none ws r.k counted h)) _ (omega arith))

    -- one that has one, and slices that hold the list
    pub rank_some : has_policy ws ≡ true → Fits → rank_number ws r ≡ 0
    unfolding rank_number
    rank_some h f =
        sym (goes_on (asked_passed ws r.k (asked h))
        (sym (passes r _ _ (le-leb r.k r.costs f.costs) ∙ passes r _ [] (le-leb (r.k * state_count ws) r.plans f.plans) ∙ none r)))

    -- a number is that of the call
    pub short_is : (short_number ≡ 0 → ⊥) → short_number ≡ rank_number ws r
    unfolding short_number rank_number
    short_is = go (leb r.k r.costs) refl (leb (r.k * state_count ws) r.plans) refl (has_policy ws) refl
      where
        go : (a : Bool) → leb r.k r.costs ≡ a → (b : Bool) → leb (r.k * state_count ws) r.plans ≡ b → (h : Bool) → has_policy ws ≡ h
            → (◌≡◌ {A = ℕ} (cond a (cond b 0 (cond h 16 28)) (cond h 15 28)) 0 → ⊥) → cond a (cond b 0 (cond h 16 28)) (cond h 15 28) ≡ rank_number ws r
        go true c true p h e n = absurd (n refl)
        go true c false p true e n = goes_on (asked_passed ws r.k (asked e)) (sym (passes r _ _ c ∙ fails r _ _ p))
        go true c false p false e n = sym (rank_none e)
        go false c b p true e n = goes_on (asked_passed ws r.k (asked e)) (sym (fails r _ _ c))
        go false c b p false e n = sym (rank_none e)
