-- The first part that is the plan.
-- Assumes nothing.
use mathlib.Core.Path.{◌≡◌, refl, sym, ap, ◌∙◌}
use mathlib.Core.Bool.{Bool, true, false}
use mathlib.Core.List.{List}
use Prim.Native.Nat.{ℕ, zero, suc, ◌+◌, ◌*◌, ◌≤◌, ◌<◌}
use native.Mathlib.Omega.{arith}
use lib.ListN.{length, take, drop}
use lib.Seq.{take_all}
use Rattle.std.specs.Prelude.{Option, Some, None, MatchOption}
use Rattle.std.proofs.Common.{rules}
use Rattle.std.proofs.lemmas.Iterator.{first_from_Range}
use borrow.Author.Tests.{tests}
use Rattle.model.specs.Lists.{same}
use Rattle.model.specs.Policy.{Policy}
use Rattle.model.specs.Standing.{place_in}
use Rattle.record.specs.Parts.{parts}
use Rattle.find.proofs.place_in.Goals as goal

-- the parts from i on, by whether they are the plan
module _ (plans : List ℕ) (plan : Policy) where
  abbrev here : ℕ → Bool
  here i = same (take (length plan) (drop (i * length plan) plans)) (take (length plan) plan)

  here_is : (i : ℕ) → here i ≡ same (take (length plan) (drop (i * length plan) plans)) plan
  here_is i = ap (same (take (length plan) (drop (i * length plan) plans))) (take_all (length plan) plan (omega arith))

  nowhere : (i n : ℕ) → ((k : ℕ) → i ≤ k → k < i + n → here k ≡ false) → place_in (parts plans (length plan) i n) plan ≡ n
  nowhere i zero h = refl
  nowhere i (suc n) h =
      rw (← here_is i, h i (omega arith) (omega arith)) (ap suc (nowhere (suc i) n (λ k a b. h k (omega arith) (omega arith))))

  first : (i n d j : ℕ) → j ≡ i + d → d < n → ((k : ℕ) → i ≤ k → k < j → here k ≡ false) → here j ≡ true
      → place_in (parts plans (length plan) i n) plan ≡ d
  first i zero d j e l h y = absurd (omega arith)
  first i (suc n) zero j e l h y = let m : j ≡ i = omega arith in rw (← here_is i, rw m at y) refl
  first i (suc n) (suc d) j e l h y =
      rw (← here_is i, h i (omega arith) (omega arith))
      (ap suc (first (suc i) n d j (omega arith) (omega arith) (λ k a b. h k (omega arith) b) y))

  place_is : (n : ℕ) (r : Option ℕ)
      → MatchOption r ((k : ℕ) → 0 ≤ k → k < n → here k ≡ false) (λ j. (0 ≤ j) × (j < n) × (here j ≡ true) × ((k : ℕ) → 0 ≤ k → k < j → here k ≡ false))
      → MatchOption r (place_in (parts plans (length plan) 0 n) plan ≡ n) (λ j. (j ≡ place_in (parts plans (length plan) 0 n) plan) × (j < n))
  place_is n None h = nowhere 0 n (λ k a b. h k a (omega arith))
  place_is n (Some j) h = (sym (first 0 n j j (omega arith) h.1 h.3 h.2), h.1)

pub returns : goal.returns
returns c =
    place_is c.args.plans.now c.args.plan.now c.args.n c.find.result
    (first_from_Range _ _ _ _ (λ i. here c.args.plans.now c.args.plan.now i ≡ true) (λ i. here c.args.plans.now c.args.plan.now i ≡ false) c.find.ensures.ran
    (λ x q k. search (rules, tests)) (λ x q k. search (rules, tests)))
