-- The first part that keeps the limit.
-- Assumes nothing.
use mathlib.Core.Path.{◌≡◌, refl, sym, ap, ◌∙◌}
use mathlib.Core.Bool.{Bool, true, false}
use mathlib.Core.List.{List}
use Prim.Native.Nat.{ℕ, zero, suc, ◌+◌, ◌*◌, ◌≤◌, ◌<◌}
use native.Mathlib.Omega.{arith}
use borrow.Author.Tests.{le-leb, lt-leb, tests}
use lib.Dec.{leb}
use lib.ListN.{take, drop}
use Rattle.std.specs.Prelude.{Option, Some, None, MatchOption}
use Rattle.std.proofs.Common.{rules}
use Rattle.std.proofs.lemmas.Iterator.{first_from_Range}
use Rattle.model.specs.Lists.{first_where}
use Rattle.model.specs.Model.{Words, state_count}
use Rattle.model.specs.Policy.{Policy}
use Rattle.model.specs.Limit.{Limit, limit_of, keeps_limit, mark_of}
use Rattle.record.specs.Parts.{parts}
use Rattle.path_sums.specs.Books.{most_over}
use Rattle.marked.specs.Kept.{by_most}
use Rattle.limit.proofs.above_kept.Goals as goal

-- the parts from i on, by whether they pass a test
module _ (plans : List ℕ) (s : ℕ) (test : Policy → Bool) where
  abbrev here : ℕ → Bool
  here i = test (take s (drop (i * s) plans))

  nowhere : (i n : ℕ) → ((k : ℕ) → i ≤ k → k < i + n → here k ≡ false) → first_where test (parts plans s i n) ≡ n
  nowhere i zero h = refl
  nowhere i (suc n) h = rw (h i (omega arith) (omega arith)) (ap suc (nowhere (suc i) n (λ k a b. h k (omega arith) (omega arith))))

  first : (i n d j : ℕ) → j ≡ i + d → d < n → ((k : ℕ) → i ≤ k → k < j → here k ≡ false) → here j ≡ true → first_where test (parts plans s i n) ≡ d
  first i zero d j e l h y = absurd (omega arith)
  first i (suc n) zero j e l h y = let m : j ≡ i = omega arith in rw (rw m at y) refl
  first i (suc n) (suc d) j e l h y =
      rw (h i (omega arith) (omega arith)) (ap suc (first (suc i) n d j (omega arith) (omega arith) (λ k a b. h k (omega arith) b) y))

-- a part keeps the limit if the most of its paths does
module _ (ws : Words) (marks : List ℕ) (m : ℕ) (plans : List ℕ) (s : ℕ) (states : s ≡ state_count ws) where
  abbrev most_at : ℕ → ℕ
  most_at i = most_over ws (mark_of ws marks) (take (state_count ws) (drop (i * s) plans))

  abbrev test : Policy → Bool
  test = keeps_limit ws (limit_of marks m)

  keeps : (i : ℕ) → here plans (state_count ws) test i ≡ leb (most_at i) m
  keeps i = by_most ws (limit_of marks m) _ ∙ rw states refl

  place_is : (n : ℕ) (r : Option ℕ)
      → MatchOption r ((k : ℕ) → 0 ≤ k → k < n → m < most_at k) (λ j. (0 ≤ j) × (j < n) × (most_at j ≤ m) × ((k : ℕ) → 0 ≤ k → k < j → m < most_at k))
      → MatchOption r (first_where test (parts plans (state_count ws) 0 n) ≡ n)
      (λ j. (j ≡ first_where test (parts plans (state_count ws) 0 n)) × (j < n))
  place_is n None h = nowhere plans (state_count ws) test 0 n (λ k a b. keeps k ∙ lt-leb (most_at k) m (h k a (omega arith)))
  place_is n (Some j) h = (
    sym (first plans (state_count ws) test 0 n j j (omega arith) h.1 (λ k a b. keeps k ∙ lt-leb (most_at k) m (h.3 k a b)) (keeps j ∙ le-leb (most_at j) m h.2)),
    h.1,
  )

pub returns : goal.returns
returns c =
    let ws = c.args.b.now in
    let marks = c.args.marks.now in
    let plans = c.args.plans.now in
    let s = c.args.z.s in
    let m = c.args.m in
    let states = c.requires.0.checked.sizes.s_is in
    place_is ws marks m plans s states c.args.n c.find.result
    (first_from_Range _ _ _ _ (λ i. most_at ws marks m plans s states i ≤ m) (λ i. m < most_at ws marks m plans s states i) c.find.ensures.ran
    (λ x q k. search (rules, tests)) (λ x q k. search (rules, tests)))
