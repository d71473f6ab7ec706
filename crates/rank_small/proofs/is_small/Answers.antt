-- Seen at once, or counted in arrays of its own.
-- Assumes nothing.
use mathlib.Core.Path.{◌≡◌, refl, sym, ap, ◌∙◌}
use mathlib.Core.Bool.{Bool, true, false}
use Prim.Native.Nat.{ℕ, ◌≤◌}
use mathlib.Core.List.{List}
use native.Mathlib.Omega.{arith}
use borrow.Author.Tests.{le-leb, lt-leb, leb-true, leb-false}
use lib.Dec.{leb}
use lib.ListN.{length-replicate, replicate, length, take}
use lib.Seq.{length-take-le}
use Rattle.model.specs.Model.{Words}
use Rattle.model.specs.Policy.{policies}
use Rattle.model.specs.Calls.{most_small, is_small}
use Rattle.accepted.specs.Facts.{accepted}
use Rattle.enumerate.specs.Steps.{CountIs}
use Rattle.rank_small.proofs.is_small.Goals as goal
use Rattle.rank_small.proofs.is_small.Goals.{Else-few_at_sight}

-- an array of zeros
abbrev row : List ℕ
row = replicate 64 0

row_long : length row ≡ 64
row_long = length-replicate {A = ℕ} 64 0

-- the number that was counted says it
by_count : (ws : Words) (n : ℕ) → CountIs ws most_small n → leb n most_small ≡ is_small ws
unfolding is_small
by_count ws n c = go (leb n most_small) refl
  where
    go : (t : Bool) → leb n most_small ≡ t → leb n most_small ≡ leb (length (policies ws)) most_small
    go true e = ap (λ (m : ℕ). leb m most_small) (c.all (leb-true n most_small e))
    go false e = e ∙ sym (lt-leb (length (policies ws)) most_small (c.more (leb-false n most_small e)))

pub returns-then-few_at_sight : goal.returns-then-few_at_sight
unfolding is_small
returns-then-few_at_sight c =
    let s = c in
    sym (le-leb (length (policies s.args.b.now)) most_small (omega (arith, c.few_at_sight.ensures c.if-few_at_sight.true)))

-- the array of bytes is there
module _ (b : goal.Else-few_at_sight) where
  abbrev s : goal.Else-few_at_sight
  s = b

  lent_fits : s.args.z.s ≤ length row
  lent_fits =
      omega (arith, s.requires.0.checked.sizes.s_is, (accepted s.args.b.now s.requires.0.checked.ok).sizes.s_high, row_long)

  lent_long : length (take s.args.z.s row) ≡ s.args.z.s
  lent_long = length-take-le s.args.z.s row lent_fits

pub slice_bounds-row-end : goal.slice_bounds-row-end
slice_bounds-row-end c = lent_fits (goal.at.slice_bounds-row-end c).Else-few_at_sight

pub slice_bounds-count_to-end : goal.slice_bounds-count_to-end
slice_bounds-count_to-end c = sym (lent_long (goal.at.slice_bounds-count_to-end c).Else-few_at_sight)

pub count_to-n-requires : goal.count_to-n-requires
count_to-n-requires c =
    let n = c in
    let b = (goal.at.count_to-n-requires n).Else-few_at_sight in
    ((s b).requires.0, (s b).requires.1, (s b).requires.2, lent_long b ∙ (s b).requires.0.checked.sizes.s_is, row_long, omega arith)

pub returns : goal.returns
returns c =
    let n = c in
    by_count n.args.b.now n.count_to-n.result n.count_to-n.ensures
