-- Assumes nothing.
use mathlib.Core.Path.{◌≡◌, sym, ap, ◌∙◌, subst}
use Prim.Native.Nat.{ℕ, ◌+◌, ◌<◌, ◌≤◌}
use native.Mathlib.Omega.{arith}
use mathlib.Core.List.{List}
use lib.IntN.{ℤ}
use lib.ListN.{get_or}
use Rattle.model.specs.Lists.{up_from}
use Rattle.model.specs.Model.{Words, scale, state_count, togo, action}
use Rattle.model.specs.Recursion.{best_of, through, feasible}
use Rattle.laws.specs.Members.{In, up_from_in}
use Rattle.sets.specs.Sets.{with, free, free_in}
use Rattle.accepted.specs.Facts.{accepted}
use Rattle.feasible.specs.Barred.{Leaves}
use Rattle.table.specs.Table.{row_of}
use Rattle.build.specs.Best.{best_at, second_at}
use Rattle.build.proofs.Best.{row-best, row_first, best-byte, Found, found_none, found_one, found_two}
use Rattle.build.proofs.best_actions.Goals as goal
use Rattle.build.proofs.best_actions.Goals.{After-best_action-c, After-count-n, then-k-gt1, else-k-gt1}

pub loop-p-init : goal.loop-p-init
loop-p-init c =
    let ws = c.args.b.now in
    ((accepted ws c.requires.0.ok).sizes.s_high, found_none ws c.args.k c.args.best.now c.requires.3)

-- what is known once the first best action of state p is found
module _ (c : goal.After-best_action-c) where
  abbrev ws : Words
  ws = c.args.b.now

  abbrev off : ℕ
  off = get_or c.args.off.now c.loop-p.p 0

  state : c.loop-p.p < state_count ws
  state = omega arith

  leaves : Leaves ws c.loop-p.p off
  leaves = c.requires.2.leaves c.loop-p.p state

  first : c.best_action-c.result ≡ best_at ws c.loop-p.p
  first =
      c.best_action-c.ensures ∙ ap (λ n. best_of (row_of c.args.q.now c.loop-p.p) (free off (up_from 0 n))) c.count-n.ensures
      ∙ row_first ws c.loop-p.p off leaves c.args.q.now c.requires.1 state

  second : best_of (row_of c.args.q.now c.loop-p.p) (free (with 0 c.best_action-c.result) (free off (up_from 0 c.count-n.result)))
      ≡ second_at ws c.loop-p.p
  second =
      ap (λ n. best_of (row_of c.args.q.now c.loop-p.p) (free (with 0 c.best_action-c.result) (free off (up_from 0 n)))) c.count-n.ensures
      ∙ row-best ws c.loop-p.p off leaves c.args.q.now c.requires.1 state (with 0 c.best_action-c.result)
      ∙ ap (λ d. best_of (through (scale ws) (action ws) (feasible ws) (togo ws c.loop-p.p) c.loop-p.p) (free (with 0 d) (feasible ws c.loop-p.p))) first

few : (c : goal.After-count-n) → (c.loop-p.p < 64) × (c.count-n.result ≤ 8)
few c = (omega arith, omega (arith, c.count-n.ensures, (accepted c.args.b.now c.requires.0.ok).counts_high c.loop-p.p (omega arith)))

-- the two actions fit a byte
module _ (c : goal.After-best_action-c) (n-few : c.count-n.result ≤ 8) where
  abbrev xs : List ℕ
  xs = free (off c) (up_from 0 c.count-n.result)

  below : (d : ℕ) → In d xs → d < 8
  below d i = omega (arith, n-few, up_from_in 0 c.count-n.result (free_in (off c) d (up_from 0 c.count-n.result) i))

  abbrev cost : ℕ → ℤ
  cost = row_of c.args.q.now c.loop-p.p

  first_small : c.best_action-c.result < 256
  first_small = omega (arith, c.best_action-c.ensures, best-byte cost xs below)

  second_small : best_of cost (free (with 0 c.best_action-c.result) xs) < 256
  second_small =
      best-byte cost (free (with 0 c.best_action-c.result) xs) (λ d i. below d (free_in (with 0 c.best_action-c.result) d xs i))

pub best_action-c-requires : goal.best_action-c-requires
best_action-c-requires c = few (goal.at.best_action-c-requires c).After-count-n

pub overflow_cast-best : goal.overflow_cast-best
overflow_cast-best c =
    let a = (goal.at.overflow_cast-best c).After-best_action-c in
    let f = (few (goal.at.overflow_cast-best c).After-count-n).1 in
    omega (arith, first_small a f)

pub second_best-d-requires : goal.second_best-d-requires
second_best-d-requires c = let f = few (goal.at.second_best-d-requires c).After-count-n in (f.0, f.1, c.best_action-c.ensures)

pub overflow_cast-best-then-k-gt1 : goal.overflow_cast-best-then-k-gt1
overflow_cast-best-then-k-gt1 c =
    let a = (goal.at.overflow_cast-best-then-k-gt1 c).After-best_action-c in
    let f = (few (goal.at.overflow_cast-best-then-k-gt1 c).After-count-n).1 in
    omega (arith, c.second_best-d.ensures, second_small a f)

pub loop-p-preserved : goal.loop-p-preserved
loop-p-preserved c =
    let a = (goal.at.loop-p-preserved c).After-best_action-c in
    let m = off a in
    let p = c.loop-p.p in
    let w = ws a in
    let xs = c.loop-p.best in
    let one = c.best_action-c.result in
    let old = c.loop-p.invariant.1 in (
      c.loop-p.invariant.0,
      elim c.if-k-gt1.branch [
        | then-k-gt1 t ↦
            subst (Found w c.args.k (p + 1)) (sym t.best-is)
            (found_two w c.args.k p one m xs (omega (arith, state a, c.loop-p.invariant.0)) old (first a) (leaves a) t.second_best-d.result t.if-k-gt1.true (t.second_best-d.ensures ∙ second a))
        | else-k-gt1 t ↦
            subst (Found w c.args.k (p + 1)) (sym t.best-is)
            (found_one w c.args.k p one m xs (omega (arith, state a, c.loop-p.invariant.0)) old (first a) (leaves a) (λ j. omega arith))
      ],
    )
