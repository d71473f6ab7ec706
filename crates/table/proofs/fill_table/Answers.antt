-- Assumes nothing.
use mathlib.Core.Path.{◌≡◌, ap, ◌∙◌, subst}
use mathlib.Core.List.{List}
use Prim.Native.Nat.{ℕ, ◌+◌, ◌-◌, ◌<◌}
use native.Mathlib.Omega.{arith}
use lib.IntN.{ℤ}
use lib.ListN.{get_or}
use mir.Syntax.{w64}
use mir.Val.{SFits}
use Rattle.std.proofs.Common.{rules}
use Rattle.model.specs.Lists.{up_from}
use Rattle.model.specs.Model.{Words, state_count, action_count}
use Rattle.model.specs.Questions.{book_number}
use Rattle.model.specs.Recursion.{best_of}
use Rattle.accepted.specs.Facts.{accepted}
use Rattle.sets.specs.Sets.{free}
use Rattle.feasible.specs.Barred.{Leaves}
use Rattle.costs.proofs.ToGo.{least_bounded}
use Rattle.costs.proofs.Sums.{read64}
use Rattle.table.specs.Table.{row_of, TableFrom}
use Rattle.table.proofs.Rows.{row-least, row_some, table_more, table_none}
use Rattle.table.proofs.fill_table.Goals as goal
use Rattle.table.proofs.fill_table.Goals.{After-best_action-best}

pub loop-p-init : goal.loop-p-init
loop-p-init c = (
  (accepted c.args.b.now c.requires.0.checked.ok).sizes.s_high,
  record {
    rows = c.requires.2;
    long = c.requires.3;
    through_is = λ p d l h k. absurd (omega arith);
    least_is = λ p l h. absurd (omega (arith, h.state));
  },
)

pub fill_row-requires : goal.fill_row-requires
fill_row-requires c =
    let p = c.loop-p.p - 1 in (
      c.requires.0,
      omega arith,
      c.requires.1.leaves p (omega arith),
      λ d i. least_bounded c.args.b.now c.requires.0.checked.ok p d c.loop-p.v i (λ q a h. c.loop-p.invariant.1.least_is q (omega arith) h),
      c.loop-p.invariant.1.rows,
    )

pub best_action-best-requires : goal.best_action-best-requires
best_action-best-requires c =
    (omega arith, omega (arith, c.count-n.ensures, (accepted c.args.b.now c.requires.0.checked.ok).counts_high (c.loop-p.p - 1) (omega arith)))

-- the row of state p is filled, and its best action found
module _ (c : goal.After-best_action-best) where
  abbrev ws : Words
  ws = c.args.b.now

  abbrev p : ℕ
  p = c.loop-p.p - 1

  abbrev off : ℕ
  off = get_or c.args.off.now p 0

  abbrev row : List ℤ
  row = c.fill_row.new.q

  ok : book_number ws ≡ 0
  ok = c.requires.0.checked.ok

  state : p < state_count ws
  state = omega arith

  leaves : Leaves ws p off
  leaves = c.requires.1.leaves p state

  later : TableFrom ws (p + 1) c.loop-p.q c.loop-p.v
  later = let e : c.loop-p.p ≡ p + 1 = omega arith in subst (λ n. TableFrom ws n c.loop-p.q c.loop-p.v) e c.loop-p.invariant.1

  best_is : c.best_action-best.result ≡ best_of (row_of row p) (free off (up_from 0 (action_count ws p)))
  best_is = c.best_action-best.ensures ∙ ap (λ n. best_of (row_of row p) (free off (up_from 0 n))) c.count-n.ensures

pub loop-p-preserved-then-best-lt8 : goal.loop-p-preserved-then-best-lt8
loop-p-preserved-then-best-lt8 c =
    let k = (goal.at.loop-p-preserved-then-best-lt8 c).After-best_action-best in
    let best = c.best_action-best.result in
    let y = row_of (row k) (p k) best in
    let f : SFits w64 y = search rules in
    rw (read64 y f.sfits) (
      c.loop-p.invariant.0,
      table_more (ws k) (ok k) (p k) (state k) c.loop-p.q c.loop-p.v (row k) (later k) c.fill_row.ensures y
          (row-least (ws k) (ok k) (p k) (state k) c.loop-p.q c.loop-p.v (row k) (later k) c.fill_row.ensures (off k) best (leaves k) (best_is k)),
    )

pub loop-p-preserved : goal.loop-p-preserved
loop-p-preserved c =
    let k = (goal.at.loop-p-preserved c).After-best_action-best in (
      c.loop-p.invariant.0,
      table_none (ws k) (ok k) (p k) (state k) c.loop-p.q c.loop-p.v (row k) (later k) c.fill_row.ensures
          (λ a. omega (
            arith,
            c.if-best-lt8.false,
            row_some (ws k) (ok k) (p k) (state k) c.loop-p.q c.loop-p.v (row k) (later k) c.fill_row.ensures (off k)
                c.best_action-best.result (leaves k) (best_is k) a,
          )),
    )
