-- The lines of the first state lie between those where the walks to it and over it end.
-- Assumes nothing.
use mathlib.Core.Path.{◌≡◌, ap, ap₂, ◌∙◌}
use Prim.Native.Nat.{ℕ, ◌+◌, ◌*◌, ◌-◌}
use native.Mathlib.Omega.{arith}
use Rattle.reward_table.specs.Table.{table_horizon, table_states, table_first, table_state_line}
use Rattle.reward_table.specs.Says.{state_given_lem, states_below, all_used_lem}
use Rattle.table_book.specs.Columns.{first_lines, book_lines}
use Rattle.table_book.proofs.Standing.{line_rises}
use Rattle.table_book.proofs.measure.Goals as goal
use Rattle.table_book.proofs.measure.Goals.{After-unwrap-from, After-unwrap-to, Start}

pub unwrap-from-requires : goal.unwrap-from-requires
unwrap-from-requires c =
    let p = c.requires in
    c.walk_to.ensures.ok_is ∙ states_below c.args.t.now p.lines _ (omega (arith, p.given.first_low, p.read.first-is))

starts : (c : goal.After-unwrap-from) → c.unwrap-from.result ≡ table_state_line c.args.t.now c.args.z.first
starts c = let w = rw c.unwrap-from.ensures at c.walk_to.ensures in w.at-is

from_is : (c : goal.After-unwrap-from) → let t = c.args.t.now in c.unwrap-from.result ≡ table_state_line t (table_first t)
from_is c = starts c ∙ ap (table_state_line c.args.t.now) c.requires.read.first-is

pub unwrap-to-requires : goal.unwrap-to-requires
unwrap-to-requires c =
    let p = c.requires in
    c.walk_state.ensures.ok_is ∙ state_given_lem c.args.t.now p.lines _ (omega (arith, p.given.first_low, p.read.first-is))

pub overflow_sub-z : goal.overflow_sub-z
overflow_sub-z c = let p = c.requires in omega (arith, p.read.l_is, p.read.n_is, all_used_lem c.args.t.now p.lines)

to_is : (c : goal.After-unwrap-to) → let t = c.args.t.now in c.unwrap-to.result ≡ table_state_line t (table_first t + 1)
to_is c =
    let w = rw c.unwrap-to.ensures at c.walk_state.ensures in
    w.at-is ∙ ap (λ (k : ℕ). table_state_line c.args.t.now (k + 1)) c.requires.read.first-is

-- the closings are the lines after those of the states
body_at : (c : goal.Start) → let t = c.args.t.now in c.args.z.l - c.args.z.n ≡ table_state_line t (table_states t)
body_at c = let p = c.requires in omega (arith, p.read.l_is, p.read.n_is, all_used_lem c.args.t.now p.lines)

pub sizes_of-requires : goal.sizes_of-requires
sizes_of-requires c =
    let p = c.requires in
    let t = c.args.t.now in
    let w = rw c.unwrap-to.ensures at c.walk_state.ensures in
    let from = from_is (goal.at.sizes_of-requires c).After-unwrap-from in
    let to = to_is (goal.at.sizes_of-requires c).After-unwrap-to in (
      omega (arith, p.given.h_low, p.read.h_is),
      omega (arith, p.given.h_high, p.read.h_is),
      omega (arith, p.given.n_high, p.read.n_is),
      omega (arith, from, to, line_rises t p.lines (table_first t) p.given.first_low),
      w.small,
      omega (arith, p.given.l_high, p.read.l_is),
    )

pub returns : goal.returns
unfolding first_lines book_lines
returns c =
    let q = c.sizes_of.ensures in
    let t = c.args.t.now in
    let p = c.requires in
    let a = from_is (goal.at.returns c).After-unwrap-from in
    let body = body_at (goal.at.returns c).Start in
    let f : c.unwrap-to.result - c.unwrap-from.result ≡ table_state_line t (table_first t + 1) - table_state_line t (table_first t)
    = ap₂ ◌-◌ (to_is (goal.at.returns c).After-unwrap-to) a in
    let m : c.args.z.h - 1 ≡ table_horizon t - 1 = ap (λ (h : ℕ). h - 1) p.read.h_is in
    record {
      from_is = q.from_is ∙ a;
      first-is = q.first-is ∙ f;
      body_is = q.body_is ∙ body;
      lines_is = q.lines_is ∙ ap₂ ◌+◌ (ap₂ ◌+◌ f (ap₂ ◌*◌ m body)) p.read.n_is;
      states_is = q.states_is ∙ ap₂ (λ (h n : ℕ). 1 + h * n) p.read.h_is p.read.n_is;
      length_is = q.length_is ∙ ap (λ (h : ℕ). 4 + h + c.sizes_of.result.states + 2 * c.sizes_of.result.lines) p.read.h_is;
      small = q.small;
    }
