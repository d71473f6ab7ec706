-- Each return is the first question that the action fails: those before it were passed on the way.
-- Assumes nothing.
use mathlib.Core.Path.{◌≡◌, sym, ap₂, ◌∙◌}
use mathlib.Core.Bool.{true, ◌&&◌}
use Prim.Native.Nat.{ℕ, ◌+◌, ◌-◌, ◌≤◌}
use native.Mathlib.Omega.{arith}
use borrow.Author.Tests.{le-leb, lt-leb}
use lib.Dec.{leb}
use lib.ListN.{length}
use Rattle.model.specs.Lists.{all}
use Rattle.model.specs.Model.{Words, word, line_after}
use Rattle.model.specs.Questions.{cost_allowed, nexts_allowed, weights_allowed, open_size}
use Rattle.questions.specs.Ranges.{and-true}
use Rattle.actions.specs.Action.{next_allowed, weights_fit, cost_up_to}
use Rattle.actions.proofs.Steps.{fit_bound, cost-asked, bound_asked, nexts_are, weights_are, ten, eleven, twelve, thirteen, zero-all}
use Rattle.actions.proofs.action_number.Goals as goal
use Rattle.actions.proofs.action_number.Goals.{Start}

-- what is known of the action
module _ (s : goal.Start) where
  abbrev ws : Words
  ws = s.args.b.now

  abbrev n : ℕ
  n = s.args.q.n

  -- its line
  abbrev j : ℕ
  j = s.args.at - s.args.z.columns

  line : s.args.at ≡ s.args.z.columns + j
  line = omega (arith, s.requires.2.from)

  -- its lines fit both columns
  bound : s.args.at + s.args.z.l + 1 + s.args.r ≤ length ws
  unfolding line_after
  bound =
      let a = s.requires.1 in
      omega (arith, line, fit_bound ws n j s.requires.2.fit, s.requires.2.r_is, a.columns_is, a.l_is, s.requires.0.exact)

  long : length ws ≤ 4172
  long = omega (arith, s.requires.0.exact, s.requires.0.h_high, s.requires.0.s_high, s.requires.0.l_high)

  -- the questions 10 and 13, by the size that was read
  module _ (size : ℕ) (read : size ≡ open_size (word ws (s.args.at + s.args.z.l))) where
    at_cost : s.args.at + s.args.z.l ≡ s.args.z.columns + j + s.args.z.l
    at_cost = omega (arith, line)

    cost : leb size 100000 ≡ cost_allowed ws n j
    cost = cost-asked ws s.args.z s.requires.1 n j _ size at_cost read

    cost_yes : size ≤ 100000 → cost_allowed ws n j ≡ true
    cost_yes l = sym cost ∙ le-leb size 100000 l

    bounded : leb size s.args.q.most ≡ cost_up_to s.args.q.most ws n j
    bounded = bound_asked ws s.args.z s.requires.1 n j _ size at_cost read s.args.q.most

  -- 11
  nexts : all s.args.r (next_allowed ws (s.args.at + 1) s.args.q.width) ≡ nexts_allowed ws n j
  nexts =
      nexts_are ws s.args.z s.requires.1 n j _ _ _ (omega (arith, line)) s.requires.2.r_is s.requires.2.width_is

  -- 11 and 12
  lines : (all s.args.r (next_allowed ws (s.args.at + 1) s.args.q.width) && weights_fit ws (s.args.at + 1 + s.args.z.l) s.args.r s.args.z.d)
      ≡ (nexts_allowed ws n j && weights_allowed ws n j)
  lines =
      ap₂ ◌&&◌ nexts
      (weights_are ws s.args.z s.requires.1 n j s.requires.2.fit _ _ (omega (arith, line)) s.requires.2.r_is)

pub overflow_add-at : goal.overflow_add-at
overflow_add-at c = let s = (goal.at.overflow_add-at c).Start in omega (arith, bound s, long s)

pub open_size-size-requires : goal.open_size-size-requires
open_size-size-requires c = let s = (goal.at.open_size-size-requires c).Start in omega (arith, bound s)

pub returns-then-size-gt-MOST_COST : goal.returns-then-size-gt-MOST_COST
returns-then-size-gt-MOST_COST c =
    let s = (goal.at.returns-then-size-gt-MOST_COST c).Start in
    ten s.args.q.most (ws s) (n s) (j s) s.requires.2.fit
    (sym (cost s _ c.open_size-size.ensures) ∙ lt-leb _ 100000 c.if-size-gt-MOST_COST.true)

pub overflow_add-at-2 : goal.overflow_add-at-2
overflow_add-at-2 c = let s = (goal.at.overflow_add-at-2 c).Start in omega (arith, bound s, long s)

pub lines_allowed-requires : goal.lines_allowed-requires
lines_allowed-requires c = let s = (goal.at.lines_allowed-requires c).Start in (omega (arith, bound s), long s)

pub overflow_add-at-then-not-lines_allowed : goal.overflow_add-at-then-not-lines_allowed
overflow_add-at-then-not-lines_allowed c =
    let s = (goal.at.overflow_add-at-then-not-lines_allowed c).Start in omega (arith, bound s, long s)

pub nexts_allowed-requires : goal.nexts_allowed-requires
nexts_allowed-requires c = let s = (goal.at.nexts_allowed-requires c).Start in (omega (arith, bound s), long s)

pub returns-then-not-nexts_allowed : goal.returns-then-not-nexts_allowed
returns-then-not-nexts_allowed c =
    let s = (goal.at.returns-then-not-nexts_allowed c).Start in
    eleven s.args.q.most (ws s) (n s) (j s) s.requires.2.fit
    (cost_yes s _ c.open_size-size.ensures c.if-size-gt-MOST_COST.false)
    (sym (c.nexts_allowed.ensures ∙ nexts s) ∙ c.if-not-nexts_allowed.true)

pub returns-then-not-lines_allowed : goal.returns-then-not-lines_allowed
returns-then-not-lines_allowed c =
    let s = (goal.at.returns-then-not-lines_allowed c).Start in
    let g = sym (c.nexts_allowed.ensures ∙ nexts s) ∙ c.if-not-nexts_allowed.false in
    twelve s.args.q.most (ws s) (n s) (j s) s.requires.2.fit
    (cost_yes s _ c.open_size-size.ensures c.if-size-gt-MOST_COST.false) g
    (rw g at (sym (c.lines_allowed.ensures ∙ lines s) ∙ c.if-not-lines_allowed.true))

pub returns-then-q-size : goal.returns-then-q-size
returns-then-q-size c =
    let s = (goal.at.returns-then-q-size c).Start in
    let g = and-true _ _ (sym (c.lines_allowed.ensures ∙ lines s) ∙ c.if-not-lines_allowed.false) in
    thirteen s.args.q.most (ws s) (n s) (j s) s.requires.2.fit
    (cost_yes s _ c.open_size-size.ensures c.if-size-gt-MOST_COST.false) g.0 g.1
    (sym (bounded s _ c.open_size-size.ensures) ∙ lt-leb _ s.args.q.most c.if-q-size.true)

pub returns : goal.returns
returns c =
    let s = (goal.at.returns c).Start in
    let g = and-true _ _ (sym (c.lines_allowed.ensures ∙ lines s) ∙ c.if-not-lines_allowed.false) in
    zero-all s.args.q.most (ws s) (n s) (j s) s.requires.2.fit
    (cost_yes s _ c.open_size-size.ensures c.if-size-gt-MOST_COST.false) g.0 g.1
    (sym (bounded s _ c.open_size-size.ensures) ∙ le-leb _ s.args.q.most c.if-q-size.false)
