-- Assumes nothing.
use mathlib.Core.Path.{◌≡◌, refl, sym, ap, ◌∙◌}
use Prim.Native.Nat.{ℕ, ◌+◌, ◌≤◌}
use native.Mathlib.Omega.{arith}
use Rattle.questions.specs.Ranges.{all_fails, all_more}
use Rattle.reward_table.specs.Table.{table_count, table_after, table_action_line}
use Rattle.reward_table.specs.Read.{entry_given, state_given}
use Rattle.reward_table.specs.Says.{after_is, entry_says, action_line_lem, action-first, state_line_lem}
use Rattle.reward_table.proofs.Facts.{branches_at, count_at}
use Rattle.reward_table.proofs.walk_state.Goals as goal
use Rattle.reward_table.proofs.walk_state.Goals.{After-size_at-count, Else-not-entry_given}

count_is : (c : goal.After-size_at-count) → c.size_at-count.result ≡ table_count c.args.t.now c.args.s
count_is c = count_at c.args.t.now c.args.s c.size_at-count.result c.size_at-count.ensures.is

-- the action at line `at` is as asked, so its lines fit
fit : (c : goal.Else-not-entry_given) → table_after c.args.t.now c.loop-c.at ≤ c.args.z.l
fit c = omega (arith, (entry_says c.args.t.now c.loop-c.at (sym c.entry_given.ensures ∙ c.if-not-entry_given.false)).fit, c.requires.1.l_is)

pub loop-c-init : goal.loop-c-init
loop-c-init c = (c.requires.3 ∙ sym (action-first c.args.t.now c.args.s), c.requires.4, refl)

pub returns-then-not-entry_given : goal.returns-then-not-entry_given
unfolding state_given
returns-then-not-entry_given c =
    let t = c.args.t.now in
    let asks = λ (k : ℕ). entry_given t (table_action_line t c.args.s k) in
    let n = count_is (goal.at.returns-then-not-entry_given c).After-size_at-count in
    record {
      ok_is =
          sym
          (all_fails (table_count t c.args.s) asks c.loop-c._c (omega (arith, n))
          (ap (entry_given t) (sym c.loop-c.invariant.0) ∙ sym c.entry_given.ensures ∙ c.if-not-entry_given.true));
      at-is = tt;
      small = tt;
    }

pub size_at-requires : goal.size_at-requires
size_at-requires c =
    let e = (goal.at.size_at-requires c).Else-not-entry_given in
    omega (arith, fit e, after_is c.args.t.now c.loop-c.at, c.requires.0.exact, c.requires.1.columns_is, c.requires.1.l_is)

pub loop-c-preserved : goal.loop-c-preserved
loop-c-preserved c =
    let e = (goal.at.loop-c-preserved c).Else-not-entry_given in
    let t = c.args.t.now in
    let a = c.loop-c.at in
    let r = branches_at t c.args.z c.requires.1 a c.size_at.result c.size_at.ensures.is in
    let q : a + (1 + c.size_at.result) ≡ table_after t a = omega (arith, r, after_is t a) in (
      q ∙ ap (table_after t) c.loop-c.invariant.0 ∙ sym (action_line_lem t c.args.s c.loop-c._c),
      omega (arith, fit e, q, c.requires.0.l_high, c.requires.1.l_is),
      all_more c.loop-c._c (λ (k : ℕ). entry_given t (table_action_line t c.args.s k)) c.loop-c.invariant.2
          (ap (entry_given t) (sym c.loop-c.invariant.0) ∙ sym c.entry_given.ensures ∙ c.if-not-entry_given.false),
    )

pub returns : goal.returns
unfolding state_given
returns c =
    let t = c.args.t.now in
    let e : c.loop-c._c ≡ table_count t c.args.s = omega (arith, count_is (goal.at.returns c).After-size_at-count) in
    record {
      ok_is = sym (rw e at c.loop-c.invariant.2);
      at-is = (rw e at c.loop-c.invariant.0) ∙ sym (state_line_lem t c.args.s);
      small = c.loop-c.invariant.1;
    }
