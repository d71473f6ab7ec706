-- Assumes nothing.
use mathlib.Core.Path.{◌≡◌, refl, sym, ap, ap₂, ◌∙◌, subst}
use Prim.Native.Nat.{ℕ, ◌+◌, ◌-◌, ◌≤◌, ◌<◌}
use native.Mathlib.Omega.{arith}
use lib.IntN.{nat_abs}
use lib.ListN.{length}
use Rattle.model.specs.Model.{Words, word, stage, action_count, action_line, branches}
use Rattle.model.specs.Questions.{branches_allowed}
use Rattle.check_book.specs.Walk.{Progress}
use Rattle.actions.specs.Action.{action_number}
use Rattle.book.proofs.Columns.{count_is, branches_are}
use Rattle.check_book.proofs.Progress.{step, stop}
use Rattle.check_book.proofs.walk_state.Goals as goal
use Rattle.check_book.proofs.walk_state.Goals.{At-loop-c}

pub loop-c-init : goal.loop-c-init
loop-c-init c = c.requires.3

-- the action that the walk has come to
module _ (l : goal.At-loop-c) where
  -- the count that was read is the definition's
  count : l.size_at-count.result ≡ action_count l.args.b.now l.args.p
  count =
      count_is l.args.b.now l.args.z.h l.args.p l.size_at-count.result l.requires.1.h_is l.size_at-count.ensures.is

  abbrev ws : Words
  ws = l.args.b.now

  abbrev at : ℕ
  at = l.loop-c.w.at

  abbrev n : ℕ
  n = stage ws l.args.p

  abbrev j : ℕ
  j = action_line ws l.args.p l.loop-c._c

  -- its line by its word
  line : at - l.args.z.columns ≡ j
  line = omega (arith, l.loop-c.invariant.at-is)

  from : l.args.z.columns ≤ at
  from = omega (arith, l.loop-c.invariant.at-is)

  to : at ≤ l.args.z.columns + l.args.z.l
  to = omega (arith, l.loop-c.invariant.at-is, l.loop-c.invariant.inside, l.requires.1.l_is)

  within : at < length ws
  within = omega (arith, to, l.requires.1.l_is, l.requires.1.columns_is, l.requires.0.exact, l.requires.0.l_low)

  long : length ws ≤ 4172
  long = omega (arith, l.requires.0.exact, l.requires.0.h_high, l.requires.0.s_high, l.requires.0.l_high)

  -- 9
  fit : branches_allowed ws l.args.q.n (at - l.args.z.columns) ≡ branches_allowed ws n j
  fit = ap₂ (branches_allowed ws) (sym l.requires.2.stage_is) line

  -- r
  read : (r : ℕ) → r ≡ nat_abs (word ws at) → r ≡ branches ws (at - l.args.z.columns)
  read r e =
      let k : l.args.z.columns + (at - l.args.z.columns) ≡ at = omega (arith, from) in
      branches_are ws l.args.z l.requires.1 (at - l.args.z.columns) r (rw k e)

  -- 10 to 13
  number : action_number l.args.q.most ws l.args.q.n (at - l.args.z.columns) ≡ action_number l.args.q.most ws n j
  number = ap₂ (action_number l.args.q.most ws) (sym l.requires.2.stage_is) line

pub action_fits-requires : goal.action_fits-requires
action_fits-requires c =
    let l = (goal.at.action_fits-requires c).At-loop-c in
    (c.requires.0, c.requires.1, record { from = from l; to = to l })

pub returns-then-not-action_fits : goal.returns-then-not-action_fits
returns-then-not-action_fits c =
    let l = (goal.at.returns-then-not-action_fits c).At-loop-c in
    record {
      no_is = refl;
      unfit =
          stop (ws l) c.args.p c.loop-c._c c.requires.2.state (omega (arith, count l))
          (sym (c.action_fits.ensures ∙ fit l) ∙ c.if-not-action_fits.true);
    }

pub size_at-r-requires : goal.size_at-r-requires
size_at-r-requires c = within (goal.at.size_at-r-requires c).At-loop-c

pub action_number-answer-requires : goal.action_number-answer-requires
action_number-answer-requires c =
    let l = (goal.at.action_number-answer-requires c).At-loop-c in (
      c.requires.0,
      c.requires.1,
      record {
        from = from l;
        fit = sym c.action_fits.ensures ∙ c.if-not-action_fits.false;
        r_is = read l c.size_at-r.result c.size_at-r.ensures.is;
        width_is = c.requires.2.width_is;
      },
    )

pub overflow_add-w : goal.overflow_add-w
overflow_add-w c = let l = (goal.at.overflow_add-w c).At-loop-c in omega (arith, within l, long l)

pub overflow_add-w-in-loop-c : goal.overflow_add-w-in-loop-c
overflow_add-w-in-loop-c c =
    let l = (goal.at.overflow_add-w-in-loop-c c).At-loop-c in
    omega (arith, within l, long l, c.size_at-r.ensures.small)

pub loop-c-preserved : goal.loop-c-preserved
loop-c-preserved c =
    let l = (goal.at.loop-c-preserved c).At-loop-c in
    step (ws l) c.args.p c.loop-c._c c.args.z c.args.q.most c.loop-c.w c.loop-c.invariant
    (sym (c.action_fits.ensures ∙ fit l) ∙ c.if-not-action_fits.false)
    _ (c.action_number-answer.ensures ∙ number l) _ c.lower.ensures
    (ap (λ k. at l + 1 + k) (read l c.size_at-r.result c.size_at-r.ensures.is ∙ ap (branches (ws l)) (line l)))

pub returns : goal.returns
returns c =
    let l = (goal.at.returns c).At-loop-c in
    let e : c.loop-c._c ≡ action_count (ws l) c.args.p = omega (arith, count l) in
    subst (λ n. Progress (ws l) c.args.z c.args.q.most c.args.p n c.loop-c.w) e c.loop-c.invariant
