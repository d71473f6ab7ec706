-- Assumes nothing.
use mathlib.Core.Path.{◌≡◌, refl, sym, ap, ◌∙◌, subst}
use Prim.Native.Nat.{ℕ, zero, suc, ◌+◌, ◌-◌, ◌≤◌, ◌<◌}
use native.Mathlib.Omega.{arith}
use lib.ListN.{length, take, drop, get_or, set, replicate}
use lib.Seq.{get_or-take, get_or-drop}
use Rattle.model.specs.Model.{Words, state_count, action}
use Rattle.model.specs.Policy.{Policy}
use Rattle.model.specs.Path.{byte_at}
use Rattle.model.specs.Limit.{first_mark, mark_of}
use Rattle.accepted.specs.Bytes.{byte_is}
use Rattle.accepted.specs.Facts.{accepted}
use Rattle.accepted.specs.Shape.{shape}
use Rattle.path_sums.specs.Most.{most_next}
use Rattle.path_sums.specs.Books.{most_from}
use Rattle.path_sums.proofs.Books.{over_from}
use Rattle.marks.specs.Marks.{number_at, MostTo}
use Rattle.marks.proofs.Counts.{mark_step, mark_inside}
use Rattle.marks.proofs.Pass.{figure, stored, kept, few}
use Rattle.marks.proofs.most.Goals as goal
use Rattle.marks.proofs.most.Goals.{After-count-n}

zero_at : (n q : ℕ) → number_at (replicate n 0) q ≡ 0
zero_at zero q = refl
zero_at (suc n) zero = refl
zero_at (suc n) (suc q) = zero_at n q

pub loop-p-init : goal.loop-p-init
loop-p-init c =
    let e : c.args.z.s ≡ state_count c.args.b.now = c.requires.0.checked.sizes.s_is in (
      c.requires.1.one_each ∙ ap (first_mark c.args.b.now) (sym e),
      record { long = refl; done = λ q a b. absurd (omega (arith, e)); left = λ q a. zero_at 64 q },
    )

-- the state before the last one done, which is p - 1
module _ (c : After-count-n) where
  abbrev ws : Words
  ws = c.args.b.now

  abbrev p : ℕ
  p = c.loop-p.p - 1

  abbrev bs : Policy
  bs = take (state_count ws) (drop c.args.at c.args.plans.now)

  abbrev choice : ℕ
  choice = get_or c.args.plans.now (c.args.at + p) 0

  -- where its marks begin
  abbrev first : ℕ
  first = c.loop-p.first - c.count-n.result

  here : p < state_count ws
  here = omega (arith, c.requires.0.checked.sizes.s_is)

  due : c.loop-p.first ≡ first_mark ws p + c.count-n.result
  due =
      let k : c.loop-p.p ≡ p + 1 = omega arith in
      omega (arith, ap (first_mark ws) k, mark_step ws p)

  first_is : first ≡ first_mark ws p
  first_is = omega (arith, due)

  byte : byte_at bs p ≡ choice
  byte =
      get_or-take (state_count ws) (drop c.args.at c.args.plans.now) p 255 here
      ∙ get_or-drop c.args.at c.args.plans.now p 255
      ∙ byte_is c.args.plans.now (c.args.at + p) 255 0 (omega (arith, here))

  later : MostTo ws c.args.marks.now bs (p + 1) c.loop-p.v
  later =
      let e : c.loop-p.p ≡ p + 1 = omega arith in
      subst (λ (n : ℕ). MostTo ws c.args.marks.now bs n c.loop-p.v) e c.loop-p.invariant.1

  -- the mark of an action lies among the marks
  inside : choice < c.count-n.result → first + choice < length c.args.marks.now
  inside h = omega (arith, first_is, c.requires.1.one_each, mark_inside ws p here)

  -- the figure of the state
  module _ (h : choice < c.count-n.result) (most : ℕ) (most_is : most ≡ most_next (number_at c.loop-p.v) (action ws p choice).transitions) where
    is : get_or c.args.marks.now (first + choice) 0 + most ≡ most_from ws (mark_of ws c.args.marks.now) bs p
    is =
        omega (
          arith,
          most_is,
          figure ws c.requires.0.checked.ok c.args.marks.now bs p choice byte c.loop-p.v later (omega arith) (get_or c.args.marks.now (first + choice) 0)
              (ap (λ (i : ℕ). get_or c.args.marks.now (i + choice) 0) first_is),
        )

    small : get_or c.args.marks.now (first + choice) 0 + most ≤ 9
    small = omega (arith, is, few ws c.requires.0.checked.ok c.args.marks.now c.requires.1 bs p)

    set_is : MostTo ws c.args.marks.now bs p (set c.loop-p.v p (get_or c.args.marks.now (first + choice) 0 + most))
    set_is = stored ws c.requires.0.checked.ok c.args.marks.now bs p choice byte c.loop-p.v later here (accepted ws c.requires.0.checked.ok).sizes.s_high _ is

  stays : c.count-n.result ≤ choice → MostTo ws c.args.marks.now bs p c.loop-p.v
  stays h = kept ws c.requires.0.checked.ok c.args.marks.now bs p choice byte c.loop-p.v later (omega arith)

pub overflow_sub-first : goal.overflow_sub-first
overflow_sub-first c = omega (arith, due (goal.at.overflow_sub-first c).After-count-n)

pub bounds-marks-first : goal.bounds-marks-first
bounds-marks-first c = inside (goal.at.bounds-marks-first c).After-count-n c.if-c-n.true

pub overflow_add-v : goal.overflow_add-v
overflow_add-v c = omega (arith, small (goal.at.overflow_add-v c).After-count-n c.if-c-n.true c.most_next.result c.most_next.ensures)

pub offset_bounds-v-p : goal.offset_bounds-v-p
offset_bounds-v-p c = omega (arith, here (goal.at.offset_bounds-v-p c).After-count-n, (accepted c.args.b.now c.requires.0.checked.ok).sizes.s_high)

pub bounds-v-p : goal.bounds-v-p
bounds-v-p c = omega (arith, here (goal.at.bounds-v-p c).After-count-n, (accepted c.args.b.now c.requires.0.checked.ok).sizes.s_high)

pub loop-p-preserved-then-c-n : goal.loop-p-preserved-then-c-n
loop-p-preserved-then-c-n c =
    let a = (goal.at.loop-p-preserved-then-c-n c).After-count-n in
    (first_is a, set_is a c.if-c-n.true c.most_next.result c.most_next.ensures)

pub loop-p-preserved : goal.loop-p-preserved
loop-p-preserved c =
    let a = (goal.at.loop-p-preserved c).After-count-n in
    (first_is a, stays a c.if-c-n.false)

pub returns : goal.returns
returns c =
    let ok = c.requires.0.checked.ok in
    c.loop-p.invariant.1.done 0 (omega arith) (shape c.args.b.now ok).some_state ∙ sym (over_from _ ok _ _)
