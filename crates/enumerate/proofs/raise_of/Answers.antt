-- Assumes nothing.
use mathlib.Core.Path.{◌≡◌, refl, ap, ◌∙◌}
use mathlib.Core.Bool.{Bool, true, false}
use mathlib.Core.Option.{none}
use Prim.Native.Nat.{ℕ, ◌-◌, ◌<◌}
use native.Mathlib.Omega.{arith}
use borrow.Author.Tests.{eqb-true, eqb-false}
use lib.Dec.{eqb}
use Rattle.model.specs.Model.{Words}
use Rattle.model.specs.Policy.{Policy}
use Rattle.next_policy.specs.Books.{higher_at}
use Rattle.enumerate.proofs.raise_of.Invariants.{NoneFrom}
use Rattle.enumerate.proofs.raise_of.Goals as goal

one_more : (ws : Words) (bs : Policy) (p : ℕ) → 0 < p → NoneFrom ws bs p → higher_at ws bs (p - 1) ≡ none → NoneFrom ws bs (p - 1)
one_more ws bs p l h e q k m = go (eqb q (p - 1)) refl
  where
    go : (t : Bool) → eqb q (p - 1) ≡ t → higher_at ws bs q ≡ none
    go true z = ap (higher_at ws bs) (eqb-true q (p - 1) z) ∙ e
    go false z = h q (let n = eqb-false q (p - 1) z in omega arith) m

pub loop-p-init : goal.loop-p-init
loop-p-init c = let s = c in (omega (arith, s.requires.0.sizes.s_is), λ q h l. absurd (omega (arith, s.requires.0.sizes.s_is)))

pub higher_at-c-requires : goal.higher_at-c-requires
higher_at-c-requires c =
    let l = c in
    let s = l in
    (s.requires.0, s.requires.1, s.requires.2, omega (arith, l.loop-p.invariant.0, c.loop-p-test.true))

pub returns-then-c-ne255 : goal.returns-then-c-ne255
returns-then-c-ne255 c =
    let l = c in
    let t = c.loop-p-test.true in
    record {
      inside = omega (arith, l.loop-p.invariant.0, t);
      higher = c.higher_at-c.ensures.there c.if-c-ne255.true;
      after = λ q h k. l.loop-p.invariant.1 q (omega arith) k;
    }

pub loop-p-preserved : goal.loop-p-preserved
loop-p-preserved c =
    let l = c in
    let s = l in (
      omega (arith, l.loop-p.invariant.0),
      one_more s.args.b.now s.args.plan.now l.loop-p.p (omega (arith, c.loop-p-test.true)) l.loop-p.invariant.1
          (c.higher_at-c.ensures.absent c.if-c-ne255.false),
    )

pub returns : goal.returns
returns c = λ q k. c.loop-p.invariant.1 q (omega (arith, c.loop-p-test.false)) k
