-- Assumes nothing.
use mathlib.Core.Path.{◌≡◌, refl, sym, ap, ◌∙◌, subst}
use Prim.Native.Nat.{ℕ, ◌+◌, ◌-◌}
use native.Mathlib.Omega.{arith}
use lib.ListN.{set, replicate}
use Rattle.model.specs.Lists.{is_empty, up_from}
use Rattle.model.specs.Model.{Words}
use Rattle.model.specs.Recursion.{feasible}
use Rattle.accepted.specs.Facts.{accepted}
use Rattle.sets.specs.Sets.{free}
use Rattle.feasible.specs.Barred.{BarredFrom}
use Rattle.feasible.proofs.Sets.{barred_none, barred_dead}
use Rattle.feasible.proofs.find_barred.Goals as goal
use Rattle.feasible.proofs.find_barred.Goals.{After-none_left}

pub loop-p-init : goal.loop-p-init
loop-p-init c =
    let ws = c.args.b.now in
    let off = replicate 64 0 in (
      (accepted ws c.requires.checked.ok).sizes.s_high,
      subst (λ (n : ℕ). BarredFrom ws n off 0) (sym c.requires.checked.sizes.s_is) (barred_none ws off refl),
    )

pub none_left-requires : goal.none_left-requires
none_left-requires c =
    omega (arith, c.count-n.ensures, (accepted c.args.b.now c.requires.checked.ok).counts_high (c.loop-p.p - 1) (omega arith))

-- the sets of the states after this one, and whether it has an action left
module _ (c : goal.After-none_left) where
  abbrev ws : Words
  ws = c.args.b.now

  abbrev p : ℕ
  p = c.loop-p.p - 1

  later : BarredFrom ws (p + 1) c.loop-p.off c.loop-p.dead
  later = let e : c.loop-p.p ≡ p + 1 = omega arith in subst (λ (n : ℕ). BarredFrom ws n c.loop-p.off c.loop-p.dead) e c.loop-p.invariant.1

  empty : c.none_left.result ≡ is_empty (feasible ws p)
  empty =
      c.none_left.ensures
      ∙ ap (λ (n : ℕ). is_empty (free c.barred_at-mask.result (up_from 0 n))) c.count-n.ensures
      ∙ ap is_empty c.barred_at-mask.ensures

pub loop-p-preserved-then-none_left : goal.loop-p-preserved-then-none_left
loop-p-preserved-then-none_left c =
    let a = (goal.at.loop-p-preserved-then-none_left c).After-none_left in (
      c.loop-p.invariant.0,
      subst (BarredFrom (ws a) (p a) (set c.loop-p.off (p a) c.barred_at-mask.result)) (sym c.with-dead.ensures)
          (barred_dead (ws a) (p a) (omega arith) c.loop-p.off c.loop-p.dead c.barred_at-mask.result (later a) c.barred_at-mask.ensures
          (sym (empty a) ∙ c.if-none_left.true)),
    )
