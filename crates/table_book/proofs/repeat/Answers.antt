-- Assumes nothing.
use mathlib.Core.Path.{◌≡◌, ap, ◌∙◌}
use Prim.Native.Nat.{ℕ, ◌+◌, ◌*◌, ◌-◌}
use native.Mathlib.Omega.{arith}
use lib.ListN.{take, drop, length-drop}
use lib.Seq.{length-take-le}
use Rattle.bytes_io.specs.Slices.{written}
use Rattle.table_book.proofs.Repeats.{rep_step, rep_kept, rep_end}
use Rattle.table_book.proofs.repeat.Goals as goal

pub loop-k-preserved : goal.loop-k-preserved
loop-k-preserved c =
    let w = c.args.count in
    let from = c.args.from in
    let o = c.args.out.now in
    let at = from + w + c.loop-k.k * w in
    let e : from + w - from ≡ w = omega arith in
    rep_step _ _ _ _ _ c.requires c.loop-k.invariant (length-take-le w (drop from o) (omega (arith, length-drop from o, c.requires)))
    c.loop-k-test.true
    (c.copy_within.ensures.after ∙ ap (λ (n : ℕ). written c.loop-k.out at n (take n (drop from c.loop-k.out))) e
    ∙ ap (written c.loop-k.out at w) (rep_kept _ _ _ _ _ c.requires c.loop-k.invariant from w (omega arith)))

pub returns : goal.returns
returns c = rep_end _ _ _ _ _ c.requires c.loop-k.invariant (omega arith)
