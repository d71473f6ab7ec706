-- The stages after stage n are those still to come, at most 8.
-- Assumes nothing.
use mathlib.Core.Path.{sym, ap₂, ◌∙◌}
use Prim.Native.Nat.{◌-◌, ◌^◌}
use native.Mathlib.Omega.{arith}
use Rattle.model.specs.Model.{togo}
use Rattle.accepted.specs.Facts.{accepted}
use Rattle.book.proofs.Stages.{for_stage}
use Rattle.costs.proofs.unit_by.Goals as goal

pub raised-requires : goal.raised-requires
raised-requires c =
    let s = c in
    let z = s.requires.0.sizes in
    let a = (accepted s.args.b.now s.requires.0.ok).sizes in
    (omega (arith, z.d_is, a.d_high), omega (arith, z.h_is, a.h_high))

pub returns : goal.returns
unfolding togo
returns c =
    let s = c in
    c.raised.ensures
    ∙ ap₂ ◌^◌ s.requires.0.sizes.d_is (ap₂ ◌-◌ s.requires.0.sizes.h_is (sym (for_stage s.args.b.now s.args.p s.args.t s.requires.1)))
