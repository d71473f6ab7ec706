-- Each size is the word of its place; the columns begin after the action counts.
-- Assumes nothing.
use mathlib.Core.Path.{ap₂}
use Prim.Native.Nat.{◌+◌}
use native.Mathlib.Omega.{arith}
use Rattle.model.specs.Model.{scale, horizon, line_count}
use Rattle.book.proofs.read_sizes.Goals as goal

pub states-s-requires : goal.states-s-requires
unfolding horizon
states-s-requires c = let e = c.size_at-h.ensures.is in (e, omega (arith, e), omega (arith, e))

pub returns : goal.returns
unfolding scale horizon line_count
returns c =
    let h = c.size_at-h.ensures.is in
    let s = c.states-s.ensures.0 in
    record {
      d_is = c.size_at.ensures.is;
      h_is = h;
      l_is = c.size_at-2.ensures.is;
      s_is = s;
      columns_is = ap₂ (λ h s. 4 + h + s) h s;
    }
