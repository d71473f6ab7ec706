-- A word that is not below 0 is its own size.
-- Assumes nothing.
use mathlib.Core.Path.{◌≡◌, refl}
use Prim.Native.Nat.{ℕ, ◌^◌, ◌≤◌, ◌<◌}
use native.Mathlib.Omega.{arith}
use lib.Dec.{T}
use lib.IntN.{ℤ, pos, negsuc, nat_abs}
use lib.Signed.{mag, non_neg}
use lib.ListN.{get_or}
use mir.Syntax.{w32}
use mir.Val.{SFits}
use Rattle.std.proofs.Common.{rules}
use Rattle.model.specs.Model.{word}
use Rattle.book.proofs.Words.{read32, abs_mag}
use Rattle.index.specs.Index.{NotBelow0}
use Rattle.index.proofs.plain_at.Goals as goal

sign : (z : ℤ) → NotBelow0 z → T (non_neg z)
sign (pos n) e = tt
sign (negsuc n) e = let z : ◌≡◌ {A = ℕ} 0 1 = cc in absurd (omega arith)

small : (z : ℤ) → mag z < 2 ^ 31 → nat_abs z ≤ 2147483648
small z h = omega (arith, abs_mag z)

pub overflow_cast-result : goal.overflow_cast-result
unfolding word
overflow_cast-result c =
    let z = get_or c.args.b.now c.args.i (pos 0) in
    let f : SFits w32 z = search rules in
    rw (read32 z f.sfits) (sign z c.requires.1, omega (arith, small z f.sfits))

pub returns : goal.returns
unfolding word
returns c =
    let z = get_or c.args.b.now c.args.i (pos 0) in
    let f : SFits w32 z = search rules in
    rw (read32 z f.sfits) (record { is = refl; small = small z f.sfits })
