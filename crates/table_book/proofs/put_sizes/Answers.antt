-- Each size is small.
-- Assumes nothing.
use mathlib.Core.Path.{◌≡◌}
use Prim.Native.Nat.{ℕ, ◌≤◌}
use native.Mathlib.Omega.{arith}
use lib.IntN.{pos}
use mir.Syntax.{w32}
use mir.Val.{to_z}
use mir.Facts.{to_z_pos}
use Rattle.table_book.proofs.Puts.{sizes_put}
use Rattle.table_book.proofs.put_sizes.Goals as goal

pub returns : goal.returns
returns c =
    let a = c.args in
    let q = c.requires in
    let fit : (k : ℕ) → k ≤ 32768 → to_z w32 k ≡ pos k = λ k l. to_z_pos w32 {n = k} (omega arith) in
    sizes_put a.out.now q.4 (fit a.z.d (omega (arith, q.0))) (fit a.z.h (omega (arith, q.1))) (fit a.lines q.3) (fit a.z.n (omega (arith, q.2)))
    (c.fill.ensures.after (λ y h. h))
