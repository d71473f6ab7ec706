-- The first state, the stages between, and the closings.
-- Assumes nothing.
use mathlib.Core.Path.{◌≡◌, refl, ap, ap₂, ◌∙◌}
use Prim.Native.Nat.{ℕ, ◌+◌, ◌*◌, ◌-◌, ◌≤◌, ◌<◌}
use native.Mathlib.Omega.{arith}
use mathlib.Core.List.{List, ◌++◌}
use lib.IntN.{ℤ, pos}
use lib.Signed.{mag}
use lib.ListN.{length, get_or, take, drop, replicate, length-drop, length-replicate}
use lib.Seq.{length-take-le}
use Rattle.laws.specs.Joined.{copies_long}
use Rattle.model.specs.Model.{Words}
use Rattle.bytes_io.specs.Slices.{written}
use Rattle.reward_table.specs.Read.{Given, TableRead}
use Rattle.reward_table.specs.declared.Table.{Table}
use Rattle.table_book.specs.Columns.{repeated}
use Rattle.table_book.proofs.Lists.{last_row}
use Rattle.table_book.proofs.Puts.{Puts, put_long, put_more, one_copied, part_filled, counts_of}
use borrow.Author.Rules.{rules}
use Rattle.table_book.proofs.put_counts.Goals as goal

module _ (t : Words) (z : Table) (g : Given t) (r : TableRead t z) where
  -- the rows of n counts are H in all
  rows : z.h * z.n ≡ (z.h - 1) * z.n + z.n
  rows = last_row z.h z.n (omega (arith, g.h_low, r.h_is))

  module _ (o : List ℤ) (at : ℕ) (room : at + (1 + z.h * z.n) ≤ length o) where
    first_put : {o₁ : List ℤ} → o₁ ≡ written o at 1 (take 1 (drop (5 + z.first) t)) → Puts o at 1 (take 1 (drop (5 + z.first) t)) o₁
    first_put e =
        record {
          is = e;
          count = length-take-le 1 (drop (5 + z.first) t) (omega (arith, length-drop (5 + z.first) t, g.exact, g.first_low, r.first-is));
          fits = omega (arith, room);
        }

    later_put : {o₁ o₂ : List ℤ} → o₁ ≡ written o at 1 (take 1 (drop (5 + z.first) t))
        → o₂ ≡ written o₁ (at + 1) ((z.h - 1) * z.n) (repeated (z.h - 1) (take z.n (drop 5 t)))
        → Puts o at (1 + (z.h - 1) * z.n) (take 1 (drop (5 + z.first) t) ++ repeated (z.h - 1) (take z.n (drop 5 t))) o₂
    later_put e₁ e₂ =
        let m = z.h - 1 in
        let xs = take z.n (drop 5 t) in
        put_more (first_put e₁) _ (m * z.n) (repeated m xs) e₂ refl
        (copies_long m xs ∙ ap (λ (k : ℕ). m * k) (length-take-le z.n (drop 5 t) (omega (arith, length-drop 5 t, g.exact, r.n_is))))
        (omega (arith, rows, room))

pub returns : goal.returns
returns c =
    let g = c.requires.0 in
    let r = c.requires.1 in
    let z = c.args.z in
    let t = c.args.t.now in
    let o = c.args.out.now in
    let at = c.args.at in
    let m = z.h - 1 in
    let w = rows t z g r in
    let fits : mag (get_or t (5 + z.first) (pos 0)) < 2147483648 = search rules in
    let one = one_copied o t at (5 + z.first) (omega (arith, c.requires.2)) (omega (arith, g.exact, g.first_low, r.first-is)) fits in
    let p = later_put t z g r o at c.requires.2 one c.put_later_counts.ensures in
    let i : at + 1 + m * z.n ≡ at + (1 + m * z.n) = omega arith in
    let e = part_filled c.put_later_counts.new.out (at + 1 + m * z.n) z.n (pos 1) (omega (arith, put_long p, w, c.requires.2)) (c.fill.ensures.after (λ y h. h)) in
    let q : 1 + m * z.n + z.n ≡ 1 + z.h * z.n = omega (arith, w) in
    (put_more p (at + 1 + m * z.n) z.n (replicate z.n (pos 1)) e i (length-replicate z.n (pos 1)) (omega (arith, w, c.requires.2))).is
    ∙ ap₂ (written o at) q (counts_of t z r)
