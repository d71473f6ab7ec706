-- Assumes nothing.
use mathlib.Core.Path.{◌≡◌, refl, sym, ap, ◌∙◌}
use mathlib.Core.List.{List, [], ◌∷◌}
use Prim.Native.Nat.{ℕ, ◌+◌, ◌-◌, ◌*◌, ◌<◌}
use native.Mathlib.Decide.{dec_lt}
use native.Mathlib.Omega.{arith}
use borrow.Author.Tests.{lt-ltb, le-ltb, eq-eqb, ne_eqb}
use lib.ListN.{length, take, drop}
use Rattle.std.specs.Cmp.{nat_cmp_is}
use Rattle.std.specs.Cmp.Lexicographic.{slice_cmp}
use Rattle.std.specs.Ordering.{is_lt, nat_cmp}
use Rattle.std.proofs.Common.{Less, Equal, Greater}
use Rattle.model.specs.Order.{lower}
use Rattle.pool.proofs.Rows.{row_long}
use Rattle.pool.proofs.lower_bytes.Goals as goal

-- of two runs of the same length the order of slices is that of plans
ordered : (xs ys : List ℕ) → length xs ≡ length ys → is_lt (slice_cmp nat_cmp xs ys) ≡ lower xs ys
ordered [] [] e = refl
ordered [] (y ∷ ys) e = absurd (omega arith)
ordered (x ∷ xs) [] e = absurd (omega arith)
ordered (x ∷ xs) (y ∷ ys) e = go (dec_lt x y) (dec_lt y x) (ordered xs ys (omega arith))
  where
    go : Dec (x < y) → Dec (y < x) → is_lt (slice_cmp nat_cmp xs ys) ≡ lower xs ys → is_lt (slice_cmp nat_cmp (x ∷ xs) (y ∷ ys)) ≡ lower (x ∷ xs) (y ∷ ys)
    go (yes l) g r = rw (sym (nat_cmp_is x y Less l), lt-ltb x y l)
    go (no n) (yes g) r = rw (sym (nat_cmp_is x y Greater g), le-ltb x y (omega arith), ne_eqb x y (λ h. omega arith))
    go (no n) (no m) r =
        let h : x ≡ y = omega arith in
        rw (sym (nat_cmp_is x y Equal h), le-ltb x y (omega arith), eq-eqb x y h) r

pub returns : goal.returns
returns c =
    let bs = c.args.plan.now in
    let at = c.args.j * 64 in
    let size : at + length bs - at ≡ length bs = omega arith in
    c.is_lt.ensures
    ∙ ap is_lt (c.cmp.ensures ∙ ap (λ (n : ℕ). slice_cmp nat_cmp bs (take n (drop at c.args.plans.now))) size)
    ∙ ordered bs _ (sym (row_long (length bs) c.args.plans.now c.args.j c.told-plans c.requires.0 c.requires.1))
