-- The lines of the first state, those of the stages between, and the closing lines.
-- Assumes nothing.
use mathlib.Core.Path.{◌≡◌, refl, sym, ap, ap₂, ◌∙◌}
use mathlib.Core.Bool.{Bool}
use Prim.Native.Nat.{ℕ, ◌+◌, ◌*◌, ◌-◌, ◌≤◌}
use native.Mathlib.Omega.{arith}
use mathlib.Core.List.{List, ◌++◌}
use lib.IntN.{ℤ}
use lib.ListN.{length}
use Rattle.laws.specs.Joined.{copies_long}
use Rattle.model.specs.Model.{Words}
use Rattle.bytes_io.specs.Slices.{written}
use Rattle.reward_table.specs.declared.Table.{Table}
use Rattle.table_book.specs.Columns.{column_from, repeated}
use Rattle.table_book.specs.Read.{Passed, Made}
use Rattle.table_book.specs.declared.Sizes.{Sizes}
use Rattle.table_book.proofs.Entries.{column_long}
use Rattle.table_book.proofs.Puts.{Puts, put_long, put_more, first_run, later-run, last-run, lines_split, column_of_lem}
use borrow.Author.Rules.{rules}
use Rattle.table_book.proofs.put_column.Goals as goal

-- ---- one part after another

module _ (t : Words) (z : Table) (s : Sizes) (p : Passed t z) (m : Made t s) (right : Bool) (o : List ℤ) (at : ℕ) (room : at + s.lines ≤ length o) where
  split : s.lines ≡ s.first + (z.h - 1) * s.body + z.n
  split = lines_split p m

  first_put : {o₁ : List ℤ} → o₁ ≡ written o at s.first (column_from t right s.from s.first)
      → Puts o at s.first (column_from t right s.from s.first) o₁
  first_put e = record { is = e; count = column_long t right s.from s.first; fits = omega (arith, split, room) }

  stages_put : {o₁ o₂ : List ℤ} → o₁ ≡ written o at s.first (column_from t right s.from s.first)
      → o₂ ≡ written o₁ (at + s.first) ((z.h - 1) * s.body) (repeated (z.h - 1) (column_from t right 0 s.body))
      → Puts o at (s.first + (z.h - 1) * s.body) (column_from t right s.from s.first ++ repeated (z.h - 1) (column_from t right 0 s.body)) o₂
  stages_put e₁ e₂ =
      let k = z.h - 1 in
      let xs = column_from t right 0 s.body in
      put_more (first_put e₁) (at + s.first) (k * s.body) (repeated k xs) e₂ refl
      (copies_long k xs ∙ ap (λ (i : ℕ). k * i) (column_long t right 0 s.body)) (omega (arith, split, room))

  all_put : {o₁ o₂ o₃ : List ℤ} → o₁ ≡ written o at s.first (column_from t right s.from s.first)
      → o₂ ≡ written o₁ (at + s.first) ((z.h - 1) * s.body) (repeated (z.h - 1) (column_from t right 0 s.body))
      → o₃ ≡ written o₂ (at + s.first + (z.h - 1) * s.body) z.n (column_from t right s.body z.n)
      → Puts o at (s.first + (z.h - 1) * s.body + z.n)
      (column_from t right s.from s.first ++ repeated (z.h - 1) (column_from t right 0 s.body) ++ column_from t right s.body z.n) o₃
  all_put e₁ e₂ e₃ =
      let k = z.h - 1 in
      let i : at + s.first + k * s.body ≡ at + (s.first + k * s.body) = omega arith in
      put_more (stages_put e₁ e₂) (at + s.first + k * s.body) z.n (column_from t right s.body z.n) e₃ i (column_long t right s.body z.n)
      (omega (arith, split, room))

pub put_lines-requires : goal.put_lines-requires
put_lines-requires c =
    let p = c.requires.0 in
    let m = c.requires.1 in
    (p.given, p.read, (first_run p m).0, (first_run p m).1, omega (arith, lines_split p m, c.requires.2))

pub overflow_add-at : goal.overflow_add-at
overflow_add-at c = search (rules, lines_split c.requires.0 c.requires.1, c.requires.2)

pub put_stages-requires : goal.put_stages-requires
put_stages-requires c =
    let p = c.requires.0 in
    let m = c.requires.1 in (
      p.given,
      p.read,
      (later-run p m).0,
      (later-run p m).1,
      omega (
        arith,
        lines_split p m,
        put_long (first_put _ _ _ p m c.args.right _ _ c.requires.2 c.put_lines.ensures),
        c.requires.2,
      ),
    )

pub overflow_add-at-2 : goal.overflow_add-at-2
overflow_add-at-2 c = search (rules, lines_split c.requires.0 c.requires.1, c.requires.2)

pub overflow_mul-z : goal.overflow_mul-z
overflow_mul-z c = search (rules, lines_split c.requires.0 c.requires.1, c.requires.2)

pub overflow_add-at-3 : goal.overflow_add-at-3
overflow_add-at-3 c = search (rules, lines_split c.requires.0 c.requires.1, c.requires.2)

pub put_lines-requires-2 : goal.put_lines-requires-2
put_lines-requires-2 c =
    let p = c.requires.0 in
    let m = c.requires.1 in (
      p.given,
      p.read,
      (last-run p m).0,
      (last-run p m).1,
      omega (
        arith,
        lines_split p m,
        put_long (stages_put _ _ _ p m c.args.right _ _ c.requires.2 c.put_lines.ensures c.put_stages.ensures),
        c.requires.2,
      ),
    )

pub returns : goal.returns
returns c =
    let p = c.requires.0 in
    let m = c.requires.1 in
    (all_put _ _ _ p m c.args.right _ _ c.requires.2 c.put_lines.ensures c.put_stages.ensures c.put_lines-2.ensures).is
    ∙ ap₂ (written c.args.out.now c.args.at) (sym (lines_split p m)) (column_of_lem c.args.t.now c.args.z c.args.s p.read m c.args.right)
