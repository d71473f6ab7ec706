-- The sizes, the counts and the two columns, one after another.
-- Assumes nothing.
use mathlib.Core.Path.{◌≡◌, ap, ◌∙◌}
use mathlib.Core.Bool.{true, false}
use Prim.Native.Nat.{◌+◌, ◌*◌, ◌≤◌}
use native.Mathlib.Omega.{arith}
use mathlib.Core.List.{List, ◌++◌}
use lib.IntN.{ℤ}
use lib.ListN.{length}
use Rattle.model.specs.Calls.{over}
use Rattle.model.specs.Model.{Words}
use Rattle.bytes_io.specs.Slices.{written}
use Rattle.reward_table.specs.declared.Table.{Table}
use Rattle.table_book.specs.Columns.{book_column, book_counts, book_sizes}
use Rattle.table_book.specs.Read.{Passed, Made}
use Rattle.table_book.specs.declared.Sizes.{Sizes}
use Rattle.table_book.proofs.Puts.{Puts, put_more, put_front, sizes_count, states_split, book_of, counts_count, column_count}
use Rattle.table_book.proofs.Puts.{length_split}
use Rattle.table_book.proofs.put_book.Goals as goal

-- ---- one part after another

module _ (t : Words) (z : Table) (s : Sizes) (p : Passed t z) (m : Made t s) (o : List ℤ) (room : s.length ≤ length o) where
  sizes_put : {o₁ : List ℤ} → o₁ ≡ written o 0 (4 + z.h) (book_sizes z.d z.h z.n s.lines) → Puts o 0 (4 + z.h) (book_sizes z.d z.h z.n s.lines) o₁
  sizes_put e = record { is = e; count = sizes_count z.d z.h z.n s.lines; fits = omega (arith, length_split p m, room) }

  counts_put : {o₁ o₂ : List ℤ} → o₁ ≡ written o 0 (4 + z.h) (book_sizes z.d z.h z.n s.lines)
      → o₂ ≡ written o₁ (4 + z.h) (1 + z.h * z.n) (book_counts t)
      → Puts o 0 (4 + z.h + s.states) (book_sizes z.d z.h z.n s.lines ++ book_counts t) o₂
  counts_put e₁ e₂ =
      put_more (sizes_put e₁) (4 + z.h) s.states (book_counts t) (rw (states_split p m) e₂) (omega arith) (counts_count p m)
      (omega (arith, length_split p m, room))

  left_put : {o₁ o₂ o₃ : List ℤ} → o₁ ≡ written o 0 (4 + z.h) (book_sizes z.d z.h z.n s.lines)
      → o₂ ≡ written o₁ (4 + z.h) (1 + z.h * z.n) (book_counts t)
      → o₃ ≡ written o₂ (4 + z.h + s.states) s.lines (book_column t false)
      → Puts o 0 (4 + z.h + s.states + s.lines) (book_sizes z.d z.h z.n s.lines ++ book_counts t ++ book_column t false) o₃
  left_put e₁ e₂ e₃ =
      put_more (counts_put e₁ e₂) (4 + z.h + s.states) s.lines (book_column t false) e₃ (omega arith) (column_count p m false)
      (omega (arith, length_split p m, room))

  right_put : {o₁ o₂ o₃ o₄ : List ℤ} → o₁ ≡ written o 0 (4 + z.h) (book_sizes z.d z.h z.n s.lines)
      → o₂ ≡ written o₁ (4 + z.h) (1 + z.h * z.n) (book_counts t)
      → o₃ ≡ written o₂ (4 + z.h + s.states) s.lines (book_column t false)
      → o₄ ≡ written o₃ (4 + z.h + s.states + s.lines) s.lines (book_column t true)
      → Puts o 0 (4 + z.h + s.states + s.lines + s.lines)
      (book_sizes z.d z.h z.n s.lines ++ book_counts t ++ book_column t false ++ book_column t true) o₄
  right_put e₁ e₂ e₃ e₄ =
      put_more (left_put e₁ e₂ e₃) (4 + z.h + s.states + s.lines) s.lines (book_column t true) e₄ (omega arith) (column_count p m true)
      (omega (arith, length_split p m, room))

pub returns : goal.returns
returns c =
    let p = c.requires.0 in
    let m = c.requires.1 in
    put_front (right_put _ _ _ p m _ c.requires.2 c.put_sizes.ensures c.put_counts.ensures c.put_column.ensures c.put_column-2.ensures)
    ∙ ap (λ (xs : List ℤ). over xs c.args.out.now) (book_of p m)
