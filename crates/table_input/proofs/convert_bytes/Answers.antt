-- The first 16,472 bytes count.
-- Assumes nothing.
use mathlib.Core.Path.{◌≡◌, ap, ◌∙◌}
use Prim.Native.Nat.{ℕ}
use native.Mathlib.Omega.{arith}
use lib.ListN.{take}
use Rattle.std.proofs.lemmas.List.{take_min}
use Rattle.page_lines.specs.Put.{too_short}
use Rattle.table_input.specs.Bytes.{most_table, most_book}
use Rattle.table_input.proofs.Counted.{front}
use Rattle.table_input.proofs.convert_bytes.Goals as goal

pub returns-then-out-lt-MOST_BOOK : goal.returns-then-out-lt-MOST_BOOK
returns-then-out-lt-MOST_BOOK c = too_short most_book _ _ c.if-out-lt-MOST_BOOK.true

pub returns : goal.returns
returns c =
    let r = c.args.r.now in
    let e : take c.min.result r ≡ take most_table r = ap (λ (n : ℕ). take n r) (omega arith) ∙ take_min most_table r in
    front r (rw e at c.convert_counted.ensures)
