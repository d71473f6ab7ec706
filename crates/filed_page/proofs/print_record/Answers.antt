-- The refusal, or the list of the carried book, which passes the questions 1 to 14 and 28 since the record is accepted.
-- Assumes nothing.
use mathlib.Core.Path.{◌≡◌, sym, ap, ap₂, ◌∙◌}
use mathlib.Core.List.{List}
use Prim.Native.Nat.{ℕ, ◌≤◌}
use native.Mathlib.Omega.{arith}
use lib.ListN.{length, take}
use lib.Seq.{length-take-le}
use Rattle.std.proofs.Common.{rules}
use Rattle.refusal.specs.Refusal.{number_of, some_number}
use Rattle.model.specs.Model.{Words}
use Rattle.model.specs.Record.{carried_book, carried_length, accept_number}
use Rattle.model.specs.Page.{list_page, record_page}
use Rattle.asked.specs.Asked.{Asked}
use Rattle.record.specs.Passed.{AcceptedRecord, head_passed, accept_says}
use Rattle.page_lines.specs.Put.{put_same}
use Rattle.filed_page.proofs.print_record.Goals as goal

pub returns-in-Err : goal.returns-in-Err
unfolding record_page
returns-in-Err c =
    let q : number_of c.in-Err.q ≡ accept_number c.args.r.now = search rules in
    let e : c.from.result ≡ accept_number c.args.r.now = c.from.ensures ∙ q in
    put_same e (λ z. absurd (some_number c.in-Err.q (q ∙ z))) c.put_page.ensures

good : (r : List ℕ) → 0 ≡ accept_number r → AcceptedRecord r
good r e = accept_says r (sym e)

pub read_book-requires : goal.read_book-requires
read_book-requires c = let a = good c.args.r.now (search rules) in (head_passed _ a.head, omega arith)

pub carried_length-requires : goal.carried_length-requires
carried_length-requires c = (good c.args.r.now (search rules)).head.long

pub carried_k-k-requires : goal.carried_k-k-requires
carried_k-k-requires c = (good c.args.r.now (search rules)).head.long

pub slice_bounds-words-end : goal.slice_bounds-words-end
slice_bounds-words-end c =
    let a = good c.args.r.now (search rules) in
    omega (arith, a.head.words, c.carried_length.ensures.0, c.read_book.ensures.1)

pub slice_bounds-book-end : goal.slice_bounds-book-end
slice_bounds-book-end c =
    let a = good c.args.r.now (search rules) in
    sym (length-take-le _ _ (omega (arith, a.head.words, c.carried_length.ensures.0, c.read_book.ensures.1)))

-- the first words of the array are the carried book
book_is : (ws : Words) (r : List ℕ) {n : ℕ} → n ≡ carried_length r → take (carried_length r) ws ≡ carried_book r → take n ws ≡ carried_book r
book_is ws r e b = ap (λ (n : ℕ). take n ws) e ∙ b

asked_of : {ws ws' : Words} {k k' : ℕ} → ws ≡ ws' → k ≡ k' → Asked ws' k' → Asked ws k
asked_of b e a = rw (b, e) a

pub put_page-requires-2 : goal.put_page-requires-2
put_page-requires-2 c _ =
    let a = good c.args.r.now (search rules) in
    asked_of (book_is _ c.args.r.now c.carried_length.ensures.0 c.read_book.ensures.0) c.carried_k-k.ensures.0 a.asked

pub returns : goal.returns
unfolding record_page
returns c =
    let e : 0 ≡ accept_number c.args.r.now = search rules in
    put_same e (λ _. ap₂ list_page (book_is _ c.args.r.now c.carried_length.ensures.0 c.read_book.ensures.0) c.carried_k-k.ensures.0)
    c.put_page-2.ensures
