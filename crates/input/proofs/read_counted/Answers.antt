-- Whole words, of which the first is the count and the others the book.
-- Assumes nothing.
use mathlib.Core.Path.{◌≡◌, refl, sym, ap₂, ◌∙◌}
use Prim.Native.Nat.{◌-◌, ◌/◌, ◌≤◌}
use native.Mathlib.Omega.{arith}
use lib.ListN.{length, replicate}
use lib.IntN.{pos}
use lib.Seq.{length-take-le}
use Rattle.model.specs.Record.{asked_number}
use Rattle.model.specs.Page.{input_number}
use Rattle.input.proofs.Whole.{too_short, left_over, asked, count_is, book_is, refused}
use Rattle.input.proofs.read_counted.Goals as goal
use Rattle.input.proofs.read_counted.Goals.{then-r-lt4-via-then-r-lt4, then-r-lt4-via-else-r-lt4+then-r-ne0}

pub returns-then-r-lt4 : goal.returns-then-r-lt4
returns-then-r-lt4 c =
    let e : 1 ≡ input_number c.args.r.now = elim c.then-r-lt4.branch [
      | then-r-lt4-via-then-r-lt4 w ↦ too_short c.args.r.now c.requires w.if-r-lt4.true
      | then-r-lt4-via-else-r-lt4+then-r-ne0 w ↦ left_over c.args.r.now c.requires w.if-r-lt4.false w.if-r-ne0.true
    ] in
    refused refl e

pub returns : goal.returns
returns c =
    let r = c.args.r.now in
    let w = c.read_words.ensures in
    let words = book_is r c.requires (replicate 4173 (pos 0)) w.0 in
    let count = c.read4-k.ensures.0 ∙ count_is r c.requires in
    let inside : length r / 4 - 1 ≤ length c.read_words.new.out = omega (arith, w.1, c.requires) in
    record {
      inside = inside;
      counted = sym (length-take-le _ _ inside);
      number = ap₂ asked_number words count ∙ asked r c.requires c.if-r-lt4.false c.if-r-ne0.false;
      count = λ _. count;
      words = λ _. words;
    }
