-- Printing a book, and filing it and printing its record, give the same page.
-- Assumes nothing.
use Rattle.std.specs.Prelude.{◌≡◌, refl, Bool, true, false, cond, List, ℕ, zero, suc, ◌-◌, ◌/◌, ◌^◌, ◌<◌, ltb, pos, negsuc, length, take, drop}
use Rattle.std.proofs.Common.{ap₂, arith, ltb-true, ltb-false}
use Rattle.std.specs.Int.Signed.{mag}
use Rattle.model.specs.Bytes.{from_bytes, signed, words_of}
use Rattle.model.specs.Page.{list_page, most_input, input_count, input_book, input_number, page, filed, record_page}
use Rattle.laws.specs.Members.{Every}
use Rattle.asked.specs.Asked.{asked_says}
use Rattle.record.specs.Demand2.{written_accepted}
use Rattle.input.specs.Read.{passes}

-- every word that is read has 32 bits
small : (x : ℕ) → mag (signed x) < 2 ^ 31
small x = go (ltb x 2147483648) refl
  where
    go : (b : Bool) → ltb x 2147483648 ≡ b → mag (cond b (pos x) (negsuc (4294967295 - x))) < 2 ^ 31
    go true e = omega (arith, ltb-true x 2147483648 e)
    go false e = omega (arith, ltb-false x 2147483648 e)

words_small : (n : ℕ) (bs : List ℕ) → Every (λ z. mag z < 2 ^ 31) (words_of n bs)
words_small zero bs = tt
words_small (suc n) bs = (small (from_bytes (take 4 bs)), words_small n (drop 4 bs))

book_small : (input : List ℕ) → Every (λ z. mag z < 2 ^ 31) (input_book input)
unfolding input_book
book_small input = words_small (length (take most_input input) / 4 - 1) (drop 4 (take most_input input))

-- "the same page as printing K and its book"
pub filed-page : (input : List ℕ) → input_number input ≡ 0 → record_page (filed input) ≡ page input
unfolding record_page filed page
filed-page input e =
    let a = asked_says (input_book input) (input_count input) (passes input e) in
    let w = written_accepted (input_book input) a.ok (book_small input) (input_count input) a.low a.high a.has in
    rw (e, w.number) (ap₂ list_page w.book w.asked)
