-- The filed record, and what is read of one.
-- Assumes nothing.
use Rattle.std.specs.Prelude.{ℕ, ◌+◌, ◌*◌, ◌&&◌, List, [], ◌∷◌, ◌++◌, eqb, leb, length, take, drop}
use Rattle.model.specs.Lists.{for_each, same}
use Rattle.model.specs.Bytes.{bytes, signed_bytes, from_bytes, words_of}
use Rattle.model.specs.Model.{Words, state_count}
use Rattle.model.specs.Questions.{Question, first_no, and_then, book_number}
use Rattle.model.specs.Policy.{Policy, has_policy}
use Rattle.model.specs.Order.{ranking, ranking_costs}

-- "two parallel arrays: k costs of eight bytes, two's complement, low byte first, and k plans of S bytes"
unfoldable pub list_bytes : Words → ℕ → List ℕ
list_bytes ws k = for_each (signed_bytes 8) (ranking_costs ws k) ++ for_each (λ (p : Policy). p) (ranking ws k)

-- "Sizes first: W (the book's words), K, k, as unsigned four-byte numbers, low byte first. Then the book."
unfoldable pub record_bytes : Words → ℕ → List ℕ
record_bytes ws k =
    bytes 4 (length ws) ++ bytes 4 k ++ bytes 4 (length (ranking ws k)) ++ for_each (signed_bytes 4) ws ++ list_bytes ws k

-- ---- what the bytes of a record carry

unfoldable pub carried_length : List ℕ → ℕ
carried_length bs = from_bytes (take 4 bs)

unfoldable pub carried_k : List ℕ → ℕ
carried_k bs = from_bytes (take 4 (drop 4 bs))

unfoldable pub carried_count : List ℕ → ℕ
carried_count bs = from_bytes (take 4 (drop 8 bs))

unfoldable pub carried_book : List ℕ → Words
carried_book bs = words_of (carried_length bs) (drop 12 bs)

-- where the list begins
unfoldable pub list_start : List ℕ → ℕ
list_start bs = 12 + 4 * carried_length bs

-- where plan j begins, in bytes that list k plans of s bytes
abbrev pub plan_start : List ℕ → ℕ → ℕ → ℕ → ℕ
plan_start bs s k j = list_start bs + 8 * k + j * s

-- ---- the questions

-- 14: "is K allowed?"
abbrev pub count_questions : List (Question ℕ)
count_questions = record { number = 14; asks = λ k. leb 1 k && leb k 64 } ∷ []

-- 28 of request 2.7: "Ranking, writing and accepting get 28, earlier questions passed, exactly if the book has no plan"
abbrev pub plan_questions : List (Question Words)
plan_questions = record { number = 28; asks = has_policy } ∷ []

-- what ranking, writing and accepting ask of a book and a count: "1 to 14", then 28, "asked after 14 and before any slice or question 20"
unfoldable pub asked_number : Words → ℕ → ℕ
asked_number ws k = and_then (book_number ws) (and_then (first_no count_questions k) (first_no plan_questions ws))

-- 19: "are there 12 bytes, is W at most 4,172, and do 4 × W bytes follow?"
abbrev pub head_questions : List (Question (List ℕ))
head_questions =
    record { number = 19; asks = λ bs. leb 12 (length bs) && leb (carried_length bs) 4172 && leb (list_start bs) (length bs) }
    ∷ []

-- 20: "is k from 1 to K and the length exact?" 21: "Are costs, plans and k those that ranking gives?"
abbrev pub tail_questions : List (Question (List ℕ))
tail_questions =
    record {
      number = 20;
      asks = λ bs. leb 1 (carried_count bs) && leb (carried_count bs) (carried_k bs)
          && eqb (length bs) (list_start bs + 8 * carried_count bs + carried_count bs * state_count (carried_book bs));
    }
    ∷ record {
      number = 21;
      asks = λ bs. eqb (carried_count bs) (length (ranking (carried_book bs) (carried_k bs)))
          && same (drop (list_start bs) bs) (list_bytes (carried_book bs) (carried_k bs));
    }
    ∷ []

-- "Accepting a record asks: .. 19. Then 1 to 13 of the carried book, then 14 of its K, then: .. 20. .. 21." 28 comes after 14.
unfoldable pub accept_number : List ℕ → ℕ
accept_number bs =
    and_then (first_no head_questions bs) (and_then (asked_number (carried_book bs) (carried_k bs)) (first_no tail_questions bs))
