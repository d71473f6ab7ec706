-- The programs: from the bytes of standard input to those of standard output.
-- Assumes nothing.
use Rattle.std.specs.Prelude.{ℕ, zero, suc, ◌+◌, ◌-◌, ◌^◌, ◌/◌, ◌%◌, Bool, ◌&&◌, cond, List, [], ◌∷◌, ◌++◌, ℤ, pos, negsuc, eqb, leb, ltb, length, take, drop, get_or}
use Rattle.model.specs.Lists.{for_each}
use Rattle.model.specs.Bytes.{from_bytes, words_of}
use Rattle.model.specs.Model.{Words, scale, horizon}
use Rattle.model.specs.Questions.{first_no, and_then}
use Rattle.model.specs.Policy.{Policy}
use Rattle.model.specs.Path.{policy_cost}
use Rattle.model.specs.Order.{ranking}
use Rattle.model.specs.Record.{record_bytes, carried_k, carried_book, asked_number, accept_number}
use Rattle.model.specs.Standing.{Answer, is_rank, costs_more, takes_higher, answer_value, standing}
use Rattle.model.specs.Limit.{Limit, Kept, kept_at, none_listed, none_in_book, first_kept}
use Rattle.model.specs.Calls.{over, policy_questions, limit_questions}

-- a number in base ten, of at most f digits
abbrev pub digits : ℕ → ℕ → List ℕ
digits zero n = []
digits (suc f) n = cond (ltb n 10) ((48 + n) ∷ []) (digits f (n / 10) ++ ((48 + n % 10) ∷ []))

-- every number that is printed is below 10^20
unfoldable pub decimal : ℕ → List ℕ
decimal n = digits 20 n

abbrev pub signed_decimal : ℤ → List ℕ
signed_decimal (pos n) = decimal n
signed_decimal (negsuc n) = 45 ∷ decimal (suc n)

-- "each post's choice, with `-` for 255", after a space
abbrev pub choice_text : ℕ → List ℕ
choice_text b = 32 ∷ cond (eqb b 255) (45 ∷ []) (decimal b)

-- "rank from 1, cost, then each post's choice"; "Every line, a refusal's too, ends with one line feed."
unfoldable pub policy_line : Words → ℕ → Policy → List ℕ
policy_line ws rank p = decimal rank ++ (32 ∷ signed_decimal (policy_cost ws p)) ++ for_each choice_text p ++ (10 ∷ [])

unfoldable pub policy_lines : Words → ℕ → List Policy → List ℕ
policy_lines ws rank [] = []
policy_lines ws rank (p ∷ ps) = policy_line ws rank p ++ policy_lines ws (suc rank) ps

-- `N of K, scale D^H`: "First line: k, K, D^H."
unfoldable pub title_line : Words → ℕ → List ℕ
title_line ws k =
    decimal (length (ranking ws k)) ++ (32 ∷ 111 ∷ 102 ∷ 32 ∷ []) ++ decimal k
    ++ (44 ∷ 32 ∷ 115 ∷ 99 ∷ 97 ∷ 108 ∷ 101 ∷ 32 ∷ []) ++ decimal (scale ws ^ horizon ws) ++ (10 ∷ [])

-- "prints `refused` and its number"
abbrev pub refused_line : ℕ → List ℕ
refused_line n = (114 ∷ 101 ∷ 102 ∷ 117 ∷ 115 ∷ 101 ∷ 100 ∷ 32 ∷ []) ++ decimal n ++ (10 ∷ [])

-- the bytes that are due where no question is answered no, else "`refused` and its number"
abbrev pub or_refused : ℕ → List ℕ → List ℕ
or_refused zero due = due
or_refused (suc n) due = refused_line (suc n)

-- the list of a book and K
unfoldable pub list_page : Words → ℕ → List ℕ
list_page ws k = title_line ws k ++ policy_lines ws 1 (ranking ws k)

-- ---- the bytes that a program reads: "K (four bytes, unsigned), then a book"

-- "Only the first 16,696 bytes count (one word beyond the longest book)"
abbrev pub most_input : ℕ
most_input = 16696

-- "Fewer than four bytes, or a leftover of one to three, prints `refused 1`."
abbrev pub whole_words : List ℕ → Bool
whole_words read = leb 4 (length read) && eqb (length read % 4) 0

-- K and the book of an input of whole words
unfoldable pub input_count : List ℕ → ℕ
input_count input = from_bytes (take 4 (take most_input input))

unfoldable pub input_book : List ℕ → Words
input_book input = words_of (length (take most_input input) / 4 - 1) (drop 4 (take most_input input))

-- 1 for any other input, else "1 to 14" and 28
unfoldable pub input_number : List ℕ → ℕ
input_number input = cond (whole_words (take most_input input)) (asked_number (input_book input) (input_count input)) 1

-- ---- the programs that print and file: from the bytes read to the bytes written

-- "The program reads standard input": K and a book in, the printed page out
unfoldable pub page : List ℕ → List ℕ
page input = or_refused (input_number input) (list_page (input_book input) (input_count input))

-- K and a book in, the record of both out
unfoldable pub filed : List ℕ → List ℕ
filed input = or_refused (input_number input) (record_bytes (input_book input) (input_count input))

-- a record in, the page of the K and the book that it carries out; refused by the number that accepting gives
unfoldable pub record_page : List ℕ → List ℕ
record_page bs = or_refused (accept_number bs) (list_page (carried_book bs) (carried_k bs))

-- ---- request 2.8: the length of a plan in one byte, the plan, then K and a book as above

unfoldable pub input_plan : List ℕ → Policy
input_plan input = take (get_or input 0 0) (drop 1 input)

unfoldable pub after_plan : List ℕ → List ℕ
after_plan input = drop (1 + get_or input 0 0) input

-- 1 where no K and no whole words follow the plan, else 1 to 14 and 28, then 17
unfoldable pub plan_number : List ℕ → ℕ
plan_number input = and_then (input_number (after_plan input)) (first_no (policy_questions (input_book (after_plan input))) (input_plan input))

-- `rank `, `more ` and `post `
abbrev pub answer_word : Answer → List ℕ
answer_word (is_rank j) = 114 ∷ 97 ∷ 110 ∷ 107 ∷ 32 ∷ []
answer_word (costs_more z) = 109 ∷ 111 ∷ 114 ∷ 101 ∷ 32 ∷ []
answer_word (takes_higher p) = 112 ∷ 111 ∷ 115 ∷ 116 ∷ 32 ∷ []

-- then the rank, the amount or the post
unfoldable pub answer_line : Answer → List ℕ
answer_line a = answer_word a ++ signed_decimal (answer_value a) ++ (10 ∷ [])

-- a plan, K and a book in, one line out
unfoldable pub plan_line : List ℕ → List ℕ
plan_line input = or_refused (plan_number input) (answer_line (standing (input_book (after_plan input)) (input_count (after_plan input)) (input_plan input)))

-- ---- request 2.10: m in one byte, how many marks there are in two, the marks, then K and a book as above

unfoldable pub mark_count : List ℕ → ℕ
mark_count input = from_bytes (take 2 (drop 1 input))

unfoldable pub input_limit : List ℕ → Limit
input_limit input = record { marks = take (mark_count input) (drop 3 input); most = get_or input 0 0 }

unfoldable pub after_marks : List ℕ → List ℕ
after_marks input = drop (3 + mark_count input) input

-- 1 where no K and no whole words follow the marks, else 1 to 14 and 28, then 29
unfoldable pub marks_number : List ℕ → ℕ
marks_number input = and_then (input_number (after_marks input)) (first_no (limit_questions (input_book (after_marks input))) (input_limit input))

-- `rank ` and the rank, `none in the list`, `none in the book`
abbrev pub kept_text : Kept → List ℕ
kept_text (kept_at j) = (114 ∷ 97 ∷ 110 ∷ 107 ∷ 32 ∷ []) ++ decimal j
kept_text none_listed = 110 ∷ 111 ∷ 110 ∷ 101 ∷ 32 ∷ 105 ∷ 110 ∷ 32 ∷ 116 ∷ 104 ∷ 101 ∷ 32 ∷ 108 ∷ 105 ∷ 115 ∷ 116 ∷ []
kept_text none_in_book = 110 ∷ 111 ∷ 110 ∷ 101 ∷ 32 ∷ 105 ∷ 110 ∷ 32 ∷ 116 ∷ 104 ∷ 101 ∷ 32 ∷ 98 ∷ 111 ∷ 111 ∷ 107 ∷ []

unfoldable pub kept_line : Kept → List ℕ
kept_line a = kept_text a ++ (10 ∷ [])

-- m, marks, K and a book in, one line out
unfoldable pub limit_line : List ℕ → List ℕ
limit_line input = or_refused (marks_number input) (kept_line (first_kept (input_book (after_marks input)) (input_count (after_marks input)) (input_limit input)))

-- ---- a text at the front of a lent slice that has `most` places or more; a shorter one gets nothing

-- more than any page has
abbrev pub most_page : ℕ
most_page = 90112

-- more than any one line has that says a number
abbrev pub most_line : ℕ
most_line = 40

-- as many as the longest record has, "at most 21,308"
abbrev pub most_record : ℕ
most_record = 21308

unfoldable pub put_length : ℕ → List ℕ → ℕ → ℕ
put_length most text room = cond (leb most room) (length text) 0

unfoldable pub put_slice : ℕ → List ℕ → List ℕ → List ℕ
put_slice most text slice = cond (leb most (length slice)) (over text slice) slice
