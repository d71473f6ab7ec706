-- The twelve tours of document 01, as document 02 changes them, books with closed choices and books with depots: three tables of calls and answers, and one
-- proof, by computation, that the definitions yield them.
-- Assumes nothing.
use Rattle.std.specs.Prelude.{ℕ, ◌+◌, ◌*◌, ◌≡◌, refl, List, [], ◌∷◌, ◌++◌, map, pos, negsuc, set, replicate}
use Rattle.model.specs.Lists.{for_each, up_from}
use Rattle.model.specs.Bytes.{bytes, signed_bytes}
use Rattle.model.specs.Model.{Words, word, scale, horizon, line_count, stage_size, first_state, state_count, stage, togo, action_count, left, right}
use Rattle.model.specs.Model.{branches, line_after, skip, state_line, action_line, transition_at, read_action, action, options}
use Rattle.model.specs.Questions.{first_no, sizes_allowed, length_allowed, count_allowed, counts_allowed, every_action, branches_allowed, lines_allowed}
use Rattle.model.specs.Questions.{cost_allowed, nexts_allowed, weight_sum, weights_allowed, largest_cost, costs_bounded, book_number}
use Rattle.model.specs.Policy.{is_policy, policies, has_policy}
use Rattle.model.specs.Path.{taken, paths, policy_cost}
use Rattle.model.specs.Order.{comes_before, ranking, ranking_costs}
use Rattle.model.specs.Record.{list_bytes, record_bytes, carried_length, carried_k, carried_count, carried_book, list_start, asked_number, accept_number}
use Rattle.model.specs.Page.{decimal, policy_line, policy_lines, title_line, list_page, input_count, input_book, input_number, page}
use Rattle.model.specs.Calls.{Room, value_number, value_cost, least_number, least_cost, rank_number, rank_count, rank_costs, rank_plans, write_number}
use Rattle.model.specs.Calls.{write_length, write_record, accept_states, accept_count}
use Rattle.tours.specs.Answer.{Call, check, value, least, rank, write, accept, print, Answer, refused, good, cost, listed, slice, record_of}
use Rattle.tours.specs.Answer.{printed, answer}

-- ---- the books

abbrev words : List ℕ → Words
words ns = map pos ns

-- A is 2, 1, 7, 1, 2, 2, 1, 1, then left 2, 0, 1, 1, 0, 0, 0, right 10, 1, 1, 12, 2, 4, 9
abbrev pub book_a : Words
book_a = words (2 ∷ 1 ∷ 7 ∷ 1 ∷ 2 ∷ 2 ∷ 1 ∷ 1 ∷ 2 ∷ 0 ∷ 1 ∷ 1 ∷ 0 ∷ 0 ∷ 0 ∷ 10 ∷ 1 ∷ 1 ∷ 12 ∷ 2 ∷ 4 ∷ 9 ∷ [])

-- C: D = 1, H = 2, posts 1, 2, 1. Post 0: cost 5 to post 1, or cost 3 to post 2. Post 1: cost 1 or 4. Post 2: cost 2. Closing 0.
abbrev pub book_c : Words
book_c =
    words
    ((1 ∷ 2 ∷ 11 ∷ 1 ∷ 2 ∷ 1 ∷ 2 ∷ 2 ∷ 1 ∷ 1 ∷ [])
    ++ (1 ∷ 0 ∷ 1 ∷ 1 ∷ 1 ∷ 0 ∷ 1 ∷ 0 ∷ 1 ∷ 0 ∷ 0 ∷ [])
    ++ (5 ∷ 1 ∷ 3 ∷ 1 ∷ 1 ∷ 1 ∷ 4 ∷ 1 ∷ 2 ∷ 1 ∷ 0 ∷ []))

-- tour 10: D = 100, H = 8, one post a stage, every cost c
abbrev pub book_e : ℕ → Words
book_e c =
    words
    ((100 ∷ 8 ∷ 17 ∷ []) ++ replicate 18 1
    ++ (1 ∷ 0 ∷ 1 ∷ 0 ∷ 1 ∷ 0 ∷ 1 ∷ 0 ∷ 1 ∷ 0 ∷ 1 ∷ 0 ∷ 1 ∷ 0 ∷ 1 ∷ 0 ∷ 0 ∷ [])
    ++ (c ∷ 100 ∷ c ∷ 100 ∷ c ∷ 100 ∷ c ∷ 100 ∷ c ∷ 100 ∷ c ∷ 100 ∷ c ∷ 100 ∷ c ∷ 100 ∷ c ∷ []))

-- ---- the bytes

-- what the printing program reads
abbrev file_of : ℕ → Words → List ℕ
file_of k ws = bytes 4 k ++ for_each (signed_bytes 4) ws

-- "2 of 3, scale 2", "1 32 1 0 -", "2 33 0 0 0"
abbrev pub page_a : List ℕ
page_a =
    (50 ∷ 32 ∷ 111 ∷ 102 ∷ 32 ∷ 51 ∷ 44 ∷ 32 ∷ 115 ∷ 99 ∷ 97 ∷ 108 ∷ 101 ∷ 32 ∷ 50 ∷ 10 ∷ [])
    ++ (49 ∷ 32 ∷ 51 ∷ 50 ∷ 32 ∷ 49 ∷ 32 ∷ 48 ∷ 32 ∷ 45 ∷ 10 ∷ [])
    ++ (50 ∷ 32 ∷ 51 ∷ 51 ∷ 32 ∷ 48 ∷ 32 ∷ 48 ∷ 32 ∷ 48 ∷ 10 ∷ [])

-- a number below 256 in four bytes, and in eight
abbrev four : ℕ → List ℕ
four n = n ∷ 0 ∷ 0 ∷ 0 ∷ []

abbrev eight : ℕ → List ℕ
eight n = four n ++ four 0

-- the record of A and K: W, K, k, the book, the costs 32 and 33, the policies
abbrev pub record_a : ℕ → List ℕ
record_a k =
    four 22 ++ four k ++ four 2
    ++ for_each four (2 ∷ 1 ∷ 7 ∷ 1 ∷ 2 ∷ 2 ∷ 1 ∷ 1 ∷ 2 ∷ 0 ∷ 1 ∷ 1 ∷ 0 ∷ 0 ∷ 0 ∷ 10 ∷ 1 ∷ 1 ∷ 12 ∷ 2 ∷ 4 ∷ 9 ∷ [])
    ++ eight 32 ++ eight 33 ++ (1 ∷ 0 ∷ 255 ∷ 0 ∷ 0 ∷ 0 ∷ [])

-- ---- the table

pub record Tour : Type 0 where
  pub call : Call
  pub due : Answer

-- a slice of costs with K places and one of plans with K × S bytes
abbrev room_for : ℕ → ℕ → Room
room_for k s = record { k = k; costs = k; plans = k * s }

abbrev pub tours : List Tour
tours =
    -- 1
    record { call = print (file_of 3 book_a); due = printed page_a }
    ∷ record {
      call = rank book_a (room_for 3 3);
      due = listed (pos 32 ∷ pos 33 ∷ []) ((1 ∷ 0 ∷ 255 ∷ []) ∷ (0 ∷ 0 ∷ 0 ∷ []) ∷ []);
    }
    -- 2
    ∷ record { call = rank book_a (room_for 1 3); due = listed (pos 32 ∷ []) ((1 ∷ 0 ∷ 255 ∷ []) ∷ []) }
    -- 3
    ∷ record {
      call = rank (set book_a 21 (pos 8)) (room_for 3 3);
      due = listed (pos 32 ∷ pos 32 ∷ []) ((0 ∷ 0 ∷ 0 ∷ []) ∷ (1 ∷ 0 ∷ 255 ∷ []) ∷ []);
    }
    -- 4
    ∷ record {
      call = rank (set book_a 15 (negsuc 9)) (room_for 2 3);
      due = listed (negsuc 6 ∷ pos 32 ∷ []) ((0 ∷ 0 ∷ 0 ∷ []) ∷ (1 ∷ 0 ∷ 255 ∷ []) ∷ []);
    }
    -- 5
    ∷ record {
      call = rank book_c (room_for 64 4);
      due = listed (pos 5 ∷ pos 6 ∷ pos 9 ∷ []) ((1 ∷ 255 ∷ 0 ∷ 0 ∷ []) ∷ (0 ∷ 0 ∷ 255 ∷ 0 ∷ []) ∷ (0 ∷ 1 ∷ 255 ∷ 0 ∷ []) ∷ []);
    }
    -- 6
    ∷ record { call = value book_c (0 ∷ 0 ∷ 0 ∷ 0 ∷ []); due = refused 17 }
    -- 7
    ∷ record { call = rank book_a (room_for 0 3); due = refused 14 }
    ∷ record { call = rank book_a (room_for 65 3); due = refused 14 }
    -- 8
    ∷ record { call = check []; due = refused 1 }
    -- 9, as request 2.1 has it. With D = 3 the plan 0 0 0 has the days 0, 1 of weight 1 and cost 10 + 4, 0, 2 of weight 1 and cost 10 + 9, and the
    -- stop after choice 0, whose weights leave 3 - 2 = 1, of cost 10: 14 + 19 + 10 = 43. The plan 1 0 255 has the day 0, 1 of weight 2 and
    -- cost 12 + 4 and the stop of weight 3 - 2 = 1 and cost 12: 32 + 12 = 44. With D = 1 the weights 1 + 1 of choice 0 add to more than D
    ∷ record {
      call = rank (set book_a 0 (pos 3)) (room_for 3 3);
      due = listed (pos 43 ∷ pos 44 ∷ []) ((0 ∷ 0 ∷ 0 ∷ []) ∷ (1 ∷ 0 ∷ 255 ∷ []) ∷ []);
    }
    ∷ record { call = check (set book_a 0 (pos 1)); due = refused 12 }
    -- 10
    ∷ record { call = check (book_e 44); due = good }
    ∷ record { call = check (book_e 45); due = refused 13 }
    -- 11
    ∷ record { call = write book_a 3 (replicate 122 7); due = slice (record_a 3) }
    ∷ record { call = write book_a 3 (replicate 121 7); due = refused 18 }
    -- 12
    ∷ record { call = accept (record_a 2); due = record_of 3 2 }
    ∷ record { call = accept (record_a 1); due = refused 20 }
    ∷ []

-- ---- closed choices (request 2.7)

-- "A cost of 200,000 marks a choice as closed": the book with the cost at index i marked
abbrev close : ℕ → Words → Words
close i ws = set ws i (pos 200000)

-- C with the first choice of post 1 closed, and the one choice of post 2, so that choice 1 of post 0 leads to a post with no open choice
abbrev pub book_dead : Words
book_dead = close 25 (close 29 book_c)

-- C with the closing choice closed: no plan
abbrev pub book_none : Words
book_none = close 31 book_c

-- the head of a record of that book, with k = 0, and no list
abbrev head_none : List ℕ
head_none = four 32 ++ four 3 ++ four 0 ++ for_each (signed_bytes 4) book_none

-- "refused 28"
abbrev line_none : List ℕ
line_none = 114 ∷ 101 ∷ 102 ∷ 117 ∷ 115 ∷ 101 ∷ 100 ∷ 32 ∷ 50 ∷ 56 ∷ 10 ∷ []

abbrev pub closings : List Tour
closings =
    -- "no plan takes it": neither the closed choice nor the open one that leads to a post with every choice closed
    record { call = rank book_dead (room_for 64 4); due = listed (pos 9 ∷ []) ((0 ∷ 1 ∷ 255 ∷ 0 ∷ []) ∷ []) }
    ∷ record { call = least book_dead; due = cost (pos 9) }
    ∷ record { call = value book_dead (0 ∷ 0 ∷ 255 ∷ 0 ∷ []); due = refused 17 }
    ∷ record { call = value book_dead (1 ∷ 255 ∷ 0 ∷ 0 ∷ []); due = refused 17 }
    -- 28: "no plan, asked after 14 and before any slice or question 20; for the least cost of the book, after 13"
    ∷ record { call = check book_none; due = good }
    ∷ record { call = least book_none; due = refused 28 }
    ∷ record { call = rank book_none (room_for 65 4); due = refused 14 }
    ∷ record { call = rank book_none (record { k = 3; costs = 0; plans = 0 }); due = refused 28 }
    ∷ record { call = write book_none 3 []; due = refused 28 }
    ∷ record { call = accept head_none; due = refused 28 }
    ∷ record { call = print (file_of 3 book_none); due = printed line_none }
    ∷ record { call = value book_none (0 ∷ 0 ∷ 255 ∷ 0 ∷ []); due = refused 17 }
    -- "check 10 admits it", and no other cost beyond 100,000
    ∷ record { call = check (set book_a 15 (pos 200001)); due = refused 10 }
    ∷ record { call = check (set book_a 15 (negsuc 199999)); due = refused 10 }
    -- "check 13 skips it (with no open cost the largest is 0)"
    ∷ record { call = check (book_e 200000); due = good }
    ∷ []

-- ---- depots (request 2.9)

-- A with a second closing choice at post 2: the closing costs there are y and z
abbrev pub book_depots : ℕ → ℕ → Words
book_depots y z = words (2 ∷ 1 ∷ 8 ∷ 1 ∷ 2 ∷ 2 ∷ 1 ∷ 2 ∷ 2 ∷ 0 ∷ 1 ∷ 1 ∷ 0 ∷ 0 ∷ 0 ∷ 0 ∷ 10 ∷ 1 ∷ 1 ∷ 12 ∷ 2 ∷ 4 ∷ y ∷ z ∷ [])

-- D = 1, H = 1, two posts: one line, and n closing choices of cost 7
abbrev pub book_row : ℕ → Words
book_row n = words ((1 ∷ 1 ∷ (2 + n) ∷ 1 ∷ 1 ∷ 1 ∷ n ∷ 1 ∷ 0 ∷ []) ++ replicate n 0 ++ (5 ∷ 1 ∷ []) ++ replicate n 7)

abbrev pub depots : List Tour
depots =
    -- "a plan's byte at a reached last post is the depot chosen": the plan 0 0 1 has the days 0, 1 of weight 1 and cost 10 + 4, and 0, 2 of weight 1 and
    -- cost 10 + 7: 14 + 17 = 31
    record {
      call = rank (book_depots 9 7) (room_for 64 3);
      due = listed (pos 31 ∷ pos 32 ∷ pos 33 ∷ []) ((0 ∷ 0 ∷ 1 ∷ []) ∷ (1 ∷ 0 ∷ 255 ∷ []) ∷ (0 ∷ 0 ∷ 0 ∷ []) ∷ []);
    }
    ∷ record { call = least (book_depots 9 7); due = cost (pos 31) }
    ∷ record { call = value (book_depots 9 7) (0 ∷ 0 ∷ 1 ∷ []); due = cost (pos 31) }
    ∷ record { call = value (book_depots 9 7) (0 ∷ 0 ∷ 2 ∷ []); due = refused 17 }
    -- depots that cost the same: the lower number first
    ∷ record {
      call = rank (book_depots 7 7) (room_for 2 3);
      due = listed (pos 31 ∷ pos 31 ∷ []) ((0 ∷ 0 ∷ 0 ∷ []) ∷ (0 ∷ 0 ∷ 1 ∷ []) ∷ []);
    }
    -- a closed depot (2.7), and a post with every depot closed
    ∷ record {
      call = rank (book_depots 200000 7) (room_for 64 3);
      due = listed (pos 31 ∷ pos 32 ∷ []) ((0 ∷ 0 ∷ 1 ∷ []) ∷ (1 ∷ 0 ∷ 255 ∷ []) ∷ []);
    }
    ∷ record { call = rank (book_depots 200000 200000) (room_for 64 3); due = listed (pos 32 ∷ []) ((1 ∷ 0 ∷ 255 ∷ []) ∷ []) }
    -- "1 to 8 choices"
    ∷ record { call = check (book_row 0); due = refused 8 }
    ∷ record { call = check (book_row 1); due = good }
    ∷ record { call = check (book_row 8); due = good }
    ∷ record { call = check (book_row 9); due = refused 8 }
    -- eight depots and H = 1: eight plans, which differ in the depot alone
    ∷ record {
      call = rank (book_row 8) (room_for 9 2);
      due = listed (replicate 8 (pos 12)) (map (λ (c : ℕ). 0 ∷ c ∷ []) (up_from 0 8));
    }
    ∷ []

-- ---- the proof

pub yield : map (λ (t : Tour). answer t.call) (tours ++ closings ++ depots) ≡ map (λ (t : Tour). t.due) (tours ++ closings ++ depots)
unfolding word scale horizon line_count stage_size first_state state_count stage togo action_count left right branches line_after skip state_line action_line
    transition_at read_action action options first_no sizes_allowed length_allowed count_allowed counts_allowed every_action branches_allowed lines_allowed
    cost_allowed nexts_allowed weight_sum weights_allowed largest_cost costs_bounded book_number is_policy policies has_policy taken paths policy_cost
    comes_before ranking ranking_costs list_bytes record_bytes carried_length carried_k carried_count carried_book list_start asked_number accept_number decimal
    policy_line policy_lines title_line list_page input_count input_book input_number page value_number value_cost least_number least_cost rank_number rank_count
    rank_costs rank_plans write_number write_length write_record accept_states accept_count
yield = refl
