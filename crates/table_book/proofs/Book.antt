-- The words of the book of a table that passes 25 and 26, part by part as they are put.
-- Assumes nothing.
use mathlib.Core.Path.{◌≡◌, refl, sym, ap, ap₂, ◌∙◌, subst}
use mathlib.Core.Bool.{Bool, true, false}
use mathlib.Core.List.{List, [], ◌∷◌, ◌++◌, map, map-append, append_assoc, append-nil}
use Prim.Native.Nat.{ℕ, zero, suc, ◌+◌, ◌*◌, ◌-◌, ◌<◌}
use native.Mathlib.Omega.{arith}
use lib.IntN.{ℤ, pos}
use lib.ListN.{length, take, drop, replicate, length-append, length-map, length-replicate, length-drop}
use lib.Seq.{length-take-le}
use Rattle.model.specs.Lists.{up_from, for_each}
use Rattle.model.specs.Model.{Words, word, horizon, line_count, state_count}
use Rattle.laws.specs.Joined.{up_from_long, mapped_raised, for_each_++, each_each, each_map, map_each, map-map, each_same, each_copies, map_copies}
use Rattle.laws.specs.Joined.{copies_last, copies_long}
use Rattle.content.specs.Content.{Line, Entry, entry_lines, states, state_lines, lefts, rights, lengths, book_words}
use Rattle.content.proofs.Reading.{scale-word, horizon-word, lines_word, states_are, length_is}
use Rattle.reward_table.specs.Table.{table_scale, table_horizon, table_states, table_first, table_count, table_state_line, closing_line, table_entry}
use Rattle.reward_table.specs.Table.{table_state, lines_given}
use Rattle.reward_table.specs.Read.{Given}
use Rattle.reward_table.specs.Convert.{negated, book_state, book_closing, later_stage, last_stage, book_content, table_book}
use Rattle.table_book.specs.Columns.{column_from, Turnable, repeated, first_lines, book_lines, book_column, book_counts, book_sizes}
use Rattle.table_book.proofs.Lists.{words_from, last_row}
use Rattle.table_book.proofs.Entries.{column_of, column_++, column_long, column_stands, turns_stand, Stand, span}
use Rattle.table_book.proofs.Standing.{state_stands, states_stand, closings_stand, closing_entry}
use Rattle.reward_table.specs.Says.{count_word, line_zero}
use Rattle.laws.specs.Members.{map_same, up_from_in}

-- ---- one list, m times

column_copies : (b : Bool) (m : ℕ) (ls : List Line)
    → column_of b (for_each (λ (xs : List Line). xs) (replicate m ls)) ≡ repeated m (column_of b ls)
column_copies false zero ls = refl
column_copies true zero ls = refl
column_copies b (suc m) ls =
    column_++ b ls (for_each (λ (xs : List Line). xs) (replicate m ls)) ∙ ap (λ (zs : List ℤ). column_of b ls ++ zs) (column_copies b m ls)

module _ (t : Words) (given : Given t) (ok : lines_given t ≡ true) where
  abbrev n : ℕ
  n = table_states t

  abbrev first : ℕ
  first = table_first t

  abbrev m : ℕ
  m = table_horizon t - 1

  -- ---- the columns of each stage

  first_column : (b : Bool) → column_of b (state_lines (book_state t first ∷ [])) ≡ column_from t b (table_state_line t first) (first_lines t)
  unfolding book_state first_lines
  first_column b =
      let h = state_stands t ok first given.first_low in
      let j = table_state_line t first in
      let e : table_state_line t (first + 1) - j ≡ span t j (table_state t first) = omega (arith, h.1) in
      ap (column_of b) (append-nil (for_each entry_lines (map negated (table_state t first))))
      ∙ sym (column_stands t b (table_state t first) j h.0) ∙ ap (column_from t b j) (sym e)

  later_lines : state_lines (later_stage t) ≡ for_each entry_lines (map negated (for_each (table_state t) (up_from 0 n)))
  unfolding later_stage book_state
  later_lines =
      each_map (for_each entry_lines) (book_state t) (up_from 0 n) ∙ sym (each_each entry_lines (book_state t) (up_from 0 n))
      ∙ ap (for_each entry_lines) (sym (map_each negated (table_state t) (up_from 0 n)))

  -- the actions of all states, from line 0 on
  all_stand : let es = for_each (table_state t) (up_from 0 n) in Stand t 0 es × (span t 0 es ≡ table_state_line t n)
  all_stand =
      let es = for_each (table_state t) (up_from 0 n) in
      let h = subst (λ (j : ℕ). Stand t j es × (j + span t j es ≡ table_state_line t (0 + n))) (line_zero t) (states_stand t ok 0 n (omega arith)) in
      let q : 0 + n ≡ n = omega arith in
      let e : span t 0 es ≡ table_state_line t n = omega (arith, h.1 ∙ ap (table_state_line t) q) in
      (h.0, e)

  later_column : (b : Bool) → column_of b (state_lines (later_stage t)) ≡ column_from t b 0 (table_state_line t n)
  later_column b =
      let h = all_stand in
      ap (column_of b) later_lines ∙ sym (column_stands t b (for_each (table_state t) (up_from 0 n)) 0 h.0) ∙ ap (column_from t b 0) h.1

  last_lines : state_lines (last_stage t) ≡ for_each entry_lines (map negated (map (closing_entry t) (up_from 0 n)))
  unfolding last_stage book_closing
  last_lines =
      each_map (for_each entry_lines) (book_closing t) (up_from 0 n)
      ∙ each_same _ _ (up_from 0 n) (λ s. append-nil (entry_lines (negated (closing_entry t s))))
      ∙ sym (each_map entry_lines (λ (s : ℕ). negated (closing_entry t s)) (up_from 0 n))
      ∙ ap (for_each entry_lines) (sym (map-map negated (closing_entry t) (up_from 0 n)))

  -- the closings, after them
  closing_stand : let es = map (closing_entry t) (up_from 0 n) in Stand t (table_state_line t n) es × (span t (table_state_line t n) es ≡ n)
  unfolding closing_line
  closing_stand =
      let es = map (closing_entry t) (up_from 0 n) in
      let z : table_state_line t n + 0 ≡ table_state_line t n = omega arith in
      subst (λ (j : ℕ). Stand t j es × (span t j es ≡ n)) z (closings_stand t ok 0 n (omega arith))

  last_column : (b : Bool) → column_of b (state_lines (last_stage t)) ≡ column_from t b (table_state_line t n) n
  last_column b =
      let h = closing_stand in
      ap (column_of b) last_lines ∙ sym (column_stands t b (map (closing_entry t) (up_from 0 n)) (table_state_line t n) h.0)
      ∙ ap (column_from t b (table_state_line t n)) h.1

  -- ---- each reward among those lines can be negated in a word

  pub first_turns : Turnable t 0 (table_state_line t first) (first_lines t)
  unfolding first_lines
  first_turns =
      let h = state_stands t ok first given.first_low in
      let j = table_state_line t first in
      let e : span t j (table_state t first) ≡ table_state_line t (first + 1) - j = omega (arith, h.1) in
      subst (Turnable t 0 j) e (turns_stand t (table_state t first) j h.0)

  pub later_turns : Turnable t 0 0 (table_state_line t n)
  later_turns = let h = all_stand in subst (Turnable t 0 0) h.1 (turns_stand t (for_each (table_state t) (up_from 0 n)) 0 h.0)

  pub last_turns : Turnable t 0 (table_state_line t n) n
  last_turns =
      let h = closing_stand in
      subst (Turnable t 0 (table_state_line t n)) h.1 (turns_stand t (map (closing_entry t) (up_from 0 n)) (table_state_line t n) h.0)

  -- ---- the columns of the book

  abbrev all : List Line
  all = state_lines (states (book_content t))

  lines_are : all ≡ state_lines (book_state t first ∷ [])
      ++ (for_each (λ (xs : List Line). xs) (replicate m (state_lines (later_stage t))) ++ (state_lines (last_stage t) ++ []))
  unfolding book_content
  lines_are =
      let one = book_state t first ∷ [] in
      let rest = replicate m (later_stage t) ++ (last_stage t ∷ []) in
      each_each (for_each entry_lines) (λ (s : List (List Entry)). s) (one ∷ rest)
      ∙ ap (λ (zs : List Line). state_lines one ++ zs)
      (for_each_++ state_lines (replicate m (later_stage t)) (last_stage t ∷ [])
      ∙ ap (λ (zs : List Line). zs ++ (state_lines (last_stage t) ++ [])) (each_copies state_lines m (later_stage t)))

  pub column_is : (b : Bool) → column_of b all ≡ book_column t b
  unfolding book_column
  column_is b =
      let one = state_lines (book_state t first ∷ []) in
      let more = for_each (λ (xs : List Line). xs) (replicate m (state_lines (later_stage t))) in
      let last = state_lines (last_stage t) in
      ap (column_of b) (lines_are ∙ ap (λ (zs : List Line). one ++ (more ++ zs)) (append-nil last))
      ∙ column_++ b one (more ++ last)
      ∙ ap (λ (zs : List ℤ). column_of b one ++ zs) (column_++ b more last)
      ∙ sym (append_assoc (column_of b one) (column_of b more) (column_of b last))
      ∙ ap₂ ◌++◌
      (ap₂ ◌++◌ (first_column b) (column_copies b m (state_lines (later_stage t)) ∙ ap (repeated m) (later_column b)))
      (last_column b)

  pub left_is : lefts all ≡ book_column t false
  left_is = column_is false

  pub right_is : rights all ≡ book_column t true
  right_is = column_is true

  pub column_most : (b : Bool) → length (book_column t b) ≡ book_lines t
  unfolding book_lines book_column
  column_most b =
      let body = table_state_line t n in
      rw (
        length-append,
        length-append,
        copies_long m (column_from t b 0 body),
        column_long t b (table_state_line t first) (first_lines t),
        column_long t b 0 body,
        column_long t b body n,
      )

  pub lines_long : length all ≡ book_lines t
  lines_long = sym (length-map all (λ (l : Line). l.left)) ∙ ap length left_is ∙ column_most false

  -- ---- the counts

  abbrev count_of : List Entry → ℤ
  count_of es = pos (length es)

  count_is : (s : ℕ) → length (book_state t s) ≡ table_count t s
  unfolding book_state table_state
  count_is s =
      length-map (table_state t s) negated ∙ length-map (up_from 0 (table_count t s)) (table_entry t s) ∙ up_from_long 0 (table_count t s)

  first_count : lengths (book_state t first ∷ []) ≡ take 1 (drop (5 + first) t)
  first_count =
      ap (λ (z : ℤ). z ∷ []) (ap pos (count_is first) ∙ sym (count_word t ok first given.first_low).0)
      ∙ sym (words_from t (5 + first) 1 (omega (arith, given.exact, given.first_low)))

  later_counts : lengths (later_stage t) ≡ take n (drop 5 t)
  unfolding later_stage
  later_counts =
      map-map count_of (book_state t) (up_from 0 n)
      ∙ map_same _ _ (up_from 0 n) (λ s i. ap pos (count_is s) ∙ sym (count_word t ok s (let r = up_from_in 0 n i in omega arith)).0)
      ∙ mapped_raised (word t) 5 0 n
      ∙ sym (words_from t 5 n (omega (arith, given.exact)))

  last_counts : lengths (last_stage t) ≡ replicate n (pos 1)
  unfolding last_stage book_closing
  last_counts = map-map count_of (book_closing t) (up_from 0 n) ∙ ones 0 n
    where
      ones : (i k : ℕ) → map (λ (s : ℕ). pos 1) (up_from i k) ≡ replicate k (pos 1)
      ones i zero = refl
      ones i (suc k) = ap (λ (zs : List ℤ). pos 1 ∷ zs) (ones (suc i) k)

  pub counts_are : lengths (states (book_content t)) ≡ book_counts t
  unfolding book_content book_counts
  counts_are =
      let one = book_state t first ∷ [] in
      let rest = replicate m (later_stage t) ++ (last_stage t ∷ []) in
      let more = for_each (λ (s : List ℤ). s) (replicate m (lengths (later_stage t))) in
      map_each count_of (λ (s : List (List Entry)). s) (one ∷ rest)
      ∙ ap (λ (zs : List ℤ). lengths one ++ zs)
      (for_each_++ lengths (replicate m (later_stage t)) (last_stage t ∷ [])
      ∙ ap₂ ◌++◌ (each_copies lengths m (later_stage t)) (append-nil (lengths (last_stage t))))
      ∙ sym (append_assoc (lengths one) more (lengths (last_stage t)))
      ∙ ap₂ ◌++◌ (ap₂ ◌++◌ first_count (ap (repeated m) later_counts)) last_counts

  later_long : length (later_stage t) ≡ n
  unfolding later_stage
  later_long = length-map (up_from 0 n) (book_state t) ∙ up_from_long 0 n

  last_long : length (last_stage t) ≡ n
  unfolding last_stage
  last_long = length-map (up_from 0 n) (book_closing t) ∙ up_from_long 0 n

  pub counts_most : length (book_counts t) ≡ 1 + table_horizon t * n
  unfolding book_counts
  counts_most =
      let one : length (take 1 (drop (5 + first) t)) ≡ 1
      = length-take-le 1 (drop (5 + first) t) (omega (arith, length-drop (5 + first) t, given.exact, given.first_low)) in
      let row : length (take n (drop 5 t)) ≡ n = length-take-le n (drop 5 t) (omega (arith, length-drop 5 t, given.exact)) in
      rw (length-append, length-append, copies_long m (take n (drop 5 t)), one, row, length-replicate n (pos 1))
      (omega (arith, last_row (table_horizon t) n given.h_low))

  stages_are : lengths (book_content t).stages ≡ pos 1 ∷ replicate (table_horizon t) (pos n)
  unfolding book_content
  stages_are =
      let h : suc m ≡ table_horizon t = omega (arith, given.h_low) in
      ap (λ (zs : List ℤ). pos 1 ∷ zs)
      (map-append (λ (s : List (List Entry)). pos (length s)) (replicate m (later_stage t)) (last_stage t ∷ [])
      ∙ ap₂ ◌++◌ (map_copies (λ (s : List (List Entry)). pos (length s)) m (later_stage t) ∙ ap (λ (k : ℕ). replicate m (pos k)) later_long)
      (ap (λ (k : ℕ). pos k ∷ []) last_long)
      ∙ copies_last m (pos n) ∙ ap (λ (k : ℕ). replicate k (pos n)) h)

  stages_long : length (book_content t).stages - 1 ≡ table_horizon t
  stages_long =
      let l = sym (length-map (book_content t).stages (λ (s : List (List Entry)). pos (length s))) ∙ ap length stages_are in
      let r = length-replicate (table_horizon t) (pos n) in
      omega (arith, l, r)

  scale_is : (book_content t).scale ≡ table_scale t
  unfolding book_content
  scale_is = refl

  pub book_is : table_book t ≡ book_sizes (table_scale t) (table_horizon t) n (book_lines t) ++ book_counts t ++ book_column t false ++ book_column t true
  unfolding table_book book_words book_sizes
  book_is =
      rw (scale_is, stages_long, lines_long, stages_are, counts_are, left_is, right_is)

  -- ---- what is read of the book

  length_read : length (table_book t) ≡ 4 + horizon (table_book t) + state_count (table_book t) + 2 * line_count (table_book t)
  unfolding table_book
  length_read = length_is (book_content t) (let h = stages_long in omega (arith, given.h_low))

  abbrev book : Words
  book = table_book t

  some_stage : 0 < length (book_content t).stages
  some_stage = let h = stages_long in omega (arith, given.h_low)

  pub book-scale : word book 0 ≡ pos (table_scale t)
  unfolding table_book
  book-scale = scale-word (book_content t) ∙ ap pos scale_is

  pub book-horizon : word book 1 ≡ pos (table_horizon t)
  unfolding table_book
  book-horizon = horizon-word (book_content t) ∙ ap pos stages_long

  pub book_lines_lem : word book 2 ≡ pos (book_lines t)
  unfolding table_book
  book_lines_lem = lines_word (book_content t) ∙ ap pos lines_long

  pub book-states : state_count book ≡ 1 + table_horizon t * n
  unfolding table_book
  book-states =
      states_are (book_content t) some_stage
      ∙ sym (length-map (states (book_content t)) count_of) ∙ ap length counts_are ∙ counts_most

  pub book_long : length book ≡ 4 + table_horizon t + (1 + table_horizon t * n) + 2 * book_lines t
  unfolding horizon line_count
  book_long =
      length_read ∙ rw (book-horizon, book_lines_lem, book-states)
