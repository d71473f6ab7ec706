-- Runs of words put one after another.
-- Assumes nothing.
use mathlib.Core.Path.{◌≡◌, refl, sym, ap, ap₂, ◌∙◌}
use mathlib.Core.Bool.{Bool, true, false}
use mathlib.Core.List.{List, [], ◌∷◌, ◌++◌, map, append_assoc}
use lib.Seq.{drop-drop, drop-cons}
use lib.Signed.{mag}
use mir.Syntax.{w32}
use mir.Val.{to_z, of_z}
use mir.Facts.{to_z-of_z}
use borrow.Rule.Slice.PartMut.{put_mid}
use Prim.Native.Nat.{ℕ, ◌+◌, ◌*◌, ◌-◌, ◌≤◌, ◌<◌}
use native.Mathlib.Omega.{arith}
use lib.IntN.{ℤ, pos}
use lib.ListN.{length, get_or, set, take, drop, replicate, length-append, length-replicate, length-take, length-drop}
use Rattle.model.specs.Lists.{up_from}
use Rattle.model.specs.Model.{Words, word}
use Rattle.model.specs.Calls.{over}
use Rattle.laws.specs.Joined.{mapped_raised}
use Rattle.bytes_io.specs.Slices.{written}
use Rattle.bytes_io.proofs.Parts.{length-written, written_join, written-front, set-written}
use Rattle.reward_table.specs.Table.{table_states, table_first, table_lines, table_left}
use Rattle.reward_table.specs.Read.{Given, TableRead}
use Rattle.reward_table.specs.declared.Table.{Table}
use Rattle.reward_table.specs.Convert.{table_book}
use Rattle.table_book.specs.Columns.{column_from, Turnable, repeated, first_lines, book_lines, book_column, book_counts, book_sizes}
use Rattle.table_book.specs.Read.{Passed, Made}
use Rattle.table_book.specs.declared.Sizes.{Sizes}
use Rattle.table_book.proofs.Lists.{words_from}
use Rattle.reward_table.specs.Says.{all_used_lem}
use Rattle.table_book.proofs.Standing.{line_rises, line_most}
use Rattle.table_book.proofs.Book.{first_turns, later_turns, last_turns, counts_most, column_most, book_is}

-- the slice o₀ with the m words xs put from index `at` on
pub record Puts (o₀ : List ℤ) (at m : ℕ) (xs o : List ℤ) : Type 0 where
  pub is : o ≡ written o₀ at m xs
  pub count : length xs ≡ m
  pub fits : at + m ≤ length o₀

module _ {o₀ : List ℤ} {at m : ℕ} {xs o : List ℤ} (p : Puts o₀ at m xs o) where
  pub put_long : length o ≡ length o₀
  put_long = rw p.is (length-written o₀ at m xs p.count p.fits)

  -- n words more, from index i on
  pub put_more : (i n : ℕ) (ys : List ℤ) {o' : List ℤ} → o' ≡ written o i n ys → i ≡ at + m → length ys ≡ n → at + (m + n) ≤ length o₀
      → Puts o₀ at (m + n) (xs ++ ys) o'
  put_more i n ys e j l f =
      record {
        is = e ∙ ap₂ (λ (q : List ℤ) (k : ℕ). written q k n ys) p.is j ∙ written_join o₀ at m xs p.count p.fits n ys;
        count = length-append xs ys ∙ ap₂ ◌+◌ p.count l;
        fits = f;
      }

pub put_front : {o₀ : List ℤ} {m : ℕ} {xs o : List ℤ} → Puts o₀ 0 m xs o → o ≡ over xs o₀
put_front {o₀} {m} {xs} p = p.is ∙ written-front o₀ m xs p.count

-- a part of a slice, once n words are copied or one word is filled in
module _ (o : List ℤ) (a n : ℕ) {ys : List ℤ} where
  part_put : {xs : List ℤ} → ys ≡ xs → put_mid a (a + n - a) o ys ≡ written o a n xs
  part_put {xs} q =
      let j : a + n - a ≡ n = omega arith in
      rw (q, j, drop-drop n a o) (sym (append_assoc (take a o) xs (drop (a + n) o)))

  pub part_copied : (t : List ℤ) (i : ℕ) → ys ≡ take (i + n - i) (drop i t) → put_mid a (a + n - a) o ys ≡ written o a n (take n (drop i t))
  part_copied t i q =
      let j : i + n - i ≡ n = omega arith in
      part_put (q ∙ ap (λ (k : ℕ). take k (drop i t)) j)

  pub part_filled : (x : ℤ) → a + n ≤ length o → ys ≡ replicate (length (take (a + n - a) (drop a o))) x
      → put_mid a (a + n - a) o ys ≡ written o a n (replicate n x)
  part_filled x h q =
      let j : length (take (a + n - a) (drop a o)) ≡ n = omega (arith, length-take (a + n - a) (drop a o), length-drop a o) in
      part_put (q ∙ ap (λ (k : ℕ). replicate k x) j)

-- one word that is copied
pub one_copied : (o t : List ℤ) (a i : ℕ) → a < length o → i < length t → mag (get_or t i (pos 0)) < 2147483648
    → set o a (to_z w32 (of_z w32 (get_or t i (pos 0)))) ≡ written o a 1 (take 1 (drop i t))
one_copied o t a i h k f = rw (to_z-of_z {w = w32} (record { sfits = f }), drop-cons t i (pos 0) k) (set-written o a (get_or t i (pos 0)) h)

-- ---- the sizes

module _ {d h n lines : ℕ} (o : List ℤ) (fits : 4 + h ≤ length o) {a b c f : ℤ} where
  pub sizes_put : a ≡ pos d → b ≡ pos h → c ≡ pos lines → f ≡ pos n
      → {ys : List ℤ} → ys ≡ replicate (length (take (4 + h - 4) (drop 4 (set (set (set (set o 0 a) 1 b) 2 c) 3 (pos 1))))) f
      → put_mid 4 (4 + h - 4) (set (set (set (set o 0 a) 1 b) 2 c) 3 (pos 1)) ys ≡ written o 0 (4 + h) (book_sizes d h n lines)
  unfolding book_sizes
  sizes_put i j k l e =
      let p₁ : Puts o 0 1 (a ∷ []) (set o 0 a) = record { is = set-written o 0 a (omega arith); count = refl; fits = omega arith } in
      let p₂ = put_more p₁ 1 1 (b ∷ []) (set-written _ 1 b (omega (arith, put_long p₁))) refl refl (omega arith) in
      let p₃ = put_more p₂ 2 1 (c ∷ []) (set-written _ 2 c (omega (arith, put_long p₂))) refl refl (omega arith) in
      let p₄ = put_more p₃ 3 1 (pos 1 ∷ []) (set-written _ 3 (pos 1) (omega (arith, put_long p₃))) refl refl (omega arith) in
      let p₅ = put_more p₄ 4 h (replicate h f) (part_filled _ 4 h f (omega (arith, put_long p₄)) e) refl (length-replicate h f) (omega arith) in
      let q : 1 + 1 + 1 + 1 + h ≡ 4 + h = omega arith in
      rw (← i, ← j, ← k, ← l, ← q) p₅.is

pub sizes_count : (d h n lines : ℕ) → length (book_sizes d h n lines) ≡ 4 + h
unfolding book_sizes
sizes_count d h n lines = let e = length-replicate h (pos n) in omega (arith, e)

-- ---- the left column

pub left-words : (t : Words) (given : Given t) (at j count : ℕ) → at ≡ 5 + table_states t + j → j + count ≤ table_lines t
    → take count (drop at t) ≡ column_from t false j count
unfolding table_left
left-words t given at j count e l =
    words_from t at count (omega (arith, e, given.exact)) ∙ ap (λ (i : ℕ). map (word t) (up_from i count)) e
    ∙ sym (mapped_raised (word t) (5 + table_states t) j count)

-- ---- the counts and the columns, by the sizes that were read

pub counts_of : (t : Words) (z : Table) → TableRead t z
    → (take 1 (drop (5 + z.first) t) ++ repeated (z.h - 1) (take z.n (drop 5 t)) ++ replicate z.n (pos 1)) ≡ book_counts t
unfolding book_counts
counts_of t z are = rw (are.first-is, are.h_is, are.n_is)

pub column_of_lem : (t : Words) (z : Table) (s : Sizes) → TableRead t z → Made t s → (right : Bool)
    → (column_from t right s.from s.first ++ repeated (z.h - 1) (column_from t right 0 s.body) ++ column_from t right s.body z.n)
    ≡ book_column t right
unfolding book_column
column_of_lem t z s are made right = rw (are.h_is, are.n_is, made.from_is, made.first-is, made.body_is)

-- ---- the runs of lines that a column is put from

module _ {t : Words} {z : Table} {s : Sizes} (p : Passed t z) (made : Made t s) where
  abbrev n : ℕ
  n = table_states t

  pub first_run : (s.from + s.first ≤ table_lines t) × Turnable t 0 s.from s.first
  unfolding first_lines
  first_run =
      let g = p.given.first_low in
      let rises = line_rises t p.lines (table_first t) g in
      let most = line_most t p.lines (table_first t + 1) (omega arith) in (
        omega (arith, made.from_is, made.first-is, rises, most, all_used_lem t p.lines),
        rw (made.from_is, made.first-is) (first_turns t p.given p.lines),
      )

  pub later-run : (s.body ≤ table_lines t) × Turnable t 0 0 s.body
  later-run = (omega (arith, made.body_is, all_used_lem t p.lines), rw made.body_is (later_turns t p.given p.lines))

  pub last-run : (s.body + z.n ≤ table_lines t) × Turnable t 0 s.body z.n
  last-run =
      (omega (arith, made.body_is, p.read.n_is, all_used_lem t p.lines), rw (made.body_is, p.read.n_is) (last_turns t p.given p.lines))

  -- their lines are those of the book
  pub lines_split : s.lines ≡ s.first + (z.h - 1) * s.body + z.n
  unfolding book_lines
  lines_split = made.lines_is ∙ rw (p.read.h_is, p.read.n_is, made.first-is, made.body_is)

  -- the counts are as many as the book has states
  pub states_split : s.states ≡ 1 + z.h * z.n
  states_split = made.states_is ∙ rw (p.read.h_is, p.read.n_is)

  -- the sizes, the counts and the two columns are the book
  pub book_of : (book_sizes z.d z.h z.n s.lines ++ book_counts t ++ book_column t false ++ book_column t true) ≡ table_book t
  book_of = rw (p.read.d_is, p.read.h_is, p.read.n_is, made.lines_is) (sym (book_is t p.given p.lines))

  pub counts_count : length (book_counts t) ≡ s.states
  counts_count = counts_most t p.given p.lines ∙ sym made.states_is

  pub column_count : (b : Bool) → length (book_column t b) ≡ s.lines
  column_count b = column_most t p.given p.lines b ∙ sym made.lines_is

  pub length_split : s.length ≡ 4 + z.h + s.states + s.lines + s.lines
  length_split = omega (arith, made.length_is, p.read.h_is)
