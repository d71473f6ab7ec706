-- Actions that stand in a table's lines one after another, and the two columns of those lines.
-- Assumes nothing.
use mathlib.Core.Path.{◌≡◌, refl, sym, ap, ◌∙◌, subst}
use mathlib.Core.Bool.{Bool, true, false}
use mathlib.Core.List.{List, [], ◌∷◌, ◌++◌, map, map-append, append_assoc, append-nil}
use Prim.Native.Nat.{ℕ, zero, suc, ◌+◌, ◌≤◌}
use native.Mathlib.Omega.{arith}
use lib.IntN.{ℤ, pos, neg_ℤ, nat_abs}
use lib.ListN.{length, length-map}
use Rattle.model.specs.Lists.{up_from, for_each}
use Rattle.model.specs.Model.{Words}
use Rattle.laws.specs.Joined.{up_from_split, up_from_long, map-map}
use Rattle.content.specs.Content.{Line, Entry, entry_lines, lefts, rights}
use Rattle.reward_table.specs.Table.{table_left, table_right, table_line, table_branches, table_after, read_entry}
use Rattle.reward_table.specs.Convert.{negated}
use Rattle.table_book.specs.Columns.{rest_after, turned_from, Turnable, column_from}

-- one of the two columns of lines
abbrev pub column_of : Bool → List Line → List ℤ
column_of false ls = lefts ls
column_of true ls = rights ls

pub column_++ : (b : Bool) (xs ys : List Line) → column_of b (xs ++ ys) ≡ column_of b xs ++ column_of b ys
column_++ false xs ys = map-append (λ (l : Line). l.left) xs ys
column_++ true xs ys = map-append (λ (l : Line). l.right) xs ys

module _ (t : Words) where
  -- an action of the table stands at line j
  pub record Stands (j : ℕ) (e : Entry) : Type 0 where
    pub is : e ≡ read_entry t j
    pub some : table_left t j ≡ pos (table_branches t j)
    pub small : nat_abs (table_right t j) ≤ 100000

  -- the actions es stand from line j on, one after another; how many lines they have
  abbrev pub Stand : ℕ → List Entry → Type 0
  Stand j [] = Unit {0}
  Stand j (e ∷ es) = Stands j e × Stand (table_after t j) es

  abbrev pub span : ℕ → List Entry → ℕ
  span j [] = 0
  span j (e ∷ es) = suc (table_branches t j) + span (table_after t j) es

  pub after_is : (j : ℕ) → table_after t j ≡ j + suc (table_branches t j)
  unfolding table_after
  after_is j = omega arith

  pub stand_++ : (j : ℕ) (es fs : List Entry) → Stand j es → Stand (j + span j es) fs → Stand j (es ++ fs)
  stand_++ j [] fs h k = let e : j + 0 ≡ j = omega arith in rw e at k
  stand_++ j (e ∷ es) fs h k =
      let q : j + (suc (table_branches t j) + span (table_after t j) es) ≡ table_after t j + span (table_after t j) es = omega (arith, after_is j) in
      (h.0, stand_++ (table_after t j) es fs h.1 (subst (λ (i : ℕ). Stand i fs) q k))

  pub span_++ : (j : ℕ) (es fs : List Entry) → span j (es ++ fs) ≡ span j es + span (j + span j es) fs
  span_++ j [] fs = let e : j + 0 ≡ j = omega arith in rw e (omega arith)
  span_++ j (e ∷ es) fs =
      let q : j + (suc (table_branches t j) + span (table_after t j) es) ≡ table_after t j + span (table_after t j) es = omega (arith, after_is j) in
      rw (q, span_++ (table_after t j) es fs) (omega arith)

  -- ---- the right words of an action's lines below its first

  run : (r i k : ℕ) → turned_from t r i (r + k) ≡ map (table_right t) (up_from i r) ++ turned_from t 0 (i + r) k
  run zero i k = let e : i + 0 ≡ i = omega arith in let f : 0 + k ≡ k = omega arith in rw (e, f)
  run (suc r) i k =
      let e : i + suc r ≡ suc i + r = omega arith in
      let f : suc r + k ≡ suc (r + k) = omega arith in
      rw (e, f) (ap (λ (zs : List ℤ). table_right t i ∷ zs) (run r (suc i) k))

  run_turns : (r i k : ℕ) → Turnable t 0 (i + r) k → Turnable t r i (r + k)
  run_turns zero i k h = let e : i + 0 ≡ i = omega arith in let f : 0 + k ≡ k = omega arith in rw f (rw e at h)
  run_turns (suc r) i k h =
      let e : i + suc r ≡ suc i + r = omega arith in
      let f : suc r + k ≡ suc (r + k) = omega arith in
      rw f ((λ z. absurd (omega arith)), run_turns r (suc i) k (rw e at h))

  lefts_read : (xs : List ℕ) → lefts (map (table_line t) xs) ≡ map (table_left t) xs
  unfolding table_line
  lefts_read xs = map-map (λ (l : Line). l.left) (table_line t) xs

  rights_read : (xs : List ℕ) → rights (map (table_line t) xs) ≡ map (table_right t) xs
  unfolding table_line
  rights_read xs = map-map (λ (l : Line). l.right) (table_line t) xs

  -- after a reward come as many weights as its line says
  first_run : (j k : ℕ) → turned_from t (nat_abs (table_left t j)) (suc j) (table_branches t j + k)
      ≡ map (table_right t) (up_from (suc j) (table_branches t j)) ++ turned_from t 0 (suc j + table_branches t j) k
  unfolding table_branches
  first_run j k = run (nat_abs (table_left t j)) (suc j) k

  turn_first : (j k : ℕ) → nat_abs (table_right t j) ≤ 100000 → Turnable t 0 (suc j + table_branches t j) k
      → Turnable t 0 j (suc (table_branches t j) + k)
  unfolding table_branches
  turn_first j k s h =
      let r = nat_abs (table_left t j) in
      let q : suc r + k ≡ suc (r + k) = omega arith in
      subst (Turnable t 0 j) (sym q) ((λ z. s), run_turns r (suc j) k h)

  no_lines : (b : Bool) (j : ℕ) → column_from t b j 0 ≡ []
  no_lines false j = refl
  no_lines true j = refl

  nothing : (b : Bool) (j k : ℕ) → column_from t b j (0 + k) ≡ column_of b [] ++ column_from t b (j + 0) k
  nothing false j k = let e : j + 0 ≡ j = omega arith in let f : 0 + k ≡ k = omega arith in rw (e, f)
  nothing true j k = let e : j + 0 ≡ j = omega arith in let f : 0 + k ≡ k = omega arith in rw (e, f)

  turned_long : (rest j k : ℕ) → length (turned_from t rest j k) ≡ k
  turned_long rest j zero = refl
  turned_long rest j (suc k) = ap suc (turned_long (rest_after rest (table_left t j)) (suc j) k)

  pub column_long : (b : Bool) (j k : ℕ) → length (column_from t b j k) ≡ k
  column_long false j k = length-map (up_from j k) (table_left t) ∙ up_from_long j k
  column_long true j k = turned_long 0 j k

  -- ---- the columns of one action, and of many

  one : (b : Bool) (j k : ℕ) (e : Entry) → Stands j e
      → column_from t b j (suc (table_branches t j) + k) ≡ column_of b (entry_lines (negated e)) ++ column_from t b (table_after t j) k
  unfolding read_entry
  one false j k e h =
      let r = table_branches t j in
      let q : suc r + k ≡ suc (r + k) = omega arith in
      let a : table_after t j ≡ suc j + r = omega (arith, after_is j) in
      let l : length (map (table_line t) (up_from (j + 1) r)) ≡ r = length-map (up_from (j + 1) r) (table_line t) ∙ up_from_long (j + 1) r in
      let o : j + 1 ≡ suc j = omega arith in
      rw (
        q,
        a,
        h.is,
        l,
        lefts_read (up_from (j + 1) r),
        o,
        h.some,
        up_from_split (suc j) r k,
        map-append (table_left t) (up_from (suc j) r)
            (up_from (suc j + r) k),
      )
  one true j k e h =
      let r = table_branches t j in
      let q : suc r + k ≡ suc (r + k) = omega arith in
      let a : table_after t j ≡ suc j + r = omega (arith, after_is j) in
      let o : j + 1 ≡ suc j = omega arith in
      rw (q, a, h.is, rights_read (up_from (j + 1) r), o) (ap (λ (zs : List ℤ). neg_ℤ (table_right t j) ∷ zs) (first_run j k))

  pub columns_stand : (b : Bool) (es : List Entry) (j k : ℕ) → Stand j es
      → column_from t b j (span j es + k) ≡ column_of b (for_each entry_lines (map negated es)) ++ column_from t b (j + span j es) k
  columns_stand b [] j k h = nothing b j k
  columns_stand b (e ∷ es) j k h =
      let q : suc (table_branches t j) + span (table_after t j) es + k ≡ suc (table_branches t j) + (span (table_after t j) es + k) = omega arith in
      let m : j + (suc (table_branches t j) + span (table_after t j) es) ≡ table_after t j + span (table_after t j) es = omega (arith, after_is j) in
      let ls = entry_lines (negated e) in
      let rest = for_each entry_lines (map negated es) in
      rw (q, m)
      (one b j (span (table_after t j) es + k) e h.0
      ∙ ap (λ (zs : List ℤ). column_of b ls ++ zs) (columns_stand b es (table_after t j) k h.1)
      ∙ sym (append_assoc (column_of b ls) (column_of b rest) (column_from t b (table_after t j + span (table_after t j) es) k))
      ∙ ap (λ (zs : List ℤ). zs ++ column_from t b (table_after t j + span (table_after t j) es) k) (sym (column_++ b ls rest)))

  -- the columns of nothing but the actions
  pub column_stands : (b : Bool) (es : List Entry) (j : ℕ) → Stand j es
      → column_from t b j (span j es) ≡ column_of b (for_each entry_lines (map negated es))
  column_stands b es j h =
      let q : span j es + 0 ≡ span j es = omega arith in
      ap (column_from t b j) (sym q) ∙ columns_stand b es j 0 h ∙ ap (λ (zs : List ℤ). column_of b (for_each entry_lines (map negated es)) ++ zs)
      (no_lines b (j + span j es))
      ∙ append-nil (column_of b (for_each entry_lines (map negated es)))

  pub turns_stand : (es : List Entry) (j : ℕ) → Stand j es → Turnable t 0 j (span j es)
  turns_stand [] j h = tt
  turns_stand (e ∷ es) j h =
      let m : suc j + table_branches t j ≡ table_after t j = omega (arith, after_is j) in
      let k = span (table_after t j) es in
      turn_first j k h.0.small (subst (λ (i : ℕ). Turnable t 0 i k) (sym m) (turns_stand es (table_after t j) h.1))
