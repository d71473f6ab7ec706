-- Reading gives the content back: each size, count, line and action that is read from the words of a content is the one that it has.
-- Assumes nothing.
use Rattle.std.specs.Prelude.{◌≡◌, pos, get_or, take, drop}
use Rattle.std.proofs.Math.Path.{refl, sym, ap, ap₂}
use Rattle.std.proofs.Common.{◌∙◌, add-zero, get_or-append-add}
use mathlib.Core.List.{List, [], ◌++◌, map, append-nil, append_assoc}
use Prim.Native.Nat.{ℕ, zero, suc, ◌+◌, ◌*◌, ◌-◌, ◌≤◌, ◌<◌}
use native.Mathlib.Omega.{arith}
use borrow.Author.Tests.{lt-ltb}
use Rattle.std.proofs.Math.IntN.{nat_abs}
use Rattle.std.proofs.Math.ListN.{length, length-append, length-map, get_or-append, get_or-map}
use Rattle.std.proofs.Math.Seq.{take-length}
use Rattle.model.specs.Lists.{up_from, for_each}
use Rattle.model.specs.Model.{word, scale, horizon, line_count, stage_size, first_state, state_count, stage, action_count, left, right}
use Rattle.model.specs.Model.{branches, line_after, skip, state_line, action_line, transition_at, read_action, action}
use Rattle.content.specs.Content.{Line, Entry, Content, entry_lines, states, state_lines, lefts, rights, lengths, book_words}
use Rattle.laws.specs.Joined.{join_at, regroup, map_from, for_each-suc, for_each_split, for_each_at}
use Rattle.content.specs.Reading.{no_line, no_entry, states_of, lines_of, entry_at, lines_before, lines_after, line_transition, entry_action, action_of, transition_of, columns}

-- ---- the columns

module _ (c : Content) where
  pub scale_is : scale (book_words c) ≡ c.scale
  unfolding scale word book_words
  scale_is = refl

  pub horizon_is : horizon (book_words c) ≡ length c.stages - 1
  unfolding horizon word book_words
  horizon_is = refl

  pub lines_are : line_count (book_words c) ≡ length (lines_of c)
  unfolding line_count word book_words
  lines_are = refl

  -- the three sizes as words
  pub scale-word : word (book_words c) 0 ≡ pos c.scale
  unfolding word book_words
  scale-word = refl

  pub horizon-word : word (book_words c) 1 ≡ pos (length c.stages - 1)
  unfolding word book_words
  horizon-word = refl

  pub lines_word : word (book_words c) 2 ≡ pos (length (lines_of c))
  unfolding word book_words
  lines_word = refl

  word_at : (i : ℕ) → word (book_words c) (3 + i) ≡ get_or (columns c) i (pos 0)
  unfolding word book_words
  word_at i = let e : 3 + i ≡ suc (suc (suc i)) = omega arith in rw e (simp append_assoc)

  -- "how many posts each stage 0 to H has"
  pub stage-word : (n : ℕ) → n < length c.stages → word (book_words c) (3 + n) ≡ pos (length (get_or c.stages n []))
  stage-word n l =
      word_at n
      ∙ get_or-append (lengths c.stages) (lengths (states c) ++ (lefts (lines_of c) ++ rights (lines_of c))) (pos 0) n (rw length-map l)
      ∙ get_or-map (λ (s : List (List Entry)). pos (length s)) c.stages n []

  pub stage-size : (n : ℕ) → n < length c.stages → stage_size (book_words c) n ≡ length (get_or c.stages n [])
  unfolding stage_size
  stage-size n l = ap nat_abs (stage-word n l)

  -- "Posts are numbered from 0 through the stages in order"
  pub first-is : (n : ℕ) → n ≤ length c.stages → first_state (book_words c) n ≡ length (for_each (λ (s : List (List Entry)). s) (take n c.stages))
  unfolding first_state
  first-is zero h = refl
  first-is (suc n) h =
      ap₂ ◌+◌ (first-is n (omega arith)) (stage-size n h)
      ∙ sym (length-append (states_of (take n c.stages)) (get_or c.stages n []))
      ∙ ap length (sym (for_each-suc (λ (s : List (List Entry)). s) c.stages n [] h))

  -- state s of stage k
  pub state_at_lem : (k s : ℕ) → k < length c.stages → s < length (get_or c.stages k [])
      → get_or (states c) (first_state (book_words c) k + s) [] ≡ get_or (get_or c.stages k []) s []
  state_at_lem k s l h =
      ap (λ (n : ℕ). get_or (states c) (n + s) []) (first-is k (omega arith))
      ∙ for_each_at (λ (ss : List (List Entry)). ss) c.stages k [] s [] l h

module _ (c : Content) (some : 0 < length c.stages) where
  stages_are : horizon (book_words c) + 1 ≡ length c.stages
  stages_are = omega (arith, horizon_is c)

  -- "S is their sum."
  pub states_are : state_count (book_words c) ≡ length (states c)
  unfolding state_count
  states_are =
      ap (first_state (book_words c)) stages_are ∙ first-is c (length c.stages) (omega arith)
      ∙ ap (λ (ss : List (List (List Entry))). length (states_of ss)) (take-length c.stages)

  -- "Is the length exactly 4 + H + S + 2L words?"
  words_are : length (book_words c) ≡ 3 + (length c.stages + (length (states c) + (length (lines_of c) + length (lines_of c))))
  unfolding book_words
  words_are = simp (length-append, length-map) (omega arith)

  pub length_is : length (book_words c) ≡ 4 + horizon (book_words c) + state_count (book_words c) + 2 * line_count (book_words c)
  length_is = omega (arith, words_are, stages_are, states_are, lines_are c)

  -- "how many choices each post has"
  pub count_word : (p : ℕ) → p < length (states c) → word (book_words c) (4 + horizon (book_words c) + p) ≡ pos (length (get_or (states c) p []))
  count_word p l =
      let e : 4 + horizon (book_words c) + p ≡ 3 + (length c.stages + p) = omega (arith, stages_are) in
      ap (word (book_words c)) e ∙ word_at c (length c.stages + p)
      ∙ join_at (lengths c.stages) (lengths (states c) ++ (lefts (lines_of c) ++ rights (lines_of c))) (pos 0) (length c.stages) p (rw length-map)
      ∙ get_or-append (lengths (states c)) (lefts (lines_of c) ++ rights (lines_of c)) (pos 0) p (rw length-map l)
      ∙ get_or-map (λ (s : List Entry). pos (length s)) (states c) p []

  pub count_is : (p : ℕ) → p < length (states c) → action_count (book_words c) p ≡ length (get_or (states c) p [])
  unfolding action_count
  count_is p l = ap nat_abs (count_word p l)

  -- the words after those of the stages and of the states
  line_word : (i : ℕ) → word (book_words c) (4 + horizon (book_words c) + state_count (book_words c) + i)
      ≡ get_or (lefts (lines_of c) ++ rights (lines_of c)) i (pos 0)
  line_word i =
      let e : 4 + horizon (book_words c) + state_count (book_words c) + i ≡ 3 + (length c.stages + (length (states c) + i)) =
      omega (arith, stages_are, states_are) in
      ap (word (book_words c)) e ∙ word_at c (length c.stages + (length (states c) + i))
      ∙ join_at (lengths c.stages) (lengths (states c) ++ (lefts (lines_of c) ++ rights (lines_of c))) (pos 0) (length c.stages)
      (length (states c) + i) (rw length-map)
      ∙ join_at (lengths (states c)) (lefts (lines_of c) ++ rights (lines_of c)) (pos 0) (length (states c)) i (rw length-map)

  -- "L words of left column, then L words of right column."
  pub left_is : (i : ℕ) → i < length (lines_of c) → left (book_words c) i ≡ (get_or (lines_of c) i no_line).left
  unfolding left
  left_is i l =
      line_word i ∙ get_or-append (lefts (lines_of c)) (rights (lines_of c)) (pos 0) i (rw length-map l)
      ∙ get_or-map (λ (n : Line). n.left) (lines_of c) i no_line

  pub right_is : (i : ℕ) → right (book_words c) i ≡ (get_or (lines_of c) i no_line).right
  unfolding right
  right_is i =
      let e : 4 + horizon (book_words c) + state_count (book_words c) + line_count (book_words c) + i
      ≡ 4 + horizon (book_words c) + state_count (book_words c) + (length (lines_of c) + i) = omega (arith, lines_are c) in
      ap (word (book_words c)) e ∙ line_word (length (lines_of c) + i)
      ∙ join_at (lefts (lines_of c)) (rights (lines_of c)) (pos 0) (length (lines_of c)) i (rw length-map)
      ∙ get_or-map (λ (n : Line). n.right) (lines_of c) i no_line

  -- ---- an entry whose lines stand between others

  module _ (pre : List Line) (e : Entry) (post : List Line) (split : lines_of c ≡ pre ++ (entry_lines e ++ post)) where
    entry_line : (i : ℕ) → i < length (entry_lines e)
        → (length pre + i < length (lines_of c)) × (get_or (lines_of c) (length pre + i) no_line ≡ get_or (entry_lines e) i no_line)
    entry_line i l = (
      omega (arith, ap length split, length-append pre (entry_lines e ++ post), length-append (entry_lines e) post),
      ap (λ (ls : List Line). get_or ls (length pre + i) no_line) split ∙ get_or-append-add pre (entry_lines e ++ post) i no_line
          ∙ get_or-append (entry_lines e) post no_line i l,
    )

    left_at : (i : ℕ) → i < length (entry_lines e) → left (book_words c) (length pre + i) ≡ (get_or (entry_lines e) i no_line).left
    left_at i l = let b = entry_line i l in left_is (length pre + i) b.0 ∙ ap (λ (n : Line). n.left) b.1

    right_at : (i : ℕ) → i < length (entry_lines e) → right (book_words c) (length pre + i) ≡ (get_or (entry_lines e) i no_line).right
    right_at i l = right_is (length pre + i) ∙ ap (λ (n : Line). n.right) (entry_line i l).1

    branches_at : branches (book_words c) (length pre) ≡ length e.lines
    unfolding branches
    branches_at = ap nat_abs (ap (left (book_words c)) (sym (add-zero (length pre))) ∙ left_at 0 (omega arith))

    read_at : (n : ℕ) → read_action (book_words c) n (length pre) ≡ entry_action (first_state (book_words c) (n + 1)) e
    unfolding read_action transition_at
    read_at n = ap₂ action_of cost transitions
      where
        base : ℕ
        base = first_state (book_words c) (n + 1)

        cost : right (book_words c) (length pre) ≡ e.amount
        cost = ap (right (book_words c)) (sym (add-zero (length pre))) ∙ right_at 0 (omega arith)

        each : (i : ℕ) → i < length e.lines → transition_at (book_words c) n (length pre + 1 + i) ≡ line_transition base (get_or e.lines i no_line)
        each i l =
            let q : length pre + 1 + i ≡ length pre + suc i = omega arith in
            ap (transition_at (book_words c) n) q ∙ ap₂ (transition_of base) (left_at (suc i) (omega arith)) (right_at (suc i) (omega arith))

        transitions : map (transition_at (book_words c) n) (up_from (length pre + 1) (branches (book_words c) (length pre)))
            ≡ map (line_transition base) e.lines
        transitions =
            ap (λ (r : ℕ). map (transition_at (book_words c) n) (up_from (length pre + 1) r)) branches_at
            ∙ map_from (transition_at (book_words c) n) (line_transition base) no_line (length pre + 1) e.lines each

  -- ---- entry a of state p

  module _ (p : ℕ) (state : p < length (states c)) where
    lines_split : (a : ℕ) → a < length (get_or (states c) p []) → lines_of c ≡ lines_before c p a ++ (entry_lines (entry_at c p a) ++ lines_after c p a)
    lines_split a l =
        for_each_split (for_each entry_lines) (states c) p [] state
        ∙ ap (λ (r : List Line). state_lines (take p (states c)) ++ (r ++ state_lines (drop (suc p) (states c))))
        (for_each_split entry_lines (get_or (states c) p []) a no_entry l)
        ∙ regroup (state_lines (take p (states c))) (for_each entry_lines (take a (get_or (states c) p []))) (entry_lines (entry_at c p a))
        (for_each entry_lines (drop (suc a) (get_or (states c) p []))) (state_lines (drop (suc p) (states c)))

    before-suc : (a : ℕ) → a < length (get_or (states c) p []) → lines_before c p (suc a) ≡ lines_before c p a ++ entry_lines (entry_at c p a)
    before-suc a l =
        ap (λ (r : List Line). state_lines (take p (states c)) ++ r) (for_each-suc entry_lines (get_or (states c) p []) a no_entry l)
        ∙ sym (append_assoc (state_lines (take p (states c))) (for_each entry_lines (take a (get_or (states c) p []))) (entry_lines (entry_at c p a)))

    before-all : lines_before c p (length (get_or (states c) p [])) ≡ state_lines (take (suc p) (states c))
    before-all =
        ap (λ (es : List Entry). state_lines (take p (states c)) ++ for_each entry_lines es) (take-length (get_or (states c) p []))
        ∙ sym (for_each-suc (for_each entry_lines) (states c) p [] state)

    skip_is : (a : ℕ) → a ≤ length (get_or (states c) p [])
        → skip (book_words c) (length (state_lines (take p (states c)))) a ≡ length (lines_before c p a)
    unfolding skip line_after
    skip_is zero h = ap length (sym (append-nil (state_lines (take p (states c)))))
    skip_is (suc a) h =
        ap (line_after (book_words c)) (skip_is a (omega arith))
        ∙ omega (
          arith,
          branches_at (lines_before c p a) (entry_at c p a) (lines_after c p a) (lines_split a h),
          ap length (before-suc a h),
          length-append (lines_before c p a) (entry_lines (entry_at c p a)),
        )

  -- "The lines follow the posts in order and each post's choices in order, both from 0."
  pub state_line_lem : (p : ℕ) → p ≤ length (states c) → state_line (book_words c) p ≡ length (state_lines (take p (states c)))
  unfolding state_line
  state_line_lem zero h = refl
  state_line_lem (suc p) h =
      ap₂ (skip (book_words c)) (state_line_lem p (omega arith)) (count_is p h) ∙ skip_is p h (length (get_or (states c) p [])) (omega arith)
      ∙ ap length (before-all p h)

  pub action_line_lem : (p a : ℕ) → p < length (states c) → a ≤ length (get_or (states c) p []) → action_line (book_words c) p a ≡ length (lines_before c p a)
  unfolding action_line
  action_line_lem p a l h = ap (λ (j : ℕ). skip (book_words c) j a) (state_line_lem p (omega arith)) ∙ skip_is p l a h

  -- "A choice's first line holds r (left) and its cost in seconds (right). Then come its r lines"
  pub read_is : (n p a : ℕ) → p < length (states c) → a < length (get_or (states c) p [])
      → read_action (book_words c) n (action_line (book_words c) p a) ≡ entry_action (first_state (book_words c) (n + 1)) (entry_at c p a)
  read_is n p a l h =
      ap (read_action (book_words c) n) (action_line_lem p a l (omega arith))
      ∙ read_at (lines_before c p a) (entry_at c p a) (lines_after c p a) (lines_split p l a h) n

  pub action_read : (p a : ℕ) → p < length (states c) → a < length (get_or (states c) p [])
      → action (book_words c) p a ≡ entry_action (first_state (book_words c) (stage (book_words c) p + 1)) (entry_at c p a)
  unfolding action
  action_read p a l h =
      rw (
        lt-ltb p (state_count (book_words c)) (omega (arith, states_are)),
        lt-ltb a (action_count (book_words c) p) (omega (arith, count_is p l)),
      ) (read_is (stage (book_words c) p) p a l h)
