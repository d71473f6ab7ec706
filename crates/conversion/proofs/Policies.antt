-- The policies of a table's book are the policies of the table. Stage by stage, both find the same states reached, so both allow the same bytes.
-- Assumes nothing.
use Rattle.std.specs.Prelude.{◌≡◌, Bool, true, false, ◌&&◌, ◌⊎◌, List, [], ◌∷◌, map, eqb, length}
use Rattle.std.proofs.Math.Path.{refl, sym}
use Rattle.std.proofs.Common.{ap, ◌∙◌, subst, inl, inr, eq-or-lt_of_le, arith, eqb→eq}
use Prim.Native.Nat.{ℕ, zero, suc, ◌+◌, ◌*◌, ◌≤◌, ◌<◌}
use borrow.Author.Tests.{eq-eqb, ne_eqb}
use Rattle.std.proofs.Math.Dec.{T}
use Rattle.model.specs.Lists.{all, up_from, is_in, for_each}
use Rattle.model.specs.Model.{Words, Transition, Action, state_count, stage, togo, action_count, action, options}
use Rattle.model.specs.Policy.{Policy, nexts, allowed, onward, is_policy}
use Rattle.model.specs.Path.{byte_at}
use Rattle.laws.specs.Members.{T_true, true-T, and_T, T_and, In, in_one, in_++, ++-in, in_for_each, for_each_in, in_map, map_in, is_in_in, in_is_in}
use Rattle.laws.specs.Members.{same_test}
use Rattle.laws.specs.Members.{up_from_in, at_nexts}
use Rattle.laws.specs.Policies.{IsPolicy, reached_from, reached_mono, Reads, reads, policy-length}
use Rattle.laws.specs.Walks.{policy-allowed, allowed-policy}
use Rattle.questions.specs.Ranges.{all-at, all_yes}
use Rattle.questions.specs.Stages.{of_stage}
use Rattle.accepted.specs.Shape.{policy_is, shape}
use Rattle.accepted.specs.Demands.{reached, start_reached}
use Rattle.reward_table.specs.Table.{table_horizon, table_states, table_first, table_count}
use Rattle.reward_table.specs.Days.{outcomes, choice_at, reached_at, choices, choice_allowed, is_table_policy}
use Rattle.reward_table.specs.Convert.{table_book}
use Rattle.open_books.proofs.Open.{options-all}
use Rattle.conversion.specs.Given.{Converted}
use Rattle.conversion.specs.Sizes.{Stands, state_at, placed}
use Rattle.conversion.proofs.Sizes.{first_stands, placed_in, horizon-same, states-same, stage-same, place_inside}
use Rattle.conversion.proofs.Sizes.{place_at, count-before, count_closing, action-before, all_open}
use Rattle.conversion.proofs.Days.{next_stands}
use Rattle.conversion.specs.Policies.{Allowed, BookAllowed, Same}

-- what is reached, for any bytes: what was known before, and the next states of each action taken
module _ (act : ℕ → ℕ → Action) (f : ℕ → ℕ) where
  reached_by : (p : ℕ) (reach : List ℕ) (bs : Policy) → Reads f p bs → (q : ℕ) → In q (reached_from act p reach bs)
      → In q reach ⊎ ((r : ℕ) × (p ≤ r) × (r < p + length bs) × In q (nexts (act r (f r)).transitions))
  reached_by p reach [] e q i = inl i
  reached_by p reach (b ∷ bs) e q i = go (reached_by (suc p) (onward act p b reach) bs e.1 q i)
    where
      Why : ℕ → ℕ → Type 0
      Why p n = (r : ℕ) × (p ≤ r) × (r < p + n) × In q (nexts (act r (f r)).transitions)

      split : In q (nexts (act p b).transitions) ⊎ In q reach → In q reach ⊎ Why p (suc (length bs))
      split (inl j) = inr (p, omega arith, omega arith, rw e.0 j)
      split (inr j) = inl j

      go : In q (onward act p b reach) ⊎ Why (suc p) (length bs) → In q reach ⊎ Why p (suc (length bs))
      go (inl j) = split (in_++ q (nexts (act p b).transitions) reach j)
      go (inr w) = inr (w.0, omega (arith, w.1), omega (arith, w.2), w.3)

  by_reached : (p : ℕ) (reach : List ℕ) (bs : Policy) → Reads f p bs → (q r : ℕ) → p ≤ r → r < p + length bs
      → In q (nexts (act r (f r)).transitions) → In q (reached_from act p reach bs)
  by_reached p reach [] e q r a l i = absurd (omega arith)
  by_reached p reach (b ∷ bs) e q r a l i =
      go (eq-or-lt_of_le a) (λ k. by_reached (suc p) (onward act p b reach) bs e.1 q r k (omega arith) i)
    where
      here : In q (nexts (act p (f p)).transitions) → In q (reached_from act p reach (b ∷ bs))
      here j =
          reached_mono act (suc p) (onward act p b reach) bs q (++-in q (nexts (act p b).transitions) reach (inl (rw e.0 at j)))

      go : (p ≡ r) ⊎ (p < r) → (p < r → In q (reached_from act p reach (b ∷ bs))) → In q (reached_from act p reach (b ∷ bs))
      go (inl k) ih = here (subst (λ (x : ℕ). In q (nexts (act x (f x)).transitions)) (sym k) i)
      go (inr k) ih = ih k

module _ (t : Words) (g : Converted t) where
  options-same : (k s : ℕ) → Stands t k s → options (table_book t) (state_at t k s) ≡ choices t k s
  unfolding choices
  options-same k s v =
      options-all (table_book t) (all_open t g) (state_at t k s) (place_inside t g k s v) ∙ go (eq-or-lt_of_le v.stage-inside)
    where
      go : (k ≡ table_horizon t) ⊎ (k < table_horizon t) → up_from 0 (action_count (table_book t) (state_at t k s)) ≡ choices t k s
      go (inl e) = rw (eq-eqb k (table_horizon t) e, count_closing t g k s v e)
      go (inr l) = rw (ne_eqb k (table_horizon t) (λ e. omega arith), count-before t g k s v l)

  module _ (bs : Policy) (long : length bs ≡ state_count (table_book t)) where
    -- a choice before stage H where the table is reached
    choice_below : (k s : ℕ) → k < table_horizon t → Allowed t bs k s → In s (reached_at t bs k) → byte_at bs (state_at t k s) < table_count t s
    unfolding choices
    choice_below k s l a r =
        let i : In (byte_at bs (state_at t k s)) (up_from 0 (table_count t s)) =
        rw (T_true (is_in s (reached_at t bs k)) (in_is_in s (reached_at t bs k) r), ne_eqb k (table_horizon t) (λ e. omega arith)) at a in
        omega (arith, up_from_in 0 (table_count t s) i)

    module _ (k : ℕ) (before : k < table_horizon t) (valid : (s : ℕ) → In s (reached_at t bs k) → Stands t k s)
        (allow : (s : ℕ) → Stands t k s → Allowed t bs k s) where
      -- a state reached at the next stage: the state and the outcome that lead to it
      from_state : (s' : ℕ) → In s' (reached_at t bs (suc k))
          → (s : ℕ) × In s (reached_at t bs k) × ((o : Transition) × (s' ≡ o.next) × In o (outcomes t s (byte_at bs (state_at t k s))))
      unfolding reached_at choice_at
      from_state s' i =
          let f = in_for_each (λ (s : ℕ). nexts (outcomes t s (choice_at t bs k s))) s' (reached_at t bs k) i in
          (f.0, f.1, in_map (λ (o : Transition). o.next) s' (outcomes t f.0 (choice_at t bs k f.0)) f.2)

      below_at : (s : ℕ) → In s (reached_at t bs k) → byte_at bs (state_at t k s) < table_count t s
      below_at s r = choice_below k s before (allow s (valid s r)) r

      valid_next : (s' : ℕ) → In s' (reached_at t bs (suc k)) → Stands t (suc k) s'
      valid_next s' i =
          let f = from_state s' i in
          let o = f.2 in
          subst (Stands t (suc k)) (sym o.1)
          (next_stands t g k f.0 (byte_at bs (state_at t k f.0)) (valid f.0 f.1) before (below_at f.0 f.1) o.0 o.2)

      -- reached in the table, so in the book
      book_at : (s : ℕ) (o : Transition) → In s (reached_at t bs k) → In o (outcomes t s (byte_at bs (state_at t k s)))
          → In (state_at t (suc k) o.next) (reached (table_book t) bs)
      book_at s o r i =
          by_reached (action (table_book t)) (byte_at bs) 0 (0 ∷ []) bs (reads bs) (state_at t (suc k) o.next) p (omega arith)
          (omega (arith, long, place_inside t g k s (valid s r)))
          (rw (action-before t g k s (byte_at bs p) (valid s r) before (below_at s r))
          (placed_in (table_states t) k o (outcomes t s (byte_at bs p)) i))
        where
          p : ℕ
          p = state_at t k s

      book-next : (s' : ℕ) → In s' (reached_at t bs (suc k)) → In (state_at t (suc k) s') (reached (table_book t) bs)
      book-next s' i =
          let f = from_state s' i in
          subst (λ (x : ℕ). In (state_at t (suc k) x) (reached (table_book t) bs)) (sym f.2.1) (book_at f.0 f.2.0 f.1 f.2.2)

      -- reached in the book, so in the table
      table_at : (s s' : ℕ) → Stands t k s
          → In (state_at t (suc k) s') (nexts (action (table_book t) (state_at t k s) (byte_at bs (state_at t k s))).transitions)
          → In s' (reached_at t bs (suc k))
      unfolding reached_at choice_at
      table_at s s' v i = go (is_in s (reached_at t bs k)) refl
        where
          p : ℕ
          p = state_at t k s

          go : (b : Bool) → is_in s (reached_at t bs k) ≡ b → In s' (for_each (λ (s : ℕ). nexts (outcomes t s (choice_at t bs k s))) (reached_at t bs k))
          go true e =
              let r = is_in_in s (reached_at t bs k) (true-T e) in
              let j : In (state_at t (suc k) s') (nexts (map (placed (table_states t) k) (outcomes t s (byte_at bs p)))) =
              rw (action-before t g k s (byte_at bs p) v before (below_at s r)) at i in
              let x = in_map (λ (x : Transition). x.next) (state_at t (suc k) s') (map (placed (table_states t) k) (outcomes t s (byte_at bs p))) j in
              let o = in_map (placed (table_states t) k) x.0 (outcomes t s (byte_at bs p)) x.2 in
              let same : s' ≡ o.0.next = omega (arith, x.1, ap (λ (y : Transition). y.next) o.1) in
              for_each_in (λ (s : ℕ). nexts (outcomes t s (choice_at t bs k s))) s' (reached_at t bs k) s r
              (rw same (map_in (λ (y : Transition). y.next) o.0 (outcomes t s (byte_at bs p)) o.2))
          go false e =
              let b : byte_at bs p ≡ 255 = in_one (rw e at (allow s v)) in
              absurd (subst (λ (ts : List Transition). In (state_at t (suc k) s') (nexts ts))
              (ap (λ (b : ℕ). (action (table_book t) p b).transitions) b ∙ (shape (table_book t) g.book).bare p) i)

      table-next : (s' : ℕ) → Stands t (suc k) s' → In (state_at t (suc k) s') (reached (table_book t) bs) → In s' (reached_at t bs (suc k))
      unfolding togo
      table-next s' v i =
          go (reached_by (action ws) (byte_at bs) 0 (0 ∷ []) bs (reads bs) q i)
        where
          ws : Words
          ws = table_book t

          q : ℕ
          q = state_at t (suc k) s'

          from : (r : ℕ) → (s : ℕ) × Stands t k s × (r ≡ state_at t k s) → In q (nexts (action ws r (byte_at bs r)).transitions)
              → In s' (reached_at t bs (suc k))
          from r h j = table_at h.0 s' h.1 (subst (λ (r : ℕ). In q (nexts (action ws r (byte_at bs r)).transitions)) h.2 j)

          go : In q (0 ∷ []) ⊎ ((r : ℕ) × (0 ≤ r) × (r < 0 + length bs) × In q (nexts (action ws r (byte_at bs r)).transitions))
              → In s' (reached_at t bs (suc k))
          go (inl j) = absurd (omega (arith, in_one j))
          go (inr w) =
              let state : w.0 < state_count ws = omega (arith, w.2, long) in
              let o = of_stage ws w.0 state in
              let on : togo ws w.0 ≡ suc (togo ws q) =
              at_nexts (λ (x : ℕ). togo ws w.0 ≡ suc (togo ws x)) (action ws w.0 (byte_at bs w.0)).transitions
              ((shape ws g.book).step w.0 (byte_at bs w.0)) q w.3 in
              let e : stage ws w.0 ≡ k = omega (arith, o.within, horizon-same t g, stage-same t g (suc k) s' v) in
              from w.0 (place_at t g w.0 k (rw e at o)) w.3

    -- where each byte is allowed by the table, once table and book agree there, they agree everywhere
    agree : ((k s : ℕ) → Stands t k s → Same t bs k s → Allowed t bs k s) → (k : ℕ) → k ≤ table_horizon t
        → ((s : ℕ) → In s (reached_at t bs k) → Stands t k s) × ((s : ℕ) → Stands t k s → Same t bs k s)
    unfolding reached_at
    agree hyp zero l = (
      λ s i. record { stage-inside = l; state_inside = rw (in_one i) g.first-inside; start = λ e. in_one i },
      λ s v. T_true (is_in 0 (reached (table_book t) bs)) (in_is_in 0 (reached (table_book t) bs) (start_reached (table_book t) g.book bs))
          ∙ sym (T_true (is_in s (table_first t ∷ [])) (in_is_in s (table_first t ∷ []) (inl (v.start refl)))),
    )
    agree hyp (suc k) l =
        let ih = agree hyp k (omega arith) in
        let allow : (s : ℕ) → Stands t k s → Allowed t bs k s = λ s v. hyp k s v (ih.1 s v) in (
          valid_next k l ih.0 allow,
          λ s v. same_test (is_in (state_at t (suc k) s) (reached (table_book t) bs)) (is_in s (reached_at t bs (suc k)))
              (λ i. in_is_in s (reached_at t bs (suc k))
              (table-next k l ih.0 allow s v (is_in_in (state_at t (suc k) s) (reached (table_book t) bs) i)))
              (λ i. in_is_in (state_at t (suc k) s) (reached (table_book t) bs)
              (book-next k l ih.0 allow s (is_in_in s (reached_at t bs (suc k)) i))),
        )

  -- ---- the two tests

  module _ (bs : Policy) where
    abbrev long_test : Bool
    long_test = eqb (length bs) (1 + table_horizon t * table_states t)

    abbrev first_test : Bool
    first_test = choice_allowed t bs 0 (table_first t)

    abbrev stage_test : ℕ → Bool
    stage_test k = all (table_states t) (choice_allowed t bs (suc k))

    book-table : T (is_policy (table_book t) bs) → T (is_table_policy t bs)
    unfolding is_table_policy choice_allowed choice_at
    book-table is =
        T_and (long_test && first_test) (all (table_horizon t) stage_test)
        (T_and long_test first_test (true-T (eq-eqb (length bs) (1 + table_horizon t * table_states t) (long ∙ states-same t g)))
        (test 0 (table_first t) (first_stands t g)))
        (true-T (all_yes (table_horizon t) stage_test
        (λ k l. all_yes (table_states t) (choice_allowed t bs (suc k))
        (λ s h. T_true (choice_allowed t bs (suc k) s)
        (test (suc k) s (record { stage-inside = l; state_inside = h; start = λ e. absurd (omega arith) }))))))
      where
        walk : IsPolicy (action (table_book t)) (options (table_book t)) (state_count (table_book t)) 0 (0 ∷ []) bs
        walk = (policy_is (table_book t) bs).0 is

        long : length bs ≡ state_count (table_book t)
        long = policy-length (action (table_book t)) (options (table_book t)) (state_count (table_book t)) 0 (0 ∷ []) bs walk

        allow : (k s : ℕ) → Stands t k s → Same t bs k s → Allowed t bs k s
        allow k s v e =
            let h : BookAllowed t bs (state_at t k s) =
            policy-allowed (action (table_book t)) (options (table_book t)) (shape (table_book t) g.book).later (byte_at bs)
            (state_count (table_book t)) 0 (0 ∷ []) bs walk (reads bs) (state_at t k s) (omega arith) (omega (arith, place_inside t g k s v)) in
            rw (options-same k s v, e) at h

        test : (k s : ℕ) → Stands t k s → T (choice_allowed t bs k s)
        test k s v =
            in_is_in (byte_at bs (state_at t k s)) (allowed (choices t k s) (is_in s (reached_at t bs k)))
            (allow k s v ((agree bs long allow k v.stage-inside).1 s v))

    table-book : T (is_table_policy t bs) → T (is_policy (table_book t) bs)
    unfolding is_table_policy choice_allowed choice_at
    table-book is =
        (policy_is (table_book t) bs).1
        (allowed-policy (action (table_book t)) (options (table_book t)) (shape (table_book t) g.book).later (byte_at bs) (state_count (table_book t)) 0
        (0 ∷ []) bs long (reads bs) (λ q a l. here q (omega arith)))
      where
        two : T (long_test && first_test) × T (all (table_horizon t) stage_test)
        two = and_T (long_test && first_test) (all (table_horizon t) stage_test) is

        one : T long_test × T first_test
        one = and_T long_test first_test two.0

        long : length bs ≡ state_count (table_book t)
        long = eqb→eq (length bs) (1 + table_horizon t * table_states t) one.0 ∙ sym (states-same t g)

        test : (k s : ℕ) → Stands t k s → T (choice_allowed t bs k s)
        test zero s v = rw (v.start refl) one.1
        test (suc k) s v =
            true-T (all-at (table_states t) (choice_allowed t bs (suc k))
            (all-at (table_horizon t) stage_test (T_true (all (table_horizon t) stage_test) two.1) k v.stage-inside) s v.state_inside)

        allow : (k s : ℕ) → Stands t k s → Allowed t bs k s
        allow k s v = is_in_in (byte_at bs (state_at t k s)) (allowed (choices t k s) (is_in s (reached_at t bs k))) (test k s v)

        there : (k s : ℕ) → Stands t k s → BookAllowed t bs (state_at t k s)
        there k s v = rw (options-same k s v, (agree bs long (λ k s v e. allow k s v) k v.stage-inside).1 s v) (allow k s v)

        here : (q : ℕ) → q < state_count (table_book t) → BookAllowed t bs q
        here q l =
            let h = place_at t g q (stage (table_book t) q) (of_stage (table_book t) q l) in
            subst (BookAllowed t bs) (sym h.2) (there (stage (table_book t) q) h.0 h.1)

    pub policies-same : is_policy (table_book t) bs ≡ is_table_policy t bs
    policies-same = same_test (is_policy (table_book t) bs) (is_table_policy t bs) book-table table-book
