-- The book of a planners' table in the table's words: its sizes, how many actions each state has, and each action. Stage k of the book has state s of
-- the table at the place of k and s.
-- Assumes nothing.
use Rattle.std.specs.Prelude.{◌≡◌, false, ◌⊎◌, pos, negsuc, nat_abs, neg_ℤ, replicate}
use Rattle.std.proofs.Math.Path.{refl, ap, ap₂}
use Rattle.std.proofs.Common.{sym, ◌∙◌, inl, inr, eq-or-lt_of_le, zero-add, add-one, ne_eqb}
use mathlib.Core.List.{List, [], ◌∷◌, map, map-map}
use Prim.Native.Nat.{ℕ, zero, suc, ◌+◌, ◌*◌, ◌-◌, ◌≤◌, ◌<◌}
use native.Mathlib.Omega.{arith}
use Rattle.std.proofs.Math.IntN.{ℤ}
use Rattle.std.proofs.Math.ListN.{length, get_or, length-append, length-replicate, get_or-replicate, get_or-append}
use Rattle.std.proofs.lemmas.List.{length-map}
use Rattle.std.proofs.Math.Seq.{get_or_at}
use Rattle.model.specs.Lists.{up_from}
use Rattle.model.specs.Model.{Words, Transition, Action, scale, horizon, stage_size, first_state, state_count, stage, action_count, action}
use Rattle.model.specs.Model.{closed_mark, closed}
use Rattle.model.specs.Policy.{nexts}
use Rattle.laws.specs.Members.{In, map_in}
use Rattle.questions.specs.Stages.{OfStage, stage_is, of_stage, first_mono, first-zero}
use Rattle.content.specs.Content.{Entry, states}
use Rattle.laws.specs.Joined.{mapped_long, mapped_at}
use Rattle.content.specs.Reading.{no_entry, entry_at, entry_action}
use Rattle.content.proofs.Reading.{scale_is, horizon_is, stage-size, state_at_lem, states_are, count_is, action_read}
use Rattle.reward_table.specs.Table.{table_scale, table_horizon, table_states, table_first, table_count, table_entry, table_state, closing_reward}
use Rattle.reward_table.specs.Days.{outcome, outcomes, place}
use Rattle.reward_table.specs.Convert.{negated, book_state, book_closing, later_stage, last_stage, book_content, table_book}
use Rattle.open_books.specs.Open.{AllOpen}
use Rattle.conversion.specs.Given.{Converted}
use Rattle.conversion.specs.Sizes.{Stands, state_at, placed, book_action, closing_action}

-- its next state is one of the book's
pub placed_in : (n k : ℕ) (o : Transition) (os : List Transition) → In o os → In (place n (suc k) o.next) (nexts (map (placed n k) os))
placed_in n k o os i = map_in (λ (x : Transition). x.next) (placed n k o) (map (placed n k) os) (map_in (placed n k) o os i)

-- ---- the content

later-length : (t : Words) → length (later_stage t) ≡ table_states t
unfolding later_stage
later-length t = mapped_long (book_state t) 0 (table_states t)

last-length : (t : Words) → length (last_stage t) ≡ table_states t
unfolding last_stage
last-length t = mapped_long (book_closing t) 0 (table_states t)

later_at : (t : Words) (s : ℕ) → s < table_states t → get_or (later_stage t) s [] ≡ book_state t s
unfolding later_stage
later_at t s l = mapped_at (book_state t) [] 0 (table_states t) s l ∙ ap (book_state t) (zero-add s)

last_at : (t : Words) (s : ℕ) → s < table_states t → get_or (last_stage t) s [] ≡ book_closing t s
unfolding last_stage
last_at t s l = mapped_at (book_closing t) [] 0 (table_states t) s l ∙ ap (book_closing t) (zero-add s)

state_length : (t : Words) (s : ℕ) → length (book_state t s) ≡ table_count t s
unfolding book_state table_state
state_length t s = length-map (map (table_entry t s) (up_from 0 (table_count t s))) negated ∙ mapped_long (table_entry t s) 0 (table_count t s)

state_entry : (t : Words) (s c : ℕ) → c < table_count t s → get_or (book_state t s) c no_entry ≡ negated (table_entry t s c)
unfolding book_state table_state
state_entry t s c l =
    ap (λ (es : List Entry). get_or es c no_entry) (map-map negated (table_entry t s) (up_from 0 (table_count t s)))
    ∙ mapped_at (λ (c : ℕ). negated (table_entry t s c)) no_entry 0 (table_count t s) c l
    ∙ ap (λ (c : ℕ). negated (table_entry t s c)) (zero-add c)

module _ (t : Words) (g : Converted t) where
  pub first_stands : Stands t 0 (table_first t)
  first_stands = record { stage-inside = omega arith; state_inside = g.first-inside; start = λ e. refl }

  stages_are : length (book_content t).stages ≡ table_horizon t + 1
  unfolding book_content
  stages_are =
      omega (
        arith,
        g.some_stages,
        length-append (replicate (table_horizon t - 1) (later_stage t)) (last_stage t ∷ []),
        length-replicate (table_horizon t - 1) (later_stage t),
      )

  some : 0 < length (book_content t).stages
  some = omega (arith, stages_are)

  stage-first : get_or (book_content t).stages 0 [] ≡ book_state t (table_first t) ∷ []
  unfolding book_content
  stage-first = refl

  stage-later : (k : ℕ) → suc k < table_horizon t → get_or (book_content t).stages (suc k) [] ≡ later_stage t
  unfolding book_content
  stage-later k l =
      get_or-append (replicate (table_horizon t - 1) (later_stage t)) (last_stage t ∷ []) [] k
      (rw (length-replicate (table_horizon t - 1) (later_stage t)) (omega arith))
      ∙ get_or-replicate (table_horizon t - 1) k (later_stage t) [] (omega arith)

  stage-last : (k : ℕ) → suc k ≡ table_horizon t → get_or (book_content t).stages (suc k) [] ≡ last_stage t
  unfolding book_content
  stage-last k e =
      get_or_at (replicate (table_horizon t - 1) (later_stage t)) (last_stage t) [] [] k
      (length-replicate (table_horizon t - 1) (later_stage t) ∙ omega arith)

  -- ---- sizes

  -- "D, H, n, the first state and L as sizes"
  pub scale_same : scale (table_book t) ≡ table_scale t
  unfolding table_book book_content
  scale_same = scale_is (book_content t)

  pub horizon-same : horizon (table_book t) ≡ table_horizon t
  unfolding table_book
  horizon-same = omega (arith, horizon_is (book_content t), stages_are)

  -- "The book has the first state alone at stage 0 and all n at each later stage"
  pub size-first : stage_size (table_book t) 0 ≡ 1
  unfolding table_book
  size-first = stage-size (book_content t) 0 some ∙ ap length stage-first

  pub size-later : (k : ℕ) → suc k ≤ table_horizon t → stage_size (table_book t) (suc k) ≡ table_states t
  unfolding table_book
  size-later k l = stage-size (book_content t) (suc k) (omega (arith, stages_are)) ∙ go (eq-or-lt_of_le l)
    where
      go : (suc k ≡ table_horizon t) ⊎ (suc k < table_horizon t) → length (get_or (book_content t).stages (suc k) []) ≡ table_states t
      go (inl e) = ap length (stage-last k e) ∙ last-length t
      go (inr h) = ap length (stage-later k h) ∙ later-length t

  pub first-later : (k : ℕ) → k ≤ table_horizon t → first_state (table_book t) (suc k) ≡ 1 + k * table_states t
  unfolding first_state
  first-later zero l = omega (arith, size-first)
  first-later (suc k) l = omega (arith, first-later k (omega arith), size-later k l)

  pub states-same : state_count (table_book t) ≡ 1 + table_horizon t * table_states t
  unfolding state_count
  states-same =
      ap (λ (h : ℕ). first_state (table_book t) (h + 1)) horizon-same
      ∙ ap (first_state (table_book t)) (add-one (table_horizon t)) ∙ first-later (table_horizon t) (omega arith)

  -- ---- the place of stage k and state s

  place_of : (k s : ℕ) → Stands t k s → OfStage (table_book t) (state_at t k s) k
  place_of zero s v = record {
    within = omega arith;
    from = omega (arith, first-zero (table_book t));
    to = omega (arith, first-later 0 (omega arith));
  }
  place_of (suc k) s v = record {
    within = omega (arith, horizon-same, v.stage-inside);
    from = omega (arith, first-later k (omega (arith, v.stage-inside)));
    to = rw add-one (omega (arith, first-later (suc k) v.stage-inside, v.state_inside));
  }

  pub stage-same : (k s : ℕ) → Stands t k s → stage (table_book t) (state_at t k s) ≡ k
  stage-same k s v = stage_is (table_book t) (state_at t k s) k (place_of k s v)

  pub place_inside : (k s : ℕ) → Stands t k s → state_at t k s < state_count (table_book t)
  unfolding state_count
  place_inside k s v =
      let o = place_of k s v in
      omega (arith, o.to, first_mono (table_book t) (k + 1) (horizon (table_book t) + 1) (omega (arith, o.within)))

  -- and every state of the book stands at such a place
  pub place_at : (p k : ℕ) → OfStage (table_book t) p k → (s : ℕ) × Stands t k s × (p ≡ state_at t k s)
  place_at p zero o = (
    table_first t,
    first_stands,
    omega (arith, o.to, first-later 0 (omega arith)),
  )
  place_at p (suc k) o = (
    p - (1 + k * table_states t),
    record {
      stage-inside = omega (arith, o.within, horizon-same);
      state_inside = omega (arith, from, to);
      start = λ e. absurd (omega arith);
    },
    omega (arith, from),
  )
    where
      from : 1 + k * table_states t ≤ p
      from = omega (arith, o.from, o.within, horizon-same, first-later k (omega (arith, o.within, horizon-same)))

      to : p < 1 + suc k * table_states t
      to = omega (arith, rw add-one at o.to, first-later (suc k) (omega (arith, o.within, horizon-same)))

  listed : (k s : ℕ) → Stands t k s → state_at t k s < length (states (book_content t))
  unfolding table_book
  listed k s v = omega (arith, place_inside k s v, states_are (book_content t) some)

  state_later : (k s : ℕ) → Stands t (suc k) s
      → get_or (states (book_content t)) (state_at t (suc k) s) [] ≡ get_or (get_or (book_content t).stages (suc k) []) s []
  unfolding table_book
  state_later k s v =
      ap (λ (p : ℕ). get_or (states (book_content t)) p []) here
      ∙ state_at_lem (book_content t) (suc k) s (omega (arith, stages_are, v.stage-inside))
      (omega (arith, stage-size (book_content t) (suc k) (omega (arith, stages_are, v.stage-inside)), size-later k v.stage-inside))
    where
      here : 1 + k * table_states t + s ≡ first_state (table_book t) (suc k) + s
      here = omega (arith, first-later k (omega (arith, v.stage-inside)))

  -- the actions that stand there
  state_before : (k s : ℕ) → Stands t k s → k < table_horizon t → get_or (states (book_content t)) (state_at t k s) [] ≡ book_state t s
  unfolding book_content
  state_before zero s v l = ap (book_state t) (sym (v.start refl))
  state_before (suc k) s v l =
      state_later k s v ∙ ap (λ (ss : List (List Entry)). get_or ss s []) (stage-later k l) ∙ later_at t s v.state_inside

  state_closing : (k s : ℕ) → Stands t k s → k ≡ table_horizon t → get_or (states (book_content t)) (state_at t k s) [] ≡ book_closing t s
  state_closing zero s v e = absurd (omega (arith, g.some_stages))
  state_closing (suc k) s v e =
      state_later k s v ∙ ap (λ (ss : List (List Entry)). get_or ss s []) (stage-last k e) ∙ last_at t s v.state_inside

  -- ---- its actions

  pub count-before : (k s : ℕ) → Stands t k s → k < table_horizon t → action_count (table_book t) (state_at t k s) ≡ table_count t s
  unfolding table_book
  count-before k s v l =
      count_is (book_content t) some (state_at t k s) (listed k s v) ∙ ap length (state_before k s v l) ∙ state_length t s

  pub count_closing : (k s : ℕ) → Stands t k s → k ≡ table_horizon t → action_count (table_book t) (state_at t k s) ≡ 1
  unfolding table_book book_closing
  count_closing k s v e =
      count_is (book_content t) some (state_at t k s) (listed k s v) ∙ ap length (state_closing k s v e)

  -- an action as it is read at the place of k and s
  action_at : (k s c : ℕ) → Stands t k s → c < action_count (table_book t) (state_at t k s)
      → action (table_book t) (state_at t k s) c
      ≡ entry_action (first_state (table_book t) (k + 1)) (entry_at (book_content t) (state_at t k s) c)
  unfolding table_book
  action_at k s c v l =
      action_read (book_content t) some p c (listed k s v) (omega (arith, count_is (book_content t) some p (listed k s v)))
      ∙ ap (λ (n : ℕ). entry_action (first_state (table_book t) (n + 1)) (entry_at (book_content t) p c)) (stage-same k s v)
    where
      p : ℕ
      p = state_at t k s

  pub action-before : (k s c : ℕ) → Stands t k s → k < table_horizon t → c < table_count t s
      → action (table_book t) (state_at t k s) c ≡ book_action t k s c
  unfolding outcome outcomes
  action-before k s c v h l =
      action_at k s c v (rw (count-before k s v h) l)
      ∙ ap₂ entry_action (ap (first_state (table_book t)) (add-one k) ∙ first-later k (omega arith))
      (ap (λ (es : List Entry). get_or es c no_entry) (state_before k s v h) ∙ state_entry t s c l)
      ∙ ap (λ (ts : List Transition). action_of (neg_ℤ (table_entry t s c).amount) ts)
      (sym (map-map (placed (table_states t) k) outcome (table_entry t s c).lines))
    where
      action_of : ℤ → List Transition → Action
      action_of z ts = record { cost = z; transitions = ts }

  pub action_closing : (k s : ℕ) → Stands t k s → k ≡ table_horizon t → action (table_book t) (state_at t k s) 0 ≡ closing_action t s
  unfolding book_closing
  action_closing k s v e =
      action_at k s 0 v (rw (count_closing k s v e) (omega arith))
      ∙ ap (λ (es : List Entry). entry_action (first_state (table_book t) (k + 1)) (get_or es 0 no_entry)) (state_closing k s v e)

  -- no action is closed: minus a reward within 100,000 is not the mark
  small_open : (z : ℤ) → nat_abs z ≤ 100000 → closed (neg_ℤ z) ≡ false
  small_open (pos zero) h = refl
  small_open (pos (suc n)) h = refl
  small_open (negsuc n) h = ne_eqb (suc n) closed_mark (λ e. omega arith)

  pub all_open : AllOpen (table_book t)
  all_open p c l k =
      let h = place_at p (stage (table_book t) p) (of_stage (table_book t) p l) in
      rw h.2 (at (stage (table_book t) p) h.0 h.1 (rw h.2 at k))
    where
      at : (k s : ℕ) → Stands t k s → c < action_count (table_book t) (state_at t k s) → closed (action (table_book t) (state_at t k s) c).cost ≡ false
      at k s v b = go (eq-or-lt_of_le v.stage-inside)
        where
          go : (k ≡ table_horizon t) ⊎ (k < table_horizon t) → closed (action (table_book t) (state_at t k s) c).cost ≡ false
          go (inl e) =
              let z : c ≡ 0 = omega (arith, count_closing k s v e) in
              rw (z, action_closing k s v e) (small_open (closing_reward t s) (g.closings s v.state_inside))
          go (inr e) =
              let d : c < table_count t s = rw (count-before k s v e) at b in
              rw (action-before k s c v e d) (small_open (table_entry t s c).amount (g.rewards s c v.state_inside d))
