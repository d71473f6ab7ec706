-- What request 2.5 promises of a conversion, in its reader's words. Each law quotes the sentence that it renders.
-- Assumes nothing.
use Rattle.std.specs.Prelude.{◌≡◌, refl, true, ◌↔◌, List, [], ◌∷◌, map, ℕ, suc, ◌+◌, ◌*◌, ◌^◌, ◌≤◌, ◌<◌, T, ℤ, neg_ℤ, ◌<ℤ◌, length}
use Rattle.std.proofs.Math.Path.{sym, ap}
use Rattle.std.proofs.Common.{ap₂, ◌∙◌, arith, leb-true}
use Rattle.model.specs.Model.{Words, scale, horizon, stage_size, state_count, action_count, action}
use Rattle.model.specs.Questions.{first_no, book_number}
use Rattle.model.specs.Policy.{Policy, is_policy, has_policy}
use Rattle.model.specs.Path.{total_cost, total_weight, paths, policy_cost}
use Rattle.model.specs.Record.{count_questions, asked_number}
use Rattle.model.specs.Calls.{over}
use Rattle.laws.specs.Int.{ints, lt_in}
use Rattle.questions.specs.FirstNo.{passed, then_yes}
use Rattle.questions.specs.Answers.{gives}
use Rattle.accepted.specs.Demands.{weights_add_lem}
use Rattle.reward_table.specs.Table.{table_scale, table_horizon, table_states, table_count}
use Rattle.reward_table.specs.Days.{TableDay, table_days, is_table_policy, expected_reward}
use Rattle.reward_table.specs.Convert.{table_book, slice_questions, convert_number, convert_length, convert_slice}
use Rattle.open_books.proofs.Open.{open_policy}
use Rattle.open_books.specs.Former.{former_number, former_asked}
use Rattle.open_books.proofs.Same.{unchanged}
use Rattle.conversion.specs.Given.{converted, asked-last}
use Rattle.conversion.specs.Sizes.{Stands, state_at, book_action, closing_action}
use Rattle.conversion.proofs.Sizes.{scale_same, horizon-same, size-first, size-later, states-same}
use Rattle.conversion.proofs.Sizes.{count-before, count_closing, action-before, action_closing, all_open}
use Rattle.conversion.specs.Days.{as_path}
use Rattle.conversion.proofs.Days.{days_same, day_weight_lem, neg_parts, total-cost}
use Rattle.conversion.proofs.Policies.{policies-same}
use Rattle.conversion.specs.Demands.{days_weight}

-- "and its length in words is given"; at exit the slice begins with the book
pub slice_is : (t : Words) (slice : List ℤ) → convert_number t (length slice) ≡ 0 → convert_slice t slice ≡ over (table_book t) slice
unfolding convert_slice
slice_is t slice ok = sym (gives ok slice refl)

weight_days : (n : ℕ) (ds : List TableDay) → total_weight (map (as_path n) ds) ≡ days_weight ds
weight_days n [] = refl
weight_days n (d ∷ ds) = ap₂ ◌+◌ (day_weight_lem n d) (weight_days n ds)

module _ (t : Words) (room : ℕ) (ok : convert_number t room ≡ 0) where
  -- "The produced book then passes 1 to 13, and its length in words is given."
  pub book-passes : book_number (table_book t) ≡ 0
  book-passes = (asked-last t room ok).1

  pub length_given : convert_length t room ≡ length (table_book t)
  unfolding convert_length
  length_given = sym (gives ok 0 refl)

  -- 27: "lent slice too short"
  pub book-fits : length (table_book t) ≤ room
  book-fits = leb-true (length (table_book t)) room (passed room (slice_questions t) (omega arith) (asked-last t room ok).0).0

  -- "The book has the first state alone at stage 0 and all n at each later stage"
  pub sizes_are : (scale (table_book t) ≡ table_scale t) × (horizon (table_book t) ≡ table_horizon t) × (stage_size (table_book t) 0 ≡ 1)
      × ((k : ℕ) → suc k ≤ table_horizon t → stage_size (table_book t) (suc k) ≡ table_states t)
      × (state_count (table_book t) ≡ 1 + table_horizon t * table_states t)
  sizes_are = let g = converted t room ok in (scale_same t g, horizon-same t g, size-first t g, size-later t g, states-same t g)

  -- "the same n states and choices at every stage"; "each reward is negated"
  pub choices_are : (k s : ℕ) → Stands t k s → k < table_horizon t
      → (action_count (table_book t) (state_at t k s) ≡ table_count t s)
      × ((c : ℕ) → c < table_count t s → action (table_book t) (state_at t k s) c ≡ book_action t k s c)
  choices_are k s v l = let g = converted t room ok in (count-before t g k s v l, λ c h. action-before t g k s c v l h)

  -- "a closing reward per state"
  pub closings_are : (s : ℕ) → Stands t (table_horizon t) s
      → (action_count (table_book t) (state_at t (table_horizon t) s) ≡ 1)
      × (action (table_book t) (state_at t (table_horizon t) s) 0 ≡ closing_action t s)
  closings_are s v =
      let g = converted t room ok in
      (count_closing t g (table_horizon t) s v refl, action_closing t g (table_horizon t) s v refl)

  -- "every plan of an accepted conversion": the policies of the book are those of the table
  pub policies_are : (bs : Policy) → is_policy (table_book t) bs ≡ is_table_policy t bs
  policies_are = policies-same t (converted t room ok)

  -- and there is one: no reward gives the mark, so no choice is closed and the book never gets 28
  pub some_plan : has_policy (table_book t) ≡ true
  some_plan = open_policy (table_book t) book-passes (all_open t (converted t room ok))

  -- so it can be ranked, written and accepted: of what those ask, 14 alone is left
  pub asked_is : (k : ℕ) → asked_number (table_book t) k ≡ first_no count_questions k
  unfolding former_asked
  asked_is k =
      let u = unchanged (table_book t) (all_open t (converted t room ok)) in
      sym (u.asked k) ∙ then_yes (former_number (table_book t)) (first_no count_questions k) (u.number ∙ book-passes)

  module _ (bs : Policy) (is : T (is_policy (table_book t) bs)) where
    -- its paths are the days of the table, and no other
    pub days_are : paths (table_book t) bs ≡ map (as_path (table_states t)) (table_days t bs)
    days_are = days_same t (converted t room ok) bs is

    -- "times D^H": the weights of the days add to it
    pub weights_are : days_weight (table_days t bs) ≡ table_scale t ^ table_horizon t
    weights_are =
        sym (weight_days (table_states t) (table_days t bs)) ∙ ap total_weight (sym days_are) ∙ weights_add_lem (table_book t) book-passes bs is
        ∙ ap₂ ◌^◌ sizes_are.0 sizes_are.1

    -- "For every plan of an accepted conversion, its cost is minus the expected total reward times D^H."
    pub cost_is : policy_cost (table_book t) bs ≡ neg_ℤ (expected_reward t bs)
    unfolding policy_cost expected_reward
    cost_is = ap total_cost days_are ∙ total-cost (table_states t) (table_days t bs)

  -- "rewards to be raised": a lower cost is a higher expected reward
  pub order_is : (bs cs : Policy) → T (is_policy (table_book t) bs) → T (is_policy (table_book t) cs)
      → (policy_cost (table_book t) bs <ℤ policy_cost (table_book t) cs) ↔ (expected_reward t cs <ℤ expected_reward t bs)
  order_is bs cs p q =
      rw (cost_is bs p, cost_is cs q) (
        λ l. omega (ints, lt_in, neg_parts (expected_reward t bs), neg_parts (expected_reward t cs)),
        λ l. omega (ints, lt_in, neg_parts (expected_reward t bs), neg_parts (expected_reward t cs)),
      )
