-- What the questions 25, 26 and 27 and the book's own say of a planners' table that is converted.
-- Assumes nothing.
use Rattle.std.specs.Prelude.{◌≡◌, true, ℕ, ◌+◌, ◌≤◌, ◌<◌, nat_abs}
use Rattle.std.proofs.Common.{arith}
use Rattle.model.specs.Model.{Words}
use Rattle.model.specs.Questions.{first_no, and_then, book_number}
use Rattle.questions.specs.Ranges.{inside_range}
use Rattle.questions.specs.FirstNo.{AllYes, passed, then_zero}
use Rattle.reward_table.specs.Table.{table_scale, table_horizon, table_states, table_first, table_count, table_right, table_branches, table_action_line, sum_z}
use Rattle.reward_table.specs.Table.{read_entry, table_entry, closing_reward, weights_add, lines_given, table_questions}
use Rattle.reward_table.specs.Convert.{table_book, slice_questions, convert_number}
use Rattle.reward_table.specs.Says.{reward_small, given_says, entry_as, closing_bare_lem}

pub record Converted (t : Words) : Type 0 where
  pub first-inside : table_first t < table_states t
  pub some_stages : 1 ≤ table_horizon t
  -- "Weights here add to exactly D."
  pub weights : (s c : ℕ) → s < table_states t → c < table_count t s
      → nat_abs (sum_z (table_branches t (table_action_line t s c)) (λ (i : ℕ). table_right t (table_action_line t s c + 1 + i))) ≡ table_scale t
  -- "a reward beyond 100,000 either way" is refused
  pub rewards : (s c : ℕ) → s < table_states t → c < table_count t s → nat_abs (table_entry t s c).amount ≤ 100000
  pub closings : (s : ℕ) → s < table_states t → nat_abs (closing_reward t s) ≤ 100000
  -- "The produced book then passes 1 to 13"
  pub book : book_number (table_book t) ≡ 0

-- 26, of each action and each closing
weights_say : (t : Words) → lines_given t ≡ true → (s c : ℕ) → s < table_states t → c < table_count t s
    → nat_abs (sum_z (table_branches t (table_action_line t s c)) (λ (i : ℕ). table_right t (table_action_line t s c + 1 + i))) ≡ table_scale t
unfolding weights_add
weights_say t e s c l k =
    let j = table_action_line t s c in
    let r = inside_range (table_scale t) (table_scale t) (sum_z (table_branches t j) (λ (i : ℕ). table_right t (j + 1 + i)))
    (entry_as t e s c l k).weights in
    omega arith

rewards_say : (t : Words) → lines_given t ≡ true → (s c : ℕ) → s < table_states t → c < table_count t s → nat_abs (table_entry t s c).amount ≤ 100000
unfolding table_entry read_entry
rewards_say t e s c l k = reward_small (table_right t (table_action_line t s c)) (entry_as t e s c l k).reward

closings_say : (t : Words) → lines_given t ≡ true → (s : ℕ) → s < table_states t → nat_abs (closing_reward t s) ≤ 100000
unfolding closing_reward
closings_say t e s l = (closing_bare_lem t e s l).1

module _ (t : Words) (room : ℕ) (ok : convert_number t room ≡ 0) where
  asked : (first_no table_questions t ≡ 0) × (and_then (first_no (slice_questions t) room) (book_number (table_book t)) ≡ 0)
  unfolding convert_number
  asked = then_zero (first_no table_questions t) (and_then (first_no (slice_questions t) room) (book_number (table_book t))) ok

  -- 27, and the book's own
  pub asked-last : (first_no (slice_questions t) room ≡ 0) × (book_number (table_book t) ≡ 0)
  asked-last = then_zero (first_no (slice_questions t) room) (book_number (table_book t)) asked.1

  pub converted : Converted t
  converted =
      let y : AllYes table_questions t = passed t table_questions (omega arith) asked.0 in
      let z = given_says t y.0 in
      record {
        first-inside = z.first_low;
        some_stages = z.h_low;
        weights = weights_say t y.1.0;
        rewards = rewards_say t y.1.0;
        closings = closings_say t y.1.0;
        book = asked-last.1;
      }
