-- What the thirteen questions say of a book that passes them all: of its sizes, of each state p, and of each action c of state p.
-- Assumes nothing.
use Rattle.std.specs.Prelude.{◌≡◌, Bool, true, ℕ, ◌+◌, ◌*◌, ◌^◌, ◌≤◌, ◌<◌, leb, eqb}
use Rattle.std.proofs.Common.{le_trans, leb-true, eq-eqb, ne_eqb}
use native.Mathlib.Omega.{arith}
use Rattle.model.specs.Lists.{all, max_to}
use Rattle.model.specs.Model.{Words, word, scale, horizon, line_count, state_count, stage, action_count, left, right}
use Rattle.model.specs.Model.{branches, line_after, state_line, action_line}
use Rattle.model.specs.Questions.{first_no, most_actions, fewest_branches, most_branches, branches_inside, count_allowed, counts_allowed, every_action}
use Rattle.model.specs.Questions.{branches_allowed, lines_allowed, nexts_allowed, weights_allowed, open_size, largest_cost, costs_bounded, size_questions, action_questions, book_number}
use Rattle.questions.specs.Ranges.{and-true, all-at, all_same, max_least, inside_range}
use Rattle.questions.specs.FirstNo.{AllYes, passed, both_zero}
use Rattle.questions.specs.Sizes.{Sized, sized}

pub record Accepted (ws : Words) : Type 0 where
  -- 1 to 7
  pub sizes : Sized ws
  -- 8: "1 to 8 choices a post", at stage H too
  pub counts_low : (p : ℕ) → p < state_count ws → 1 ≤ action_count ws p
  pub counts_high : (p : ℕ) → p < state_count ws → action_count ws p ≤ 8
  -- 9: "is every r as allowed, do all their lines fit"
  pub branches-allowed : (p c : ℕ) → p < state_count ws → c < action_count ws p → branches_allowed ws (stage ws p) (action_line ws p c) ≡ true
  pub branches-most : (p c : ℕ) → p < state_count ws → c < action_count ws p → stage ws p < horizon ws → branches ws (action_line ws p c) ≤ most_branches
  pub branches-last : (p c : ℕ) → p < state_count ws → c < action_count ws p → stage ws p ≡ horizon ws → branches ws (action_line ws p c) ≡ 0
  pub lines_fit_lem : (p c : ℕ) → p < state_count ws → c < action_count ws p → line_after ws (action_line ws p c) ≤ line_count ws
  -- 11: "Do the next posts of each choice rise strictly and lie within the next stage?"
  pub nexts-allowed : (p c : ℕ) → p < state_count ws → c < action_count ws p → nexts_allowed ws (stage ws p) (action_line ws p c) ≡ true
  -- 12: "Is every weight from 1 to D", and do each choice's add "to at most D" (before stage H)?
  pub weights-allowed : (p c : ℕ) → p < state_count ws → c < action_count ws p → weights_allowed ws (stage ws p) (action_line ws p c) ≡ true
  -- 13: "Is D^H × (H + 1) × (largest cost without its sign) at most 4 × 10^18?"
  pub cost_bounded : (p c : ℕ) → p < state_count ws → c < action_count ws p → open_size (right ws (action_line ws p c)) ≤ largest_cost ws
  pub product_bounded : scale ws ^ horizon ws * (horizon ws + 1) * largest_cost ws ≤ 4000000000000000000

-- ---- 8

count_range : (ws : Words) → counts_allowed ws ≡ true → (p : ℕ) → p < state_count ws → (1 ≤ action_count ws p) × (action_count ws p ≤ most_actions)
unfolding counts_allowed count_allowed action_count
count_range ws e p l = inside_range 1 most_actions (word ws (4 + horizon ws + p)) (all-at (state_count ws) (count_allowed ws) e p l)

-- ---- 9 to 12

-- a test of every action is one of each
pub each_action : (test : Words → ℕ → ℕ → Bool) (ws : Words) → every_action test ws ≡ true
    → (p c : ℕ) → p < state_count ws → c < action_count ws p → test ws (stage ws p) (action_line ws p c) ≡ true
unfolding every_action
each_action test ws e p c l k =
    all-at (action_count ws p) (λ (c : ℕ). test ws (stage ws p) (action_line ws p c))
    (all-at (state_count ws) (λ (p : ℕ). all (action_count ws p) (λ (c : ℕ). test ws (stage ws p) (action_line ws p c))) e p l) c k

-- tests that agree on every action give one answer
pub every-same : (ws : Words) (test other : Words → ℕ → ℕ → Bool)
    → ((p c : ℕ) → p < state_count ws → c < action_count ws p → test ws (stage ws p) (action_line ws p c) ≡ other ws (stage ws p) (action_line ws p c))
    → every_action test ws ≡ every_action other ws
unfolding every_action
every-same ws test other h = all_same (state_count ws) _ _ (λ p l. all_same (action_count ws p) _ _ (λ c k. h p c l k))

module _ (ws : Words) (n j : ℕ) (e : branches_allowed ws n j ≡ true) where
  branches_tests : (branches_inside (left ws j) n (horizon ws) ≡ true) × (leb (line_after ws j) (line_count ws) ≡ true)
  unfolding branches_allowed
  branches_tests = and-true (branches_inside (left ws j) n (horizon ws)) (leb (line_after ws j) (line_count ws)) e

  pub most-branches : n < horizon ws → branches ws j ≤ most_branches
  unfolding branches
  most-branches h =
      (inside_range fewest_branches most_branches (left ws j) (rw (ne_eqb n (horizon ws) (λ q. omega arith)) at branches_tests.0)).1

  no_branches : n ≡ horizon ws → branches ws j ≡ 0
  unfolding branches
  no_branches q = let r = inside_range 0 0 (left ws j) (rw (eq-eqb n (horizon ws) q) at branches_tests.0) in omega arith

  fit : line_after ws j ≤ line_count ws
  fit = leb-true (line_after ws j) (line_count ws) branches_tests.1

pub lines_say : (ws : Words) → lines_allowed ws ≡ true → every_action branches_allowed ws ≡ true
unfolding lines_allowed
lines_say ws e = (and-true (every_action branches_allowed ws) (eqb (state_line ws (state_count ws)) (line_count ws)) e).0

-- ---- 13

largest : (ws : Words) (p c : ℕ) → p < state_count ws → c < action_count ws p → open_size (right ws (action_line ws p c)) ≤ largest_cost ws
unfolding largest_cost
largest ws p c l k =
    le_trans (max_least (action_count ws p) (λ (c : ℕ). open_size (right ws (action_line ws p c))) c k)
    (max_least (state_count ws) (λ (p : ℕ). max_to (action_count ws p) (λ (c : ℕ). open_size (right ws (action_line ws p c)))) p l)

product : (ws : Words) → costs_bounded ws ≡ true → scale ws ^ horizon ws * (horizon ws + 1) * largest_cost ws ≤ 4000000000000000000
unfolding costs_bounded
product ws e = leb-true (scale ws ^ horizon ws * (horizon ws + 1) * largest_cost ws) 4000000000000000000 e

-- ---- all together

pub accepted : (ws : Words) → book_number ws ≡ 0 → Accepted ws
unfolding book_number
accepted ws ok =
    record {
      sizes = sized ws both.0;
      counts_low = λ p l. (count_range ws y.0 p l).0;
      counts_high = λ p l. (count_range ws y.0 p l).1;
      branches-allowed = nine;
      branches-most = λ p c l k. most-branches ws (stage ws p) (action_line ws p c) (nine p c l k);
      branches-last = λ p c l k. no_branches ws (stage ws p) (action_line ws p c) (nine p c l k);
      lines_fit_lem = λ p c l k. fit ws (stage ws p) (action_line ws p c) (nine p c l k);
      nexts-allowed = each_action nexts_allowed ws y.1.1.1.0;
      weights-allowed = each_action weights_allowed ws y.1.1.1.1.0;
      cost_bounded = largest ws;
      product_bounded = product ws y.1.1.1.1.1.0;
    }
  where
    both : (first_no size_questions ws ≡ 0) × (first_no action_questions ws ≡ 0)
    both = both_zero ws size_questions (omega arith) action_questions ok

    y : AllYes action_questions ws
    y = passed ws action_questions (omega arith) both.1

    nine : (p c : ℕ) → p < state_count ws → c < action_count ws p → branches_allowed ws (stage ws p) (action_line ws p c) ≡ true
    nine = each_action branches_allowed ws (lines_say ws y.1.0)
