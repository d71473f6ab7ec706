-- "Books without stops give the same records.": where the weights of every action before stage H add to D, the paths, the costs, the list and the record
-- are those of document 01; where also no action has more than 6 transitions (request 2.3), its questions give the same number.
-- Assumes nothing.
use Rattle.std.specs.Prelude.{◌≡◌, true, false, not, ◌&&◌, ◌||◌, ◌↔◌, List, [], ◌∷◌, ◌++◌, map, T, eqb, leb, ℤ, pos, negsuc, nat_abs, take}
use Rattle.std.proofs.Math.Path.{refl, sym, ap, ap₂}
use Rattle.std.proofs.Common.{◌∙◌, append-nil, arith, eqb-true, eq-eqb, ne_eqb, le-leb, le-ltb}
use Rattle.std.proofs.Math.Bool.{Bool}
use Prim.Native.Nat.{ℕ, zero, suc, ◌+◌, ◌^◌, ◌≤◌, ◌<◌}
use Rattle.std.specs.Int.Signed.{lt_z, mag}
use Rattle.model.specs.Lists.{all, for_each}
use Rattle.model.specs.Model.{Words, Transition, Action, weights_of, scale, horizon, state_count, stage, togo, action_count, left, right}
use Rattle.model.specs.Model.{branches, action_line, action, options}
use Rattle.model.specs.Questions.{first_no, inside, fewest_branches, most_branches, branches_allowed, lines_allowed, weight_sum, weights_allowed}
use Rattle.model.specs.Questions.{size_questions, action_questions, book_number}
use Rattle.model.specs.Policy.{Policy, is_policy, policies, has_policy}
use Rattle.model.specs.Path.{Path, total_cost, paths_from, stops_after, byte_at, taken, paths, policy_cost}
use Rattle.model.specs.Order.{lower, before, comes_before, ranking, ranking_costs}
use Rattle.model.specs.Record.{list_bytes, record_bytes, accept_number}
use Rattle.laws.specs.Members.{In, Every, every_both, AtNexts, map_same}
use Rattle.laws.specs.Paths.{step_by}
use Rattle.laws.specs.Sorting.{sorted-same}
use Rattle.laws.specs.Best.{Obeys}
use Rattle.laws.specs.First.{policy_obeys}
use Rattle.questions.specs.Ranges.{and-true, inside_wider}
use Rattle.questions.specs.FirstNo.{AllYes, passed, both_zero, rest-same, answers_same}
use Rattle.questions.specs.Sizes.{sized}
use Rattle.questions.specs.Stages.{stage-before}
use Rattle.accepted.specs.Facts.{each_action, every-same}
use Rattle.accepted.specs.Options.{option_below}
use Rattle.accepted.specs.Shape.{policy_is, action_is, weights_read, no_weight, shape, togo_start}
use Rattle.accepted.specs.Demands.{policies_are, in_list}
use Rattle.record.specs.Demand2.{written_accepted}
use Rattle.branch_limit.specs.Former.{branches_within, lines_within, WithinLimit, former_most}
use Rattle.branch_limit.proofs.Same.{lines_agree, within}
use Rattle.no_stops.specs.Base.{base_lines, base_weights, base_question, base_number, base_paths_from, base_paths, base_cost, base_ranking}
use Rattle.no_stops.specs.Base.{base_costs, base_record}

-- the weights of every action before stage H, reached or not, add to D
abbrev pub NoStops : Words → Type 0
NoStops ws = (p c : ℕ) → p < state_count ws → c < action_count ws p → stage ws p < horizon ws → weight_sum ws (action_line ws p c) ≡ scale ws

-- ---- the questions

-- a word other than 0 is from 0 on exactly if it is from 1 on
from_one : (z : ℤ) (hi : ℕ) → 1 ≤ nat_abs z → inside (pos 0) (pos hi) z ≡ inside (pos 1) (pos hi) z
from_one (pos n) hi h = rw (le-leb 0 n (omega arith), le-leb 1 n h)
from_one (negsuc n) hi h = refl

module _ (ws : Words) (full : NoStops ws) (few : WithinLimit ws) (low : 1 ≤ scale ws) where
  module _ (p c : ℕ) (l : p < state_count ws) (k : c < action_count ws p) where
    abbrev j : ℕ
    j = action_line ws p c

    sum_full : eqb (stage ws p) (horizon ws) ≡ false → weight_sum ws j ≡ scale ws
    sum_full e = full p c l k (stage-before ws p l e)

    some_branch_lem : weight_sum ws j ≡ scale ws → 1 ≤ branches ws j
    some_branch_lem e = go (branches ws j) refl
      where
        go : (r : ℕ) → branches ws j ≡ r → 1 ≤ r
        go zero z = absurd (omega (arith, no_weight ws j z))
        go (suc r) z = omega arith

    -- an r of an action without a stop: not 0, so that both limits agree
    branches-same : stage ws p < horizon ws → inside (pos 1) (pos former_most) (left ws j) ≡ inside (pos fewest_branches) (pos most_branches) (left ws j)
    unfolding branches
    branches-same h =
        sym (inside_wider 1 most_branches former_most (left ws j) (few p c l k h) (omega arith))
        ∙ sym (from_one (left ws j) most_branches (some_branch_lem (full p c l k h)))

    weights-same : base_weights ws (stage ws p) j ≡ weights_allowed ws (stage ws p) j
    unfolding weights_allowed base_weights
    weights-same = go (eqb (stage ws p) (horizon ws)) refl
      where
        each : Bool
        each = all (branches ws j) (λ (i : ℕ). inside (pos 1) (pos (scale ws)) (right ws (j + 1 + i)))

        go : (b : Bool) → eqb (stage ws p) (horizon ws) ≡ b
            → (each && (b || eqb (weight_sum ws j) (scale ws))) ≡ (each && (b || leb (weight_sum ws j) (scale ws)))
        go true e = refl
        go false e = rw (sum_full e, eq-eqb (scale ws) (scale ws) refl, le-leb (scale ws) (scale ws) (omega arith))

  lines_same : base_lines ws ≡ lines_allowed ws
  unfolding lines_allowed branches_allowed lines_within branches_within
  lines_same = lines_agree ws 1 former_most fewest_branches most_branches branches-same

  -- 8 to 13: only 9 and 12 are other questions
  actions_same : first_no (map base_question action_questions) ws ≡ first_no action_questions ws
  actions_same =
      answers_same ws base_question action_questions
      (refl, refl, (refl, lines_same, (refl, refl, (refl, refl, (refl, every-same ws base_weights weights_allowed weights-same, (refl, refl, tt))))))

-- words without stops and within the limit get the same number
pub questions_same : (ws : Words) → NoStops ws → WithinLimit ws → base_number ws ≡ book_number ws
unfolding base_number book_number
questions_same ws full few =
    rest-same ws size_questions (omega arith) (map base_question action_questions) action_questions (λ e. actions_same ws full few (sized ws e).d_low)

-- "does each choice's sum to exactly D (before stage H)?": a book that the rules of document 01 accept has no stops
pub accepted_full : (ws : Words) → base_number ws ≡ 0 → NoStops ws
unfolding base_number base_weights
accepted_full ws ok p c l k h =
    eqb-true (weight_sum ws (action_line ws p c)) (scale ws)
    (rw (ne_eqb (stage ws p) (horizon ws) (λ q. omega arith)) at sum)
  where
    answers : AllYes (map base_question action_questions) ws
    answers =
        passed ws (map base_question action_questions) (omega arith)
        (both_zero ws size_questions (omega arith) (map base_question action_questions) ok).1

    sum : (eqb (stage ws p) (horizon ws) || eqb (weight_sum ws (action_line ws p c)) (scale ws)) ≡ true
    sum =
        (and-true (all (branches ws (action_line ws p c)) (λ (i : ℕ). inside (pos 1) (pos (scale ws)) (right ws (action_line ws p c + 1 + i))))
        (eqb (stage ws p) (horizon ws) || eqb (weight_sum ws (action_line ws p c)) (scale ws))
        (each_action base_weights ws answers.1.1.1.1.0 p c l k)).1

-- so those within the limit that they accept are exactly the accepted books without stops
pub base_accepts : (ws : Words) → ((base_number ws ≡ 0) × WithinLimit ws) ↔ ((book_number ws ≡ 0) × NoStops ws)
base_accepts ws = (
  λ h. let full = accepted_full ws h.0 in (sym (questions_same ws full h.1) ∙ h.0, full),
  λ h. let few = within ws h.0 in (questions_same ws h.1 few ∙ h.0, few),
)

-- ---- the paths

-- before the last stage, the weights of each action taken add to D
abbrev Full : ℕ → (ℕ → Action) → ℕ → ℕ → Type 0
Full D taken zero p = Unit {0}
Full D taken (suc m) p = (weights_of (taken p).transitions ≡ D) × AtNexts (Full D taken m) (taken p).transitions

module _ (D : ℕ) (taken : ℕ → Action) where
  same_by : (m p : ℕ) → ((q : ℕ) → Full D taken m q → paths_from D taken m q ≡ base_paths_from taken m q)
      → (ts : List Transition) → AtNexts (Full D taken m) ts
      → for_each (λ (t : Transition). map (λ (path : Path). step_by taken p t ∷ path) (paths_from D taken m t.next)) ts
      ≡ for_each (λ (t : Transition). map (λ (path : Path). step_by taken p t ∷ path) (base_paths_from taken m t.next)) ts
  same_by m p ih [] h = refl
  same_by m p ih (t ∷ ts) h =
      ap₂ ◌++◌ (ap (map (λ (path : Path). step_by taken p t ∷ path)) (ih t.next h.0)) (same_by m p ih ts h.1)

  no_stop : (m p : ℕ) → weights_of (taken p).transitions ≡ D → stops_after D m p (taken p) ≡ []
  no_stop m p e = rw (le-ltb (weights_of (taken p).transitions) D (omega arith))

  same_from : (m p : ℕ) → Full D taken m p → paths_from D taken m p ≡ base_paths_from taken m p
  same_from zero p h = refl
  same_from (suc m) p h =
      ap₂ ◌++◌ (same_by m p (same_from m) (taken p).transitions h.1) (no_stop m p h.0) ∙ append-nil (base_paths_from taken (suc m) p)

-- ---- an accepted book without stops

module _ (ws : Words) (ok : book_number ws ≡ 0) (full : NoStops ws) where
  weights_full : (p c : ℕ) → p < state_count ws → c < action_count ws p → stage ws p < horizon ws
      → weights_of (action ws p c).transitions ≡ scale ws
  weights_full p c l k h = rw (action_is ws p c l k, weights_read ws (stage ws p) (action_line ws p c)) (full p c l k h)

  full_from : (bs : Policy) (m p : ℕ) → p < state_count ws → togo ws p ≡ m → Obeys (action ws) (options ws) (byte_at bs) m p
      → Full (scale ws) (taken ws bs) m p
  unfolding taken togo
  full_from bs zero p l e o = tt
  full_from bs (suc m) p l e o = (
    weights_full p (byte_at bs p) l (option_below ws p o.0) (omega arith),
    every_both (λ t r n. n r) (action ws p (byte_at bs p)).transitions o.1
        (every_both (λ t (i : t.next < state_count ws) (s : togo ws p ≡ suc (togo ws t.next)). full_from bs m t.next i (omega arith))
        (action ws p (byte_at bs p)).transitions ((shape ws ok).inside p (byte_at bs p)) ((shape ws ok).step p (byte_at bs p))),
  )

  -- "A day may stop after a choice before stage H whose weights add to less than D": there is none, so the days are those of document 01
  pub days_same : (bs : Policy) → T (is_policy ws bs) → paths ws bs ≡ base_paths ws bs
  unfolding paths base_paths
  days_same bs t =
      same_from (scale ws) (taken ws bs) (horizon ws) 0
      (full_from bs (horizon ws) 0 (shape ws ok).some_state (togo_start ws ok)
      (policy_obeys (state_count ws) (action ws) (togo ws) (shape ws ok) (options ws) bs ((policy_is ws bs).0 t) (horizon ws)))

  pub cost-same : (bs : Policy) → T (is_policy ws bs) → policy_cost ws bs ≡ base_cost ws bs
  unfolding policy_cost base_cost
  cost-same bs t = ap total_cost (days_same bs t)

  module _ (k : ℕ) where
    pub list_same : ranking ws k ≡ base_ranking ws k
    unfolding ranking base_ranking comes_before
    list_same = ap (take k) (sorted-same (before (policy_cost ws)) (before (base_cost ws)) (policies ws) alike)
      where
        alike : (x y : Policy) → In x (policies ws) → In y (policies ws) → before (policy_cost ws) x y ≡ before (base_cost ws) x y
        alike x y i j =
            ap₂ (λ (a b : ℤ). lt_z a b || (not (lt_z b a) && lower x y)) (cost-same x ((policies_are ws ok x).0 i)) (cost-same y ((policies_are ws ok y).0 j))

    pub costs-same : ranking_costs ws k ≡ base_costs ws k
    unfolding ranking_costs base_costs
    costs-same =
        map_same (policy_cost ws) (base_cost ws) (ranking ws k) (λ x i. cost-same x ((in_list ws ok k x).0 i).0) ∙ ap (map (base_cost ws)) list_same

    pub record_same : record_bytes ws k ≡ base_record ws k
    unfolding record_bytes list_bytes base_record
    record_same = rw (list_same, costs-same)

-- a record that is written by the rules of document 01, for a book with a policy that is within the limit, is accepted
pub still_accepted : (ws : Words) → base_number ws ≡ 0 → WithinLimit ws → Every (λ z. mag z < 2 ^ 31) ws → (k : ℕ) → 1 ≤ k → k ≤ 64
    → has_policy ws ≡ true → accept_number (base_record ws k) ≡ 0
still_accepted ws base few words k low high has =
    let h = (base_accepts ws).0 (base, few) in
    ap accept_number (sym (record_same ws h.0 h.1 k)) ∙ (written_accepted ws h.0 words k low high has).number
