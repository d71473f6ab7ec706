-- The paths of a policy of a table's book are the days of the table under it, each with its reward negated. None stops: the weights of each choice
-- add to exactly D.
-- Assumes nothing.
use Rattle.std.specs.Prelude.{◌≡◌, T, ℤ, pos, negsuc, nat_abs, neg_ℤ, ◌+ℤ◌, ◌*ℤ◌}
use Rattle.std.proofs.Math.Path.{refl, sym, ap, ap₂, subst, fun_ext}
use Rattle.std.proofs.Common.{◌∙◌, inl, inr, add-zero, arith, le-ltb}
use mathlib.Core.List.{List, [], ◌∷◌, ◌++◌, map, map-map, map-append, append-nil}
use Prim.Native.Nat.{ℕ, zero, suc, ◌+◌, ◌*◌, ◌≤◌, ◌<◌}
use Rattle.std.proofs.Math.IntN.{+ℤ_assoc, +ℤ_comm, neg_ℤ-+ℤ}
use Rattle.model.specs.Lists.{up_from, for_each}
use Rattle.model.specs.Model.{Words, Transition, Action, weights_of, scale, first_state, state_count, stage, togo, action_count, action}
use Rattle.model.specs.Policy.{Policy, is_policy}
use Rattle.model.specs.Path.{Step, Path, path_weight, path_cost, stops_after, paths_from, total_cost, byte_at, taken, paths}
use Rattle.laws.specs.Int.{up, dn, eq_in, scale_is, abs_add}
use Rattle.laws.specs.Members.{In, every_in, map_in, AtNexts}
use Rattle.questions.specs.Stages.{of_stage}
use Rattle.accepted.specs.Options.{option_below}
use Rattle.accepted.specs.Shape.{shape}
use Rattle.accepted.specs.Demands.{reached, start_reached, nexts-reached, policy-bytes}
use Rattle.reward_table.specs.Table.{table_scale, table_horizon, table_states, table_first, table_count, table_right, table_line, table_branches}
use Rattle.reward_table.specs.Table.{table_action_line, read_entry, table_entry, sum_z}
use Rattle.reward_table.specs.Days.{outcome, outcomes, TableStep, TableDay, day_weight, day_reward, days_from, total_reward, choice_at, table_days}
use Rattle.reward_table.specs.Days.{table_step}
use Rattle.reward_table.specs.Convert.{table_book}
use Rattle.conversion.specs.Given.{Converted}
use Rattle.conversion.specs.Sizes.{Stands, state_at, placed, book_action, closing_action}
use Rattle.conversion.proofs.Sizes.{first_stands, placed_in, scale_same, horizon-same}
use Rattle.conversion.proofs.Sizes.{first-later, stage-same, place_inside, count-before, count_closing, action-before, action_closing}
use Rattle.conversion.specs.Days.{as_step, as_path}

-- ---- weights

-- a sum by its first term
sum-front : (r : ℕ) (f : ℕ → ℤ) → sum_z (suc r) f ≡ f 0 +ℤ sum_z r (λ (i : ℕ). f (suc i))
sum-front zero f = +ℤ_comm (pos 0) (f 0)
sum-front (suc r) f =
    ap (λ (z : ℤ). z +ℤ f (suc r)) (sum-front r f) ∙ +ℤ_assoc (f 0) (sum_z r (λ (i : ℕ). f (suc i))) (f (suc r))

-- the weights add to no less than the signed words do
weights-least : (t : Words) (k r : ℕ)
    → nat_abs (sum_z r (λ (i : ℕ). table_right t (k + i))) ≤ weights_of (map outcome (map (table_line t) (up_from k r)))
unfolding outcome table_line
weights-least t k zero = omega arith
weights-least t k (suc r) =
    omega (arith, ap nat_abs front, abs_add (table_right t k) (sum_z r (λ (i : ℕ). table_right t (suc k + i))), weights-least t (suc k) r)
  where
    front : sum_z (suc r) (λ (i : ℕ). table_right t (k + i)) ≡ table_right t k +ℤ sum_z r (λ (i : ℕ). table_right t (suc k + i))
    front =
        sum-front r (λ (i : ℕ). table_right t (k + i))
        ∙ ap₂ ◌+ℤ◌ (ap (table_right t) (add-zero k))
        (ap (sum_z r) (fun_ext (λ (i : ℕ). let e : k + suc i ≡ suc k + i = omega arith in ap (table_right t) e)))

weights-placed : (n k : ℕ) (os : List Transition) → weights_of (map (placed n k) os) ≡ weights_of os
weights-placed n k [] = refl
weights-placed n k (o ∷ os) = ap (λ (w : ℕ). o.weight + w) (weights-placed n k os)

no_stop : (D m p : ℕ) (a : Action) → D ≤ weights_of a.transitions → stops_after D m p a ≡ []
no_stop D m p a l = rw (le-ltb (weights_of a.transitions) D l)

module _ (t : Words) (g : Converted t) where
  -- "Weights here add to exactly D."
  weights_enough : (s c : ℕ) → s < table_states t → c < table_count t s → table_scale t ≤ weights_of (outcomes t s c)
  unfolding outcomes table_entry read_entry
  weights_enough s c l k =
      omega (arith, g.weights s c l k, weights-least t (table_action_line t s c + 1) (table_branches t (table_action_line t s c)))

  -- ---- next states

  module _ (k s c : ℕ) (v : Stands t k s) (before : k < table_horizon t) (some : c < table_count t s) where
    -- what holds of each next state of the action in the book holds where an outcome is placed
    at_outcome : (P : ℕ → Type 0) → AtNexts P (action (table_book t) (state_at t k s) c).transitions
        → (o : Transition) → In o (outcomes t s c) → P (state_at t (suc k) o.next)
    at_outcome P h o i =
        every_in (λ (x : Transition). P x.next) (map (placed (table_states t) k) (outcomes t s c))
        (rw (action-before t g k s c v before some) at h) (placed (table_states t) k o) (map_in (placed (table_states t) k) o (outcomes t s c) i)

    -- the outcomes of a choice are states of the next stage
    pub next_stands : (o : Transition) → In o (outcomes t s c) → Stands t (suc k) o.next
    unfolding togo
    next_stands o i =
        let state : q < state_count ws = at_outcome (λ (q : ℕ). q < state_count ws) ((shape ws g.book).inside p c) o i in
        let on : togo ws p ≡ suc (togo ws q) = at_outcome (λ (q : ℕ). togo ws p ≡ suc (togo ws q)) ((shape ws g.book).step p c) o i in
        let here = of_stage ws q state in
        let stage_on : stage ws q + 1 ≡ suc (suc k) = omega (arith, here.within, horizon-same t g, stage-same t g k s v) in
        let to : q < first_state ws (suc (suc k)) = subst (λ (n : ℕ). q < first_state ws n) stage_on here.to in
        record {
          stage-inside = before;
          state_inside = omega (arith, first-later t g (suc k) before);
          start = λ e. absurd (omega arith);
        }
      where
        ws : Words
        ws = table_book t

        p : ℕ
        p = state_at t k s

        q : ℕ
        q = 1 + k * table_states t + o.next

  -- ---- the days

  module _ (bs : Policy) (is : T (is_policy (table_book t) bs)) where
    byte_below : (k s : ℕ) → Stands t k s → In (state_at t k s) (reached (table_book t) bs)
        → byte_at bs (state_at t k s) < action_count (table_book t) (state_at t k s)
    byte_below k s v r =
        option_below (table_book t) (state_at t k s)
        (((policy-bytes (table_book t) g.book bs).0 is).at_reached (state_at t k s) (place_inside t g k s v) r)

    -- the action that is taken where the policy comes
    taken-before : (k s : ℕ) → Stands t k s → k < table_horizon t → In (state_at t k s) (reached (table_book t) bs)
        → taken (table_book t) bs (state_at t k s) ≡ book_action t k s (choice_at t bs k s)
    unfolding taken choice_at
    taken-before k s v h r =
        action-before t g k s (byte_at bs (state_at t k s)) v h (rw (count-before t g k s v h) at (byte_below k s v r))

    taken_closing : (k s : ℕ) → Stands t k s → k ≡ table_horizon t → In (state_at t k s) (reached (table_book t) bs)
        → taken (table_book t) bs (state_at t k s) ≡ closing_action t s
    unfolding taken
    taken_closing k s v e r =
        let z : byte_at bs (state_at t k s) ≡ 0 = omega (arith, byte_below k s v r, count_closing t g k s v e) in
        ap (action (table_book t) (state_at t k s)) z ∙ action_closing t g k s v e

    -- paths and days that go on by one transition
    abbrev paths_by : ℕ → ℕ → Action → Transition → List Path
    paths_by m p a x =
        map (λ (path : Path). record { state = p; cost = a.cost; weight = x.weight } ∷ path)
        (paths_from (scale (table_book t)) (taken (table_book t) bs) m x.next)

    abbrev days_by : ℕ → ℕ → ℕ → Transition → List TableDay
    days_by m k s o =
        map (λ (day : TableDay). table_step t (choice_at t bs) k s o.weight ∷ day) (days_from t (choice_at t bs) m (suc k) o.next)

    -- the paths from the place of k and s are the days from there
    Agree : ℕ → ℕ → ℕ → Type 0
    Agree m k s =
        paths_from (scale (table_book t)) (taken (table_book t) bs) m (state_at t k s)
        ≡ map (as_path (table_states t)) (days_from t (choice_at t bs) m k s)

    each : (m k s : ℕ) (os : List Transition) → ((o : Transition) → In o os → Agree m (suc k) o.next)
        → for_each (paths_by m (state_at t k s) (book_action t k s (choice_at t bs k s))) (map (placed (table_states t) k) os)
        ≡ map (as_path (table_states t)) (for_each (days_by m k s) os)
    unfolding Agree
    each m k s [] h = refl
    each m k s (o ∷ os) h =
        ap₂ ◌++◌
        (ap (map (λ (path : Path). step ∷ path)) (h o (inl refl))
        ∙ map-map (λ (path : Path). step ∷ path) (as_path (table_states t)) (days_from t (choice_at t bs) m (suc k) o.next)
        ∙ sym (map-map (as_path (table_states t)) (λ (day : TableDay). day_step ∷ day) (days_from t (choice_at t bs) m (suc k) o.next)))
        (each m k s os (λ x i. h x (inr i)))
        ∙ sym (map-append (as_path (table_states t)) (days_by m k s o) (for_each (days_by m k s) os))
      where
        day_step : TableStep
        day_step = table_step t (choice_at t bs) k s o.weight

        step : Step
        step = as_step (table_states t) day_step

    days_from_lem : (m k s : ℕ) → k + m ≡ table_horizon t → Stands t k s → In (state_at t k s) (reached (table_book t) bs) → Agree m k s
    unfolding Agree choice_at
    days_from_lem zero k s e v r =
        ap (λ (a : Action). (record { state = state_at t k s; cost = a.cost; weight = 1 } ∷ []) ∷ [])
        (taken_closing k s v (omega arith) r)
    days_from_lem (suc m) k s e v r =
        ap (λ (a : Action). for_each (paths_by m p a) a.transitions ++ stops_after (scale (table_book t)) m p a) (taken-before k s v before r)
        ∙ ap₂ ◌++◌
        (each m k s (outcomes t s c)
        (λ o i. days_from_lem m (suc k) o.next (omega arith) (next_stands k s c v before some o i)
        (nexts-reached (table_book t) g.book bs is p (state_at t (suc k) o.next) r
        (rw (taken-before k s v before r) (placed_in (table_states t) k o (outcomes t s c) i)))))
        (no_stop (scale (table_book t)) m p (book_action t k s c) enough)
        ∙ append-nil (map (as_path (table_states t)) (for_each (days_by m k s) (outcomes t s c)))
      where
        p : ℕ
        p = state_at t k s

        c : ℕ
        c = choice_at t bs k s

        before : k < table_horizon t
        before = omega arith

        some : choice_at t bs k s < table_count t s
        some = rw (count-before t g k s v (omega arith)) at (byte_below k s v r)

        enough : scale (table_book t) ≤ weights_of (map (placed (table_states t) k) (outcomes t s (choice_at t bs k s)))
        enough =
            omega (
              arith,
              scale_same t g,
              weights-placed (table_states t) k (outcomes t s (choice_at t bs k s)),
              weights_enough s (choice_at t bs k s) v.state_inside some,
            )

    pub days_same : paths (table_book t) bs ≡ map (as_path (table_states t)) (table_days t bs)
    unfolding paths table_days Agree
    days_same =
        ap (λ (h : ℕ). paths_from (scale (table_book t)) (taken (table_book t) bs) h 0) (horizon-same t g)
        ∙ days_from_lem (table_horizon t) 0 (table_first t) (omega arith) (first_stands t g) (start_reached (table_book t) g.book bs)

-- ---- the cost

-- minus z, as a difference of naturals
pub neg_parts : (z : ℤ) → (up (neg_ℤ z) ≡ dn z) × (dn (neg_ℤ z) ≡ up z)
neg_parts (pos zero) = (refl, refl)
neg_parts (pos (suc n)) = (refl, refl)
neg_parts (negsuc n) = (refl, refl)

scale_neg : (w : ℕ) (z : ℤ) → pos w *ℤ neg_ℤ z ≡ neg_ℤ (pos w *ℤ z)
scale_neg w z =
    eq_in (omega (arith, scale_is w z, rw ((neg_parts z).0, (neg_parts z).1) at (scale_is w (neg_ℤ z)), neg_parts (pos w *ℤ z)))

pub day_weight_lem : (n : ℕ) (day : TableDay) → path_weight (as_path n day) ≡ day_weight day
day_weight_lem n [] = refl
day_weight_lem n (s ∷ ss) = ap (λ (w : ℕ). s.weight * w) (day_weight_lem n ss)

day_cost : (n : ℕ) (day : TableDay) → path_cost (as_path n day) ≡ neg_ℤ (day_reward day)
day_cost n [] = refl
day_cost n (s ∷ ss) = ap (λ (z : ℤ). neg_ℤ s.reward +ℤ z) (day_cost n ss) ∙ sym (neg_ℤ-+ℤ s.reward (day_reward ss))

pub total-cost : (n : ℕ) (days : List TableDay) → total_cost (map (as_path n) days) ≡ neg_ℤ (total_reward days)
total-cost n [] = refl
total-cost n (d ∷ ds) =
    ap₂ ◌+ℤ◌
    (ap₂ (λ (w : ℕ) (z : ℤ). pos w *ℤ z) (day_weight_lem n d) (day_cost n d) ∙ scale_neg (day_weight d) (day_reward d)) (total-cost n ds)
    ∙ sym (neg_ℤ-+ℤ (pos (day_weight d) *ℤ day_reward d) (total_reward ds))
