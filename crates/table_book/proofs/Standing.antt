-- In a table that passes 25 and 26 the actions of its states, and then its closings, stand in its lines one after another.
-- Assumes nothing.
use mathlib.Core.Path.{◌≡◌, refl, sym, ap, ◌∙◌, subst}
use mathlib.Core.Bool.{true}
use mathlib.Core.List.{[], ◌++◌, map}
use Prim.Native.Nat.{ℕ, zero, suc, ◌+◌, ◌-◌, ◌≤◌, ◌<◌}
use native.Mathlib.Numerals.{add-one}
use native.Mathlib.Omega.{arith}
use lib.IntN.{nat_abs}
use Rattle.model.specs.Lists.{up_from, for_each}
use Rattle.model.specs.Model.{Words}
use Rattle.content.specs.Content.{Entry}
use Rattle.reward_table.specs.Table.{table_states, table_count, table_left, table_right, table_branches, table_after, table_state_line, table_action_line}
use Rattle.reward_table.specs.Table.{closing_line}
use Rattle.reward_table.specs.Table.{read_entry, table_entry, table_state, closing_reward, lines_given}
use Rattle.reward_table.specs.Says.{reward_small, entry_as, closing_bare_lem, action_line_lem, action-first, state_line_lem}
use Rattle.table_book.proofs.Entries.{Stands, Stand, span, stand_++, span_++, after_is}

-- closing as an action
abbrev pub closing_entry : Words → ℕ → Entry
closing_entry t s = record { amount = closing_reward t s; lines = [] }

module _ (t : Words) (ok : lines_given t ≡ true) where
  abbrev n : ℕ
  n = table_states t

  -- ---- the actions of state s from action c on, and of the states from s on

  actions_stand : (s c m : ℕ) → s < n → c + m ≡ table_count t s
      → Stand t (table_action_line t s c) (map (table_entry t s) (up_from c m))
      × (table_action_line t s c + span t (table_action_line t s c) (map (table_entry t s) (up_from c m)) ≡ table_action_line t s (c + m))
  unfolding table_entry
  actions_stand s c zero l e = (tt, let q : c + 0 ≡ c = omega arith in rw q (omega arith))
  actions_stand s c (suc m) l e =
      let a = entry_as t ok s c l (omega arith) in
      let j = table_action_line t s c in
      let step : table_action_line t s (suc c) ≡ table_after t j = rw (sym (add-one c)) (action_line_lem t s c) in
      let ih = actions_stand s (suc c) m l (omega arith) in
      let q : suc c + m ≡ c + suc m = omega arith in
      let st = subst (λ (i : ℕ). Stand t i (map (table_entry t s) (up_from (suc c) m))) step ih.0 in
      let sp = subst (λ (i : ℕ). i + span t i (map (table_entry t s) (up_from (suc c) m)) ≡ table_action_line t s (suc c + m)) step ih.1 in
      let whole : j + (suc (table_branches t j) + span t (table_after t j) (map (table_entry t s) (up_from (suc c) m))) ≡ table_action_line t s (c + suc m)
      = omega (arith, after_is t j, sp ∙ ap (table_action_line t s) q) in
      ((record { is = refl; some = a.some; small = reward_small (table_right t j) a.reward }, st), whole)

  pub state_stands : (s : ℕ) → s < n
      → Stand t (table_state_line t s) (table_state t s) × (table_state_line t s + span t (table_state_line t s) (table_state t s) ≡ table_state_line t (s + 1))
  unfolding table_state
  state_stands s l =
      let h = actions_stand s 0 (table_count t s) l (omega arith) in
      let q : 0 + table_count t s ≡ table_count t s = omega arith in
      let h' = subst (λ (i : ℕ). Stand t i (map (table_entry t s) (up_from 0 (table_count t s)))
      × (i + span t i (map (table_entry t s) (up_from 0 (table_count t s))) ≡ table_action_line t s (0 + table_count t s))) (action-first t s) h in
      (h'.0, h'.1 ∙ ap (table_action_line t s) q ∙ sym (state_line_lem t s))

  pub states_stand : (s m : ℕ) → s + m ≤ n
      → Stand t (table_state_line t s) (for_each (table_state t) (up_from s m))
      × (table_state_line t s + span t (table_state_line t s) (for_each (table_state t) (up_from s m)) ≡ table_state_line t (s + m))
  states_stand s zero l = (tt, let q : s + 0 ≡ s = omega arith in rw q (omega arith))
  states_stand s (suc m) l =
      let j = table_state_line t s in
      let es = table_state t s in
      let fs = for_each (table_state t) (up_from (suc s) m) in
      let h = state_stands s (omega arith) in
      let step : table_state_line t (suc s) ≡ j + span t j es = rw (sym (add-one s)) (sym h.1) in
      let ih = subst (λ (i : ℕ). Stand t i fs × (i + span t i fs ≡ table_state_line t (suc s + m))) step (states_stand (suc s) m (omega arith)) in
      let q : suc s + m ≡ s + suc m = omega arith in
      let whole : j + span t j (es ++ fs) ≡ table_state_line t (s + suc m) = omega (arith, span_++ t j es fs, ih.1 ∙ ap (table_state_line t) q) in
      (stand_++ t j es fs h.0 ih.0, whole)

  -- ---- the closings from state s on

  closing_stands : (s : ℕ) → s < n → Stands t (closing_line t s) (closing_entry t s) × (table_branches t (closing_line t s) ≡ 0)
  unfolding read_entry table_branches closing_reward
  closing_stands s l =
      let e = closing_bare_lem t ok s l in
      let z : nat_abs (table_left t (closing_line t s)) ≡ 0 = rw e.0 in
      (record { is = rw z; some = rw z e.0; small = e.1 }, z)

  pub closings_stand : (s m : ℕ) → s + m ≤ n → Stand t (closing_line t s) (map (closing_entry t) (up_from s m))
      × (span t (closing_line t s) (map (closing_entry t) (up_from s m)) ≡ m)
  unfolding closing_line
  closings_stand s zero l = (tt, refl)
  closings_stand s (suc m) l =
      let h = closing_stands s (omega arith) in
      let step : table_state_line t n + suc s ≡ table_after t (table_state_line t n + s) = omega (arith, after_is t (table_state_line t n + s), h.1) in
      let es = map (closing_entry t) (up_from (suc s) m) in
      let ih = subst (λ (i : ℕ). Stand t i es × (span t i es ≡ m)) step (closings_stand (suc s) m (omega arith)) in
      ((h.0, ih.0), omega (arith, h.1, ih.1))

  -- ---- where lines stand

  pub line_rises : (s : ℕ) → s < n → table_state_line t s ≤ table_state_line t (s + 1)
  line_rises s l = omega (arith, (state_stands s l).1)

  pub line_most : (s : ℕ) → s ≤ n → table_state_line t s ≤ table_state_line t n
  line_most s l =
      let e : s + (n - s) ≡ n = omega arith in
      omega (arith, (states_stand s (n - s) (omega arith)).1 ∙ ap (table_state_line t) e)
