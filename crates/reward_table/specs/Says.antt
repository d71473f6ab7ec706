-- What the questions 25 and 26 say of a table that passes them, and where its lines stand.
-- Assumes nothing.
use Rattle.std.specs.Prelude.{◌≡◌, refl, Bool, true, ◌&&◌, ℕ, ◌+◌, ◌*◌, ◌≤◌, ◌<◌, ℤ, negsuc, leb, eqb, length}
use Rattle.std.proofs.Common.{sym, ◌∙◌, add-one}
use Rattle.std.proofs.Math.Path.{ap}
use native.Mathlib.Omega.{arith}
use borrow.Author.Tests.{leb-true, ltb-true, eqb-true}
use Rattle.std.proofs.Math.IntN.{pos, nat_abs}
use Rattle.std.specs.Int.Signed.{le_z, lt_z}
use Rattle.model.specs.Lists.{all}
use Rattle.model.specs.Model.{Words, word}
use Rattle.model.specs.Questions.{inside}
use Rattle.laws.specs.Members.{T_true, true-T, same_test}
use Rattle.questions.specs.Ranges.{and-true, all-at, all_yes, all_same, all_both, inside_range}
use Rattle.reward_table.specs.Table.{table_scale, table_horizon, table_states, table_first, table_lines, table_count, table_left, table_right}
use Rattle.reward_table.specs.Table.{table_branches}
use Rattle.reward_table.specs.Table.{table_after, table_skip, table_state_line, table_action_line, closing_line, sizes_given, count_given, every_entry}
use Rattle.reward_table.specs.Table.{some_branch}
use Rattle.reward_table.specs.Table.{lines_fit, all_used, weights_add, closing_bare, amount_inside, reward_inside, lines_given}
use Rattle.reward_table.specs.Read.{Given, entry_given, state_given, states_given}

-- ---- signed tests

sizes_rise : (x y : ℤ) → le_z (pos 0) x ≡ true → lt_z x y ≡ true → nat_abs x < nat_abs y
sizes_rise (pos a) (pos b) e f = ltb-true a b f
sizes_rise (pos a) (negsuc b) e f = let z : ◌≡◌ {A = ℕ} 0 1 = cc in absurd (omega arith)
sizes_rise (negsuc a) y e f = let z : ◌≡◌ {A = ℕ} 0 1 = cc in absurd (omega arith)

-- a word from 0 on is its own size
own : (lo : ℕ) (z : ℤ) → le_z (pos lo) z ≡ true → z ≡ pos (nat_abs z)
own lo (pos n) e = refl
own lo (negsuc n) e = let z : ◌≡◌ {A = ℕ} 0 1 = cc in absurd (omega arith)

own-inside : (lo hi : ℕ) (z : ℤ) → inside (pos lo) (pos hi) z ≡ true → z ≡ pos (nat_abs z)
own-inside lo hi z e = own lo z (and-true (le_z (pos lo) z) (le_z z (pos hi)) e).0

-- a reward that is allowed
pub reward_small : (z : ℤ) → amount_inside z ≡ true → nat_abs z ≤ 100000
reward_small (pos n) e = leb-true n 100000 e
reward_small (negsuc n) e = let h = leb-true n 99999 (and-true (leb n 99999) true e).0 in omega arith

-- ---- 25

module _ (t : Words) (e : sizes_given t ≡ true) where
  parts : ((leb 5 (length t) && inside (pos 1) (pos 16) (word t 2) && (le_z (pos 0) (word t 3) && lt_z (word t 3) (word t 2))) ≡ true)
      × (inside (pos 1) (pos 100) (word t 0) ≡ true) × (inside (pos 1) (pos 8) (word t 1) ≡ true) × (inside (pos 1) (pos 2048) (word t 4) ≡ true)
      × (eqb (length t) (5 + table_states t + 2 * table_lines t) ≡ true)
  unfolding sizes_given
  parts =
      let g = and-true _ (eqb (length t) (5 + table_states t + 2 * table_lines t)) e in
      let f = and-true _ (inside (pos 1) (pos 2048) (word t 4)) g.0 in
      let h = and-true _ (inside (pos 1) (pos 8) (word t 1)) f.0 in
      let d = and-true _ (inside (pos 1) (pos 100) (word t 0)) h.0 in
      (d.0, d.1, h.1, f.1, g.1)

  states-first : (inside (pos 1) (pos 16) (word t 2) ≡ true) × (le_z (pos 0) (word t 3) ≡ true) × (lt_z (word t 3) (word t 2) ≡ true)
  states-first =
      let c = and-true (leb 5 (length t) && inside (pos 1) (pos 16) (word t 2)) (le_z (pos 0) (word t 3) && lt_z (word t 3) (word t 2)) parts.0 in
      let f = and-true (le_z (pos 0) (word t 3)) (lt_z (word t 3) (word t 2)) c.1 in
      ((and-true (leb 5 (length t)) (inside (pos 1) (pos 16) (word t 2)) c.0).1, f.0, f.1)

  pub given_says : Given t
  unfolding table_scale table_horizon table_states table_first table_lines
  given_says =
      let d = inside_range 1 100 (word t 0) parts.1 in
      let h = inside_range 1 8 (word t 1) parts.2 in
      let l = inside_range 1 2048 (word t 4) parts.3 in
      let n = inside_range 1 16 (word t 2) states-first.0 in
      record {
        d_low = d.0;
        d_high = d.1;
        h_low = h.0;
        h_high = h.1;
        n_low = n.0;
        n_high = n.1;
        first_low = sizes_rise (word t 3) (word t 2) states-first.1 states-first.2;
        l_high = l.1;
        exact = eqb-true (length t) (5 + nat_abs (word t 2) + 2 * nat_abs (word t 4)) parts.4;
      }

-- ---- 26, of one action

-- what an action that is as asked has
pub record EntryAs (t : Words) (j : ℕ) : Type 0 where
  pub some : table_left t j ≡ pos (table_branches t j)
  pub fit : table_after t j ≤ table_lines t
  pub reward : amount_inside (table_right t j) ≡ true
  pub weights : weights_add t j ≡ true

pub entry_says : (t : Words) (j : ℕ) → entry_given t j ≡ true → EntryAs t j
unfolding entry_given some_branch lines_fit reward_inside table_branches
entry_says t j e =
    let w = and-true _ (weights_add t j) e in
    let r = and-true _ (amount_inside (table_right t j)) w.0 in
    let f = and-true (le_z (pos 1) (table_left t j)) (leb (table_after t j) (table_lines t)) r.0 in
    record { some = own 1 (table_left t j) f.0; fit = leb-true (table_after t j) (table_lines t) f.1; reward = r.1; weights = w.1 }

-- ---- 26, of all

every_both : (t : Words) (f g : Words → ℕ → Bool) → every_entry (λ (u : Words) (j : ℕ). f u j && g u j) t ≡ (every_entry f t && every_entry g t)
unfolding every_entry
every_both t f g =
    all_same (table_states t) _ _
    (λ s l. all_both (table_count t s) (λ (c : ℕ). f t (table_action_line t s c)) (λ (c : ℕ). g t (table_action_line t s c)))
    ∙ all_both (table_states t) (λ (s : ℕ). all (table_count t s) (λ (c : ℕ). f t (table_action_line t s c)))
    (λ (s : ℕ). all (table_count t s) (λ (c : ℕ). g t (table_action_line t s c)))

states_are : (t : Words) → states_given t (table_states t)
    ≡ (every_entry some_branch t && every_entry lines_fit t && every_entry reward_inside t && every_entry weights_add t)
unfolding states_given state_given entry_given every_entry
states_are t =
    every_both t (λ u j. some_branch u j && lines_fit u j && reward_inside u j) weights_add
    ∙ ap (λ (b : Bool). b && every_entry weights_add t)
    (every_both t (λ u j. some_branch u j && lines_fit u j) reward_inside
    ∙ ap (λ (b : Bool). b && every_entry reward_inside t) (every_both t some_branch lines_fit))

regroup : (a b c u w z r q : Bool)
    → (a && b && (c && u) && w && z && (r && q)) ≡ (a && (b && c && r && w) && u && z && q)
regroup a b c u w z r q = same_test _ _ (λ h. true-T (there (T_true _ h))) (λ h. true-T (back (T_true _ h)))
  where
    there : (a && b && (c && u) && w && z && (r && q)) ≡ true → (a && (b && c && r && w) && u && z && q) ≡ true
    there e =
        let e6 = and-true _ (r && q) e in
        let rq = and-true r q e6.1 in
        let e5 = and-true _ z e6.0 in
        let e4 = and-true _ w e5.0 in
        let e3 = and-true _ (c && u) e4.0 in
        let cu = and-true c u e3.1 in
        let ab = and-true a b e3.0 in
        rw (ab.0, ab.1, cu.0, cu.1, e4.1, e5.1, rq.0, rq.1)

    back : (a && (b && c && r && w) && u && z && q) ≡ true → (a && b && (c && u) && w && z && (r && q)) ≡ true
    back e =
        let eq = and-true _ q e in
        let ez = and-true _ z eq.0 in
        let eu = and-true _ u ez.0 in
        let ea = and-true a (b && c && r && w) eu.0 in
        let ew = and-true _ w ea.1 in
        let er = and-true _ r ew.0 in
        let bc = and-true b c er.0 in
        rw (ea.0, bc.0, bc.1, er.1, ew.1, eu.1, ez.1, eq.1)

-- the rewards of the closing lines
abbrev pub closing_rewards : Words → ℕ → Bool
closing_rewards t s = reward_inside t (closing_line t s)

pub lines_are : (t : Words)
    → lines_given t
    ≡ (all (table_states t) (count_given t) && states_given t (table_states t) && all_used t && all (table_states t) (closing_bare t)
    && all (table_states t) (closing_rewards t))
unfolding lines_given
lines_are t =
    regroup (all (table_states t) (count_given t)) (every_entry some_branch t) (every_entry lines_fit t) (all_used t) (every_entry weights_add t)
    (all (table_states t) (closing_bare t)) (every_entry reward_inside t) (all (table_states t) (closing_rewards t))
    ∙ ap (λ (x : Bool). all (table_states t) (count_given t) && x && all_used t && all (table_states t) (closing_bare t) && all (table_states t)
    (closing_rewards t))
    (sym (states_are t))

-- ---- 26, of each part

module _ (t : Words) (ok : lines_given t ≡ true) where
  abbrev n : ℕ
  n = table_states t

  each : (all n (count_given t) ≡ true) × (states_given t n ≡ true) × (all_used t ≡ true) × (all n (closing_bare t) ≡ true)
      × (all n (closing_rewards t) ≡ true)
  each =
      let r = and-true _ (all n (closing_rewards t)) (sym (lines_are t) ∙ ok) in
      let c = and-true _ (all n (closing_bare t)) r.0 in
      let u = and-true _ (all_used t) c.0 in
      let s = and-true (all n (count_given t)) (states_given t n) u.0 in
      (s.0, s.1, u.1, c.1, r.1)

  pub count_word : (s : ℕ) → s < n → (word t (5 + s) ≡ pos (table_count t s)) × (1 ≤ table_count t s) × (table_count t s ≤ 8)
  unfolding count_given table_count
  count_word s l =
      let e = all-at n (count_given t) each.0 s l in
      let r = inside_range 1 8 (word t (5 + s)) e in
      (own-inside 1 8 (word t (5 + s)) e, r.0, r.1)

  -- the walk over a state finds nothing amiss
  pub state_given_lem : (s : ℕ) → s < n → state_given t s ≡ true
  unfolding states_given
  state_given_lem s l = all-at n (state_given t) each.1 s l

  pub entry_as : (s c : ℕ) → s < n → c < table_count t s → EntryAs t (table_action_line t s c)
  unfolding state_given
  entry_as s c l k =
      entry_says t (table_action_line t s c)
      (all-at (table_count t s) (λ (c : ℕ). entry_given t (table_action_line t s c)) (state_given_lem s l) c k)

  -- nor does the one over the states below `end`
  pub states_below : (end : ℕ) → end ≤ n → states_given t end ≡ true
  unfolding states_given
  states_below end l = all_yes end (state_given t) (λ s k. state_given_lem s (omega arith))

  pub all_used_lem : table_state_line t n + n ≡ table_lines t
  unfolding all_used closing_line
  all_used_lem = eqb-true (table_state_line t n + n) (table_lines t) each.2

  pub closing_bare_lem : (s : ℕ) → s < n → (table_left t (closing_line t s) ≡ pos 0) × (nat_abs (table_right t (closing_line t s)) ≤ 100000)
  unfolding closing_bare reward_inside
  closing_bare_lem s l =
      let e = all-at n (closing_bare t) each.3 s l in
      let z = inside_range 0 0 (table_left t (closing_line t s)) e in
      let o : nat_abs (table_left t (closing_line t s)) ≡ 0 = omega arith in (
        own-inside 0 0 (table_left t (closing_line t s)) e ∙ ap pos o,
        reward_small (table_right t (closing_line t s))
            (all-at n (closing_rewards t) each.4 s l),
      )

-- ---- lines

pub skip-more : (t : Words) (j c : ℕ) → table_skip t j (c + 1) ≡ table_after t (table_skip t j c)
unfolding table_skip
skip-more t j c = rw add-one

pub action_line_lem : (t : Words) (s c : ℕ) → table_action_line t s (c + 1) ≡ table_after t (table_action_line t s c)
unfolding table_action_line
action_line_lem t s c = skip-more t (table_state_line t s) c

pub action-first : (t : Words) (s : ℕ) → table_action_line t s 0 ≡ table_state_line t s
unfolding table_action_line table_skip
action-first t s = refl

pub state_line_lem : (t : Words) (s : ℕ) → table_state_line t (s + 1) ≡ table_action_line t s (table_count t s)
unfolding table_state_line table_action_line
state_line_lem t s = rw add-one

pub line_zero : (t : Words) → table_state_line t 0 ≡ 0
unfolding table_state_line
line_zero t = refl

pub after_is : (t : Words) (j : ℕ) → table_after t j ≡ j + 1 + table_branches t j
unfolding table_after
after_is t j = refl
