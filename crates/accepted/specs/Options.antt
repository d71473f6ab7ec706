-- The actions that a policy may take, and the states from which some policy goes on. Laws, facts and contracts cite these names, so that `options` and
-- `feasible` alone say which actions they are.
-- Assumes nothing.
use Rattle.std.specs.Prelude.{◌≡◌, Bool, false, not, ℕ, ◌<◌}
use Rattle.std.proofs.Math.Path.{refl}
use Rattle.std.proofs.Common.{arith}
use Rattle.std.proofs.lemmas.Bool.{not-true}
use Rattle.model.specs.Lists.{keep, up_from}
use Rattle.model.specs.Model.{Words, state_count, togo, action_count, action, closed, options}
use Rattle.model.specs.Questions.{book_number}
use Rattle.model.specs.Recursion.{feasible}
use Rattle.laws.specs.Members.{In, Rising, T_true, false-T, up_from_in, in_up_from, up_from_rising}
use Rattle.laws.specs.Kept.{keep_in, in_keep, keep_rising}
use Rattle.laws.specs.Feasible.{feasible_option, feasible_rising}
use Rattle.accepted.specs.Facts.{accepted}

-- c is an action that a policy may take at state p
abbrev pub Option : Words → ℕ → ℕ → Type 0
Option ws p c = In c (options ws p)

-- and one from which a policy goes on
abbrev pub Feasible : Words → ℕ → ℕ → Type 0
Feasible ws p c = In c (feasible ws p)

-- p is a state of the model, and some policy goes on from it
pub record Alive (ws : Words) (p : ℕ) : Type 0 where
  pub state : p < state_count ws
  pub some : (c : ℕ) × Feasible ws p c

module _ (ws : Words) (p : ℕ) where
  -- an option is an open action of its state
  abbrev is_open : ℕ → Bool
  is_open c = not (closed (action ws p c).cost)

  -- what the options are, lowest first
  pub options_are : options ws p ≡ keep (λ (c : ℕ). not (closed (action ws p c).cost)) (up_from 0 (action_count ws p))
  unfolding options
  options_are = refl

  pub options_rising : Rising (options ws p)
  options_rising = rw options_are (keep_rising is_open (up_from 0 (action_count ws p)) (up_from_rising 0 (action_count ws p)))

  pub option_below : {c : ℕ} → Option ws p c → c < action_count ws p
  option_below {c} i =
      omega (arith, up_from_in 0 (action_count ws p) (keep_in is_open c (up_from 0 (action_count ws p)) (rw options_are at i)).0)

  pub option_open : (c : ℕ) → Option ws p c → closed (action ws p c).cost ≡ false
  option_open c i =
      not-true (closed (action ws p c).cost) (T_true (is_open c) (keep_in is_open c (up_from 0 (action_count ws p)) (rw options_are at i)).1)

  pub open_option : (c : ℕ) → c < action_count ws p → closed (action ws p c).cost ≡ false → Option ws p c
  open_option c l e =
      rw options_are (in_keep is_open c (up_from 0 (action_count ws p)) (in_up_from 0 (action_count ws p) c (omega arith) (omega arith)) (false-T e))

  pub to_option : (c : ℕ) → Feasible ws p c → Option ws p c
  unfolding feasible
  to_option c i = feasible_option (action ws) (options ws) (togo ws p) p c i

  pub lists_rising : Rising (feasible ws p)
  unfolding feasible
  lists_rising = feasible_rising (action ws) (options ws) (togo ws p) p options_rising

module _ (ws : Words) (ok : book_number ws ≡ 0) (p : ℕ) (l : p < state_count ws) where
  pub option_small : {c : ℕ} → Option ws p c → c < 8
  option_small i = omega (arith, option_below ws p i, (accepted ws ok).counts_high p l)

  pub feasible_small : {c : ℕ} → Feasible ws p c → c < 8
  feasible_small {c} i = option_small (to_option ws p c i)
