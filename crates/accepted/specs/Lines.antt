-- The lines of two actions do not overlap, and the lines of an accepted book lie in its columns.
-- Assumes nothing.
use Rattle.std.specs.Prelude.{◌≡◌, ◌⊎◌}
use Rattle.std.proofs.Math.Path.{ap}
use Rattle.std.proofs.Common.{inl, inr, eq-or-lt_of_le}
use Prim.Native.Nat.{ℕ, zero, suc, ◌≤◌, ◌<◌}
use Rattle.std.proofs.Math.Decide.{dec_lt}
use native.Mathlib.Omega.{arith}
use Rattle.model.specs.Model.{Words, line_count, state_count, action_count, line_after, skip, state_line, action_line}
use Rattle.model.specs.Questions.{book_number}
use Rattle.accepted.specs.Facts.{accepted}

module _ (ws : Words) where
  skip_grows : (i c : ℕ) → i ≤ skip ws i c
  unfolding skip line_after
  skip_grows i zero = omega arith
  skip_grows i (suc c) = omega (arith, skip_grows i c)

  -- the lines of an action end before those of a later one of the same state begin
  skip-after : (i b c : ℕ) → b < c → line_after ws (skip ws i b) ≤ skip ws i c
  unfolding skip line_after
  skip-after i b zero l = absurd (omega arith)
  skip-after i b (suc c) l = go (eq-or-lt_of_le l) (skip-after i b c)
    where
      go : (suc b ≡ suc c) ⊎ (suc b < suc c) → (b < c → line_after ws (skip ws i b) ≤ skip ws i c) → line_after ws (skip ws i b) ≤ skip ws i (suc c)
      go (inl e) ih = let q : b ≡ c = omega arith in rw q (omega arith)
      go (inr k) ih = omega (arith, ih (omega arith))

  state_after : (p q : ℕ) → p ≤ q → state_line ws p ≤ state_line ws q
  unfolding state_line
  state_after p zero l = let e : p ≡ 0 = omega arith in rw e (omega arith)
  state_after p (suc q) l = go (eq-or-lt_of_le l) (state_after p q)
    where
      go : (p ≡ suc q) ⊎ (p < suc q) → (p ≤ q → state_line ws p ≤ state_line ws q) → state_line ws p ≤ state_line ws (suc q)
      go (inl e) ih = rw e (omega arith)
      go (inr k) ih = omega (arith, ih (omega arith), skip_grows (state_line ws q) (action_count ws q))

  action-after : (p b c : ℕ) → b < c → line_after ws (action_line ws p b) ≤ action_line ws p c
  unfolding action_line
  action-after p b c l = skip-after (state_line ws p) b c l

  -- and before those of a later state begin
  line_after_lem : (q b p c : ℕ) → q < p → b < action_count ws q → line_after ws (action_line ws q b) ≤ action_line ws p c
  unfolding action_line state_line
  line_after_lem q b p c l k =
      omega (arith, skip-after (state_line ws q) b (action_count ws q) k, state_after (suc q) p l, skip_grows (state_line ws p) c)

  -- a line of action b of state q that is the first of action c of state p is of the same action
  pub one_action : (q b p c i : ℕ) → b < action_count ws q → c < action_count ws p
      → action_line ws q b ≤ i → i < line_after ws (action_line ws q b) → i ≡ action_line ws p c → (q ≡ p) × (b ≡ c)
  unfolding line_after
  one_action q b p c i k l from to e = states (dec_lt q p) (dec_lt p q)
    where
      actions : q ≡ p → Dec (b < c) → Dec (c < b) → (q ≡ p) × (b ≡ c)
      actions s (yes h) g = absurd (omega (arith, action-after q b c h, ap (λ (r : ℕ). action_line ws r c) s))
      actions s (no h) (yes g) = absurd (omega (arith, action-after q c b g, ap (λ (r : ℕ). action_line ws r c) s))
      actions s (no h) (no g) = (s, omega arith)

      states : Dec (q < p) → Dec (p < q) → (q ≡ p) × (b ≡ c)
      states (yes h) g = absurd (omega (arith, line_after_lem q b p c h k))
      states (no h) (yes g) = absurd (omega (arith, line_after_lem p c q b g l))
      states (no h) (no g) = actions (omega arith) (dec_lt b c) (dec_lt c b)

-- the first line of an action of an accepted book is one of its lines
pub line_inside : (ws : Words) → book_number ws ≡ 0 → (p c : ℕ) → p < state_count ws → c < action_count ws p → action_line ws p c < line_count ws
unfolding line_after
line_inside ws ok p c l k = omega (arith, (accepted ws ok).lines_fit_lem p c l k)
