-- The words of an action's lines are its cost and its transitions.
-- Assumes nothing.
use mathlib.Core.Path.{◌≡◌, refl, sym, ap, ◌∙◌}
use mathlib.Core.List.{List, [], ◌∷◌, map}
use Prim.Native.Nat.{ℕ, zero, suc, ◌+◌, ◌≤◌, ◌<◌}
use native.Mathlib.Nat.{add-zero}
use native.Mathlib.Omega.{arith}
use lib.IntN.{nat_abs}
use lib.ListN.{length, get_or}
use Rattle.model.specs.Lists.{up_from}
use Rattle.model.specs.Model.{Words, word, state_count, stage, action_count, left, right, branches, line_after, action_line}
use Rattle.model.specs.Model.{Transition, Action, transition_at, read_action, action}
use Rattle.laws.specs.Members.{Every}
use Rattle.accepted.specs.Facts.{accepted}
use Rattle.accepted.specs.Shape.{shape, action_is}
use Rattle.index.specs.Index.{NotBelow0}
use Rattle.index.proofs.Signs.{nexts-up, weights-up}
use Rattle.lines.specs.Lines.{none, transition, LinesOf, NextIs}
use Rattle.lines.specs.declared.Lines.{Lines}

-- ---- lists

-- element i of a list that is made from k on
made_at : (f : ℕ → Transition) (k n i : ℕ) (d : Transition) → i < n → get_or (map f (up_from k n)) i d ≡ f (k + i)
made_at f k zero i d h = absurd (omega arith)
made_at f k (suc n) zero d h = ap f (sym (add-zero k))
made_at f k (suc n) (suc i) d h = made_at f (suc k) n i d (omega arith) ∙ ap f (omega arith)

made_long : (f : ℕ → Transition) (k n : ℕ) → length (map f (up_from k n)) ≡ n
made_long f k zero = refl
made_long f k (suc n) = ap suc (made_long f (suc k) n)

-- what holds of every transition holds of each
every_at : (P : Transition → Type 0) (ts : List Transition) (i : ℕ) (d : Transition) → Every P ts → i < length ts → P (get_or ts i d)
every_at P [] i d h l = absurd (omega arith)
every_at P (t ∷ ts) zero d h l = h.0
every_at P (t ∷ ts) (suc i) d h l = every_at P ts i d h.1 (omega arith)

-- ---- an action as it is read

module _ (ws : Words) (p c : ℕ) (state : p < state_count ws) (has : c < action_count ws p) where
  abbrev line : ℕ
  line = action_line ws p c

  pub transitions_long : length (action ws p c).transitions ≡ branches ws line
  unfolding read_action
  transitions_long = ap (λ (a : Action). length a.transitions) (action_is ws p c state has) ∙ made_long (transition_at ws (stage ws p)) (line + 1) (branches ws line)

  transition_is : (i : ℕ) → i < branches ws line → transition ws p c i ≡ transition_at ws (stage ws p) (line + 1 + i)
  unfolding read_action
  transition_is i h =
      ap (λ (a : Action). get_or a.transitions i none) (action_is ws p c state has)
      ∙ made_at (transition_at ws (stage ws p)) (line + 1) (branches ws line) i none h

-- ---- by its words

module _ {ws : Words} {p c : ℕ} {t : Lines} (h : LinesOf ws p c t) where
  abbrev first : ℕ
  first = action_line ws p c

  branches_are : t.r ≡ branches ws first
  branches_are = h.r_is ∙ transitions_long ws p c h.state h.has

  pub inside : (t.at + 1 + t.l + t.r ≤ length ws) × (length ws ≤ 4172)
  unfolding line_after
  inside =
      let s = (accepted ws h.ok).sizes in
      omega (arith, branches_are, (accepted ws h.ok).lines_fit_lem p c h.state h.has, h.at-is, h.l_is)

  pub cost-word : word ws (t.at + t.l) ≡ (action ws p c).cost
  unfolding read_action right
  cost-word =
      ap (word ws) (omega (arith, h.at-is, h.l_is)) ∙ sym (ap (λ (a : Action). a.cost) (action_is ws p c h.state h.has))

  module _ (i : ℕ) (l : i < t.r) where
    more : i < branches ws first
    more = omega (arith, l, branches_are)

    left_word : word ws (t.at + 1 + i) ≡ left ws (first + 1 + i)
    unfolding left
    left_word = ap (word ws) (omega (arith, h.at-is))

    right-word : word ws (t.at + 1 + t.l + i) ≡ right ws (first + 1 + i)
    unfolding right
    right-word = ap (word ws) (omega (arith, h.at-is, h.l_is))

    pub next_up : NotBelow0 (word ws (t.at + 1 + i))
    next_up = rw left_word (nexts-up ws h.ok p h.state c h.has i more)

    pub weight_up : NotBelow0 (word ws (t.at + 1 + t.l + i))
    weight_up = rw right-word (weights-up ws h.ok p h.state c h.has i more)

    -- what was read, as a next state and as a weight
    pub next_is : (k : ℕ) → k ≡ nat_abs (word ws (t.at + 1 + i)) → NextIs ws p c i (t.base + k)
    unfolding transition_at
    next_is k e = record { is = is; low = omega (arith, is, inside_model, (accepted ws h.ok).sizes.s_high) }
      where
        is : t.base + k ≡ (transition ws p c i).next
        is = rw (e, left_word, h.base_is, transition_is ws p c h.state h.has i more)

        inside_model : (transition ws p c i).next < state_count ws
        inside_model =
            every_at (λ (u : Transition). u.next < state_count ws) (action ws p c).transitions i none ((shape ws h.ok).inside p c)
            (omega (arith, l, h.r_is))

    pub weight_is : (k : ℕ) → k ≡ nat_abs (word ws (t.at + 1 + t.l + i)) → k ≡ (transition ws p c i).weight
    unfolding transition_at
    weight_is k e = rw (e, right-word, transition_is ws p c h.state h.has i more)
