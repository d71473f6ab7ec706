-- The words at which the actions of a state begin.
-- Assumes nothing.
use mathlib.Core.Path.{◌≡◌, refl, sym, ap, ◌∙◌}
use Prim.Native.Nat.{ℕ, zero, suc, ◌+◌, ◌≤◌, ◌<◌}
use native.Mathlib.Numerals.{add-one}
use native.Mathlib.Omega.{arith}
use lib.IntN.{nat_abs}
use lib.ListN.{length}
use Rattle.model.specs.Model.{Words, word, horizon, first_state, state_count, stage, action_count, branches, action_line, action}
use Rattle.accepted.specs.Facts.{accepted}
use Rattle.book.proofs.Columns.{branches_are}
use Rattle.book.specs.declared.Sizes.{Sizes}
use Rattle.index.specs.Index.{NotBelow0, Checked, ActionAt}
use Rattle.index.proofs.Lines.{Inside, lines_inside, line_start, line_next, state_next}
use Rattle.index.proofs.Signs.{line_up}
use Rattle.lines.specs.Lines.{word_of, WordOf, LinesOf}

-- where the lines of a state end those of the next begin
pub state_after : (ws : Words) (p : ℕ) → word_of ws p (action_count ws p) ≡ word_of ws (p + 1) 0
state_after ws p = ap (λ (j : ℕ). 4 + horizon ws + state_count ws + j) (sym (line_start ws (p + 1) ∙ state_next ws p))

module _ {ws : Words} {z : Sizes} (k : Checked ws z) {p c w : ℕ} (h : WordOf ws p c w) where
  abbrev line : ℕ
  line = action_line ws p c

  place : w ≡ z.columns + line
  place = omega (arith, h.is, k.sizes.columns_is)

  there : ActionAt ws p c line
  there = record { state = h.state; action = h.has; line_is = refl }

  -- its words are there
  pub room : (w + 1 + branches ws line ≤ length ws) × (length ws ≤ 4172)
  room = let i : Inside ws z line = lines_inside ws z p c line k there in omega (arith, i.fit, i.exact, i.short, place)

  -- the first of them is r
  pub first-up : NotBelow0 (word ws w)
  first-up = rw place (line_up ws z p c line k there)

  pub r_is : (r : ℕ) → r ≡ nat_abs (word ws w) → r ≡ branches ws line
  r_is r e = branches_are ws z k.sizes line r (rw place at e)

  pub after : w + 1 + branches ws line ≡ word_of ws p (c + 1)
  after = omega (arith, h.is, line_next ws p c line refl)

  -- where its lines lie
  pub lines_of : LinesOf ws p c (record { at = w; r = length (action ws p c).transitions; l = z.l; base = first_state ws (stage ws p + 1) })
  lines_of =
      record { ok = k.ok; state = h.state; has = h.has; at-is = h.is; r_is = refl; l_is = k.sizes.l_is; base_is = refl }

-- at the last stage every action is one line
pub last_word : {ws : Words} {z : Sizes} → Checked ws z → (p : ℕ) → p < state_count ws → stage ws p ≡ horizon ws
    → (c : ℕ) → c ≤ action_count ws p → word_of ws p 0 + c ≡ word_of ws p c
last_word {ws} k p l e zero h = omega arith
last_word {ws} k p l e (suc c) h =
    let w : WordOf ws p c (word_of ws p c) = record { state = l; has = omega arith; is = refl } in
    rw (← add-one c)
    (omega (arith, last_word k p l e c (omega arith), after k w, (accepted ws k.ok).branches-last p c l (omega arith) e))
