-- Lines of an accepted book lie within its columns.
-- Assumes nothing.
use mathlib.Core.Path.{◌≡◌, refl, sym, ◌∙◌}
use mathlib.Core.List.{List}
use Prim.Native.Nat.{ℕ, ◌+◌, ◌*◌, ◌≤◌, ◌<◌}
use native.Mathlib.Numerals.{add-one}
use native.Mathlib.Omega.{arith}
use lib.ListN.{length, get_or}
use Rattle.model.specs.Model.{Words, state_count, line_count, state_line, action_count, branches, line_after, skip, action_line}
use Rattle.model.specs.Questions.{book_number}
use Rattle.accepted.specs.Facts.{accepted}
use Rattle.book.specs.Read.{Headed}
use Rattle.book.specs.declared.Sizes.{Sizes}
use Rattle.index.specs.Index.{Checked, Indexed, ActionAt}

-- the words of the action whose first line is line j are there
pub record Inside (ws : Words) (z : Sizes) (j : ℕ) : Type 0 where
  pub fit : j + 1 + branches ws j ≤ z.l
  pub exact : length ws ≡ z.columns + 2 * z.l
  pub short : length ws ≤ 4172

pub lines_inside : (ws : Words) (z : Sizes) (p c j : ℕ) → Checked ws z → ActionAt ws p c j → Inside ws z j
unfolding line_after
lines_inside ws z p c j k a =
    let s = (accepted ws k.ok).sizes in
    let fit : j + 1 + branches ws j ≤ line_count ws = rw a.line_is ((accepted ws k.ok).lines_fit_lem p c a.state a.action) in
    record { fit = omega arith; exact = omega arith; short = omega arith }

pub line_start : (ws : Words) (p : ℕ) → action_line ws p 0 ≡ state_line ws p
unfolding action_line skip
line_start ws p = refl

-- what a pass over the actions of state p begins with
pub record Entered (ws : Words) (x : List ℕ) (p : ℕ) : Type 0 where
  pub small : p < 64
  pub few : action_count ws p ≤ 8
  pub first : get_or x p 0 ≡ action_line ws p 0

pub entered : {ws : Words} {z : Sizes} {x : List ℕ} → Indexed ws z x → (p : ℕ) → p < state_count ws → Entered ws x p
entered {ws} h p l =
    let a = accepted ws h.checked.ok in
    record { small = omega (arith, a.sizes.s_high); few = a.counts_high p l; first = h.index.line p l ∙ sym (line_start ws p) }

-- the line after those of action c
pub line_next : (ws : Words) (p c j : ℕ) → j ≡ action_line ws p c → j + 1 + branches ws j ≡ action_line ws p (c + 1)
unfolding action_line skip line_after
line_next ws p c j e = rw (e, add-one c)

pub state_next : (ws : Words) (p : ℕ) → state_line ws (p + 1) ≡ action_line ws p (action_count ws p)
unfolding action_line state_line
state_next ws p = rw add-one

-- an accepted book has its sizes and its state counts
pub headed : (ws : Words) → book_number ws ≡ 0 → Headed ws
headed ws ok = let s = (accepted ws ok).sizes in record { h_high = s.h_high; long = omega (arith, s.exact) }
