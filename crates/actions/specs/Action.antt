-- What the questions 9 to 13 ask of one action, by the words that are read.
-- Assumes nothing.
use Rattle.std.specs.Prelude.{◌≡◌, Bool, true, false, ◌&&◌, ℕ, zero, suc, ◌+◌, ◌-◌, ◌≤◌, leb, ℤ, pos, negsuc, nat_abs}
use Rattle.std.specs.Int.Signed.{lt_z}
use Rattle.model.specs.Lists.{all, sum_to}
use Rattle.model.specs.Model.{Words, word, right, branches, stage_size}
use Rattle.model.specs.Questions.{branches_allowed, cost_allowed, nexts_allowed, weights_allowed, open_size}
use Rattle.book.specs.declared.Sizes.{Sizes}
use Rattle.actions.specs.declared.Limits.{Limits}

-- the next state before transition i, of those that begin at word `at`; -1 before the first
abbrev pub prev_at : Words → ℕ → ℕ → ℤ
prev_at ws at zero = negsuc 0
prev_at ws at (suc i) = word ws (at + i)

-- and transition i's own exceeds it
abbrev pub next_above : Words → ℕ → ℕ → Bool
next_above ws at i = lt_z (prev_at ws at i) (word ws (at + i))

-- and is below the width of its stage
abbrev pub next_allowed : Words → ℕ → ℕ → ℕ → Bool
next_allowed ws at width i = next_above ws at i && lt_z (word ws (at + i)) (pos width)

-- r weights from word `at` on are above 0 and add to at most d
abbrev pub weights_fit : Words → ℕ → ℕ → ℕ → Bool
weights_fit ws at r d =
    all r (λ (i : ℕ). lt_z (pos 0) (word ws (at + i))) && leb (sum_to r (λ (i : ℕ). nat_abs (word ws (at + i)))) d

-- 13 of one action: its cost without its sign, where it is open, is at most `most`
unfoldable pub cost_up_to : ℕ → Words → ℕ → ℕ → Bool
cost_up_to most ws n j = leb (open_size (right ws j)) most

-- the number of the first "no" among the answers to 9, 10, 11, 12 and 13
abbrev pub code : Bool → Bool → Bool → Bool → Bool → ℕ
code false tens elevens twelves thirteens = 9
code true false elevens twelves thirteens = 10
code true true false twelves thirteens = 11
code true true true false thirteens = 12
code true true true true false = 13
code true true true true true = 0

-- of one action
unfoldable pub action_number : ℕ → Words → ℕ → ℕ → ℕ
action_number most ws n j =
    code (branches_allowed ws n j) (cost_allowed ws n j) (nexts_allowed ws n j) (weights_allowed ws n j) (cost_up_to most ws n j)

-- word `at` is one of the left column, or the first after it
pub record InColumn (z : Sizes) (at : ℕ) : Type 0 where
  pub from : z.columns ≤ at
  pub to : at ≤ z.columns + z.l

-- an action that passes question 9: its first line is at word `at`, it has r transitions, and q says what its state is asked by
pub record ActionRead (ws : Words) (z : Sizes) (q : Limits) (at r : ℕ) : Type 0 where
  pub from : z.columns ≤ at
  pub fit : branches_allowed ws q.n (at - z.columns) ≡ true
  pub r_is : r ≡ branches ws (at - z.columns)
  pub width_is : q.width ≡ stage_size ws (q.n + 1)
