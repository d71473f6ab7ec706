-- Reading gives the content back: each size, count, line and action that is read from the words of a content is the one that it has.
-- Assumes nothing.
use Rattle.std.specs.Prelude.{ℤ, pos, get_or, take, drop}
use mathlib.Core.List.{List, [], ◌++◌, map}
use Prim.Native.Nat.{ℕ, suc, ◌+◌}
use Rattle.std.proofs.Math.IntN.{nat_abs}
use Rattle.model.specs.Lists.{for_each}
use Rattle.model.specs.Model.{Transition, Action}
use Rattle.content.specs.Content.{Line, Entry, Content, entry_lines, states, state_lines, lefts, rights, lengths}

-- what stands for a line and for an entry that is not there
abbrev pub no_line : Line
no_line = record { left = pos 0; right = pos 0 }

abbrev pub no_entry : Entry
no_entry = record { amount = pos 0; lines = [] }

-- the states of the stages, the lines of a content, and entry a of state p
abbrev pub states_of : List (List (List Entry)) → List (List Entry)
states_of ss = for_each (λ (s : List (List Entry)). s) ss

abbrev pub lines_of : Content → List Line
lines_of c = state_lines (states c)

abbrev pub entry_at : Content → ℕ → ℕ → Entry
entry_at c p a = get_or (get_or (states c) p []) a no_entry

-- the lines before entry a of state p, and those after it
abbrev pub lines_before : Content → ℕ → ℕ → List Line
lines_before c p a = state_lines (take p (states c)) ++ for_each entry_lines (take a (get_or (states c) p []))

abbrev pub lines_after : Content → ℕ → ℕ → List Line
lines_after c p a = for_each entry_lines (drop (suc a) (get_or (states c) p [])) ++ state_lines (drop (suc p) (states c))

-- an entry as the action that is read, where the next stage begins at state `base`
abbrev pub line_transition : ℕ → Line → Transition
line_transition base l = record { next = base + nat_abs l.left; weight = nat_abs l.right }

abbrev pub entry_action : ℕ → Entry → Action
entry_action base e = record { cost = e.amount; transitions = map (line_transition base) e.lines }

abbrev pub action_of : ℤ → List Transition → Action
action_of z ts = record { cost = z; transitions = ts }

abbrev pub transition_of : ℕ → ℤ → ℤ → Transition
transition_of base x y = record { next = base + nat_abs x; weight = nat_abs y }

-- the four columns after the sizes: of the stages, of the states, left and right
abbrev pub columns : Content → List ℤ
columns c = lengths c.stages ++ (lengths (states c) ++ (lefts (lines_of c) ++ rights (lines_of c)))
