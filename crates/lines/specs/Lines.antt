-- The transitions of an action by their numbers, and where its lines lie.
-- Assumes nothing.
use Rattle.std.specs.Prelude.{◌≡◌, ℕ, ◌+◌, ◌≤◌, ◌<◌, length, get_or}
use Rattle.model.specs.Model.{Words, horizon, line_count, first_state, state_count, stage, action_count, action_line, Transition, action}
use Rattle.model.specs.Questions.{book_number}
use Rattle.lines.specs.declared.Lines.{Lines}
use Rattle.lines.specs.declared.Found.{Found}

-- what stands for a transition that an action does not have
abbrev pub none : Transition
none = record { next = 0; weight = 0 }

-- transition i of action c of state p
abbrev pub transition : Words → ℕ → ℕ → ℕ → Transition
transition ws p c i = get_or (action ws p c).transitions i none

-- the word at which the lines of action c of state p begin
abbrev pub word_of : Words → ℕ → ℕ → ℕ
word_of ws p c = 4 + horizon ws + state_count ws + action_line ws p c

-- state p has an action c, whose lines begin at word k
pub record WordOf (ws : Words) (p c k : ℕ) : Type 0 where
  pub state : p < state_count ws
  pub has : c < action_count ws p
  pub is : k ≡ word_of ws p c

-- r says where the lines of action c of state p begin, if the state has it, and where those of the next state do
pub record FoundIs (ws : Words) (p c : ℕ) (r : Found) : Type 0 where
  pub at-is : c < action_count ws p → r.at ≡ word_of ws p c
  pub after_is : r.after ≡ word_of ws (p + 1) 0

-- t says where the lines of action c of state p of an accepted book lie
pub record LinesOf (ws : Words) (p c : ℕ) (t : Lines) : Type 0 where
  pub ok : book_number ws ≡ 0
  pub state : p < state_count ws
  pub has : c < action_count ws p
  pub at-is : t.at ≡ 4 + horizon ws + state_count ws + action_line ws p c
  pub r_is : t.r ≡ length (action ws p c).transitions
  pub l_is : t.l ≡ line_count ws
  pub base_is : t.base ≡ first_state ws (stage ws p + 1)

-- r is the next state of transition i, one of the 64 that an array has places for
pub record NextIs (ws : Words) (p c i r : ℕ) : Type 0 where
  pub is : r ≡ (transition ws p c i).next
  pub low : r < 64

-- r is its weight
pub record WeightIs (ws : Words) (p c i r : ℕ) : Type 0 where
  pub is : r ≡ (transition ws p c i).weight
  pub small : r ≤ 2147483648
