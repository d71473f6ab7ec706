-- What the words of a book say. Total on any words: Questions.antt says which words are a book, and no later question is put where an earlier one is
-- answered no, so what these definitions say of other words is never used.
-- Document 01's terms: model = book, state = post, action = choice, transition = line (below a choice's first), policy = plan, sample path = day,
-- terminal cost = closing cost; request 2.9: a depot is an action of a state of stage H.
-- Assumes nothing.
use Rattle.std.specs.Prelude.{ℕ, zero, suc, ◌+◌, ◌-◌, Bool, false, not, ◌&&◌, cond, List, [], ◌∷◌, map, ℤ, pos, negsuc, nat_abs, eqb, leb, ltb, get_or}
use Rattle.model.specs.Lists.{sum_to, up_from, bit, keep}

-- "A book is a slice of signed 32-bit words."
abbrev pub Words : Type 0
Words = List ℤ

unfoldable pub word : Words → ℕ → ℤ
word ws i = get_or ws i (pos 0)

-- "Sizes come first": "D, the scale of chances; H, the number of stages with a decision; L, the number of lines"
unfoldable pub scale : Words → ℕ
scale ws = nat_abs (word ws 0)

unfoldable pub horizon : Words → ℕ
horizon ws = nat_abs (word ws 1)

unfoldable pub line_count : Words → ℕ
line_count ws = nat_abs (word ws 2)

-- "H + 1 words: how many posts each stage 0 to H has."
unfoldable pub stage_size : Words → ℕ → ℕ
stage_size ws n = nat_abs (word ws (3 + n))

-- "Posts are numbered from 0 through the stages in order": the number of the first state of stage n
unfoldable pub first_state : Words → ℕ → ℕ
first_state ws n = sum_to n (stage_size ws)

-- "S is their sum."
unfoldable pub state_count : Words → ℕ
state_count ws = first_state ws (horizon ws + 1)

-- the stage of state p: as many as there are stages from 1 to H that begin at or before p
unfoldable pub stage : Words → ℕ → ℕ
stage ws p = sum_to (horizon ws) (λ (n : ℕ). bit (leb (first_state ws (n + 1)) p))

-- the stages still to come from state p
unfoldable pub togo : Words → ℕ → ℕ
togo ws p = horizon ws - stage ws p

-- "S words: how many choices each post has"
unfoldable pub action_count : Words → ℕ → ℕ
action_count ws p = nat_abs (word ws (4 + horizon ws + p))

-- "L words of left column, then L words of right column."
unfoldable pub left : Words → ℕ → ℤ
left ws i = word ws (4 + horizon ws + state_count ws + i)

unfoldable pub right : Words → ℕ → ℤ
right ws i = word ws (4 + horizon ws + state_count ws + line_count ws + i)

-- "A choice's first line holds r (left) .. Then come its r lines": r, where the first line is line j
unfoldable pub branches : Words → ℕ → ℕ
branches ws j = nat_abs (left ws j)

-- the line after those of the action whose first line is line j
unfoldable pub line_after : Words → ℕ → ℕ
line_after ws j = j + 1 + branches ws j

-- "The lines follow the posts in order and each post's choices in order, both from 0.": the line after c actions from line j on
unfoldable pub skip : Words → ℕ → ℕ → ℕ
skip ws j zero = j
skip ws j (suc c) = line_after ws (skip ws j c)

-- the first line of state p, and of action c of state p
unfoldable pub state_line : Words → ℕ → ℕ
state_line ws zero = 0
state_line ws (suc p) = skip ws (state_line ws p) (action_count ws p)

unfoldable pub action_line : Words → ℕ → ℕ → ℕ
action_line ws p c = skip ws (state_line ws p) c

-- ---- actions and transitions

-- a transition (a line below an action's first): the next state, by its number in the model, and its weight
pub record Transition : Type 0 where
  pub next : ℕ
  pub weight : ℕ

-- an action (choice): its cost in seconds and its transitions
pub record Action : Type 0 where
  pub cost : ℤ
  pub transitions : List Transition

-- the sum of transitions' weights
abbrev pub weights_of : List Transition → ℕ
weights_of [] = 0
weights_of (t ∷ ts) = t.weight + weights_of ts

-- Request 2.1: "a choice's weights as adding to at most D, and the missing part is the chance that the tour stops there"
abbrev pub missing : ℕ → Action → ℕ
missing D a = D - weights_of a.transitions

-- "the next post, counted from 0 within the next stage (left), and its weight (right)", for a state of stage n
unfoldable pub transition_at : Words → ℕ → ℕ → Transition
transition_at ws n i = record { next = first_state ws (n + 1) + nat_abs (left ws i); weight = nat_abs (right ws i) }

-- "A choice's first line holds r (left) and its cost in seconds (right). Then come its r lines"
unfoldable pub read_action : Words → ℕ → ℕ → Action
read_action ws n j = record { cost = right ws j; transitions = map (transition_at ws n) (up_from (j + 1) (branches ws j)) }

-- what stands for an action that a state does not have
abbrev pub no_action : Action
no_action = record { cost = pos 0; transitions = [] }

-- action c of state p
unfoldable pub action : Words → ℕ → ℕ → Action
action ws p c = cond (ltb p (state_count ws) && ltb c (action_count ws p)) (read_action ws (stage ws p) (action_line ws p c)) no_action

-- Request 2.7: "A cost of 200,000 marks a choice as closed"
abbrev pub closed_mark : ℕ
closed_mark = 200000

abbrev pub closed : ℤ → Bool
closed (pos n) = eqb n closed_mark
closed (negsuc n) = false

-- the actions that a policy may take at state p, lowest first: those that are not closed ("no plan takes it")
unfoldable pub options : Words → ℕ → List ℕ
options ws p = keep (λ (c : ℕ). not (closed (action ws p c).cost)) (up_from 0 (action_count ws p))
