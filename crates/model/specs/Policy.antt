-- The policies of a model (document 01: the plans of a book). Next states are later states, so one walk through the states in order settles which
-- are reached. The walk is over any actions and options, since the laws speak of parts of a model's policies too.
-- Assumes nothing.
use Rattle.std.specs.Prelude.{ℕ, zero, suc, Bool, true, false, not, ◌&&◌, List, [], ◌∷◌, ◌++◌, map}
use Rattle.model.specs.Lists.{is_in, for_each, is_empty}
use Rattle.model.specs.Model.{Words, Transition, Action, state_count, action, options}

-- "A plan has S bytes"
abbrev pub Policy : Type 0
Policy = List ℕ

abbrev pub nexts : List Transition → List ℕ
nexts ts = map (λ (t : Transition). t.next) ts

-- "for a reached post its choice (one of that post's, counted from 0), for any other 255": the bytes allowed at a state. 2.9: "a plan's byte at a reached
-- last post is the depot chosen"
abbrev pub allowed : List ℕ → Bool → List ℕ
allowed os true = os
allowed os false = 255 ∷ []

module _ (act : ℕ → ℕ → Action) where
  -- "If a post is reached, so are all next posts of its chosen choice.": the states known to be reached after byte b at state p
  abbrev pub onward : ℕ → ℕ → List ℕ → List ℕ
  onward p b reach = nexts (act p b).transitions ++ reach

  module _ (opts : ℕ → List ℕ) where
    -- are the bytes a policy of the n states from p on, where `reach` are the states known to be reached?
    abbrev pub fits : ℕ → ℕ → List ℕ → Policy → Bool
    fits zero p reach [] = true
    fits zero p reach (b ∷ bs) = false
    fits (suc n) p reach [] = false
    fits (suc n) p reach (b ∷ bs) = is_in b (allowed (opts p) (is_in p reach)) && fits n (suc p) (onward p b reach) bs

    -- all of them, in the order of their bytes
    abbrev pub policies_from : ℕ → ℕ → List ℕ → List Policy
    policies_from zero p reach = [] ∷ []
    policies_from (suc n) p reach =
        for_each (λ (b : ℕ). map (λ (bs : Policy). b ∷ bs) (policies_from n (suc p) (onward p b reach)))
        (allowed (opts p) (is_in p reach))

-- "Post 0 is reached."
unfoldable pub is_policy : Words → Policy → Bool
is_policy ws bs = fits (action ws) (options ws) (state_count ws) 0 (0 ∷ []) bs

unfoldable pub policies : Words → List Policy
policies ws = policies_from (action ws) (options ws) (state_count ws) 0 (0 ∷ [])

-- Request 2.7: "A plan reaching a post with every choice closed is no plan." So a book may have no plan: has it one?
unfoldable pub has_policy : Words → Bool
has_policy ws = not (is_empty (policies ws))
