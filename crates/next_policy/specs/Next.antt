-- The next policy in the order of the bytes, from a policy alone: at the last reached state where the list has a higher action, that action; before it
-- the same bytes, and after it the lowest action of each state reached. The enumeration of the policies is in this order, and `next_from` leads from each
-- policy to the one after it, where a policy goes on from each action of the lists.
-- Assumes nothing.
use Rattle.std.specs.Prelude.{cond, List, [], ◌∷◌, ℕ, zero, suc, ltb}
use Rattle.std.proofs.Math.Option.{Option, none, some}
use Rattle.model.specs.Lists.{is_in}
use Rattle.model.specs.Model.{Action}
use Rattle.model.specs.Policy.{Policy, allowed, onward}

-- the first of a list, 255 where there is none
abbrev pub first_of : List ℕ → ℕ
first_of [] = 255
first_of (x ∷ xs) = x

-- the first of a list that is above b
abbrev pub first_above : ℕ → List ℕ → Option ℕ
first_above b [] = none
first_above b (x ∷ xs) = cond (ltb b x) (some x) (first_above b xs)

-- b before the bytes that are found, or else what is found otherwise
abbrev pub behind : ℕ → Option Policy → Option Policy → Option Policy
behind b none other = other
behind b (some bs) other = some (b ∷ bs)

-- c, if there is one, before the bytes that go with it
abbrev pub ahead : (ℕ → Policy) → Option ℕ → Option Policy
ahead after none = none
ahead after (some c) = some (c ∷ after c)

module _ (act : ℕ → ℕ → Action) (lists : ℕ → List ℕ) where
  -- the bytes allowed at state p, lowest first
  abbrev pub bytes_at : ℕ → List ℕ → List ℕ
  bytes_at p reach = allowed (lists p) (is_in p reach)

  -- the lowest policy of the n states from p on, where `reach` are the states known to be reached
  abbrev pub lowest_from : ℕ → ℕ → List ℕ → Policy
  lowest_from zero p reach = []
  lowest_from (suc n) p reach = first_of (bytes_at p reach) ∷ lowest_from n (suc p) (onward act p (first_of (bytes_at p reach)) reach)

  -- the one after bs, if there is one
  abbrev pub next_from : ℕ → ℕ → List ℕ → Policy → Option Policy
  next_from zero p reach bs = none
  next_from (suc n) p reach [] = none
  next_from (suc n) p reach (b ∷ bs) =
      behind b (next_from n (suc p) (onward act p b reach) bs)
      (ahead (λ c. lowest_from n (suc p) (onward act p c reach)) (first_above b (bytes_at p reach)))
