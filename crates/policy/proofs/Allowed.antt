-- The bytes that are allowed at a state.
-- Assumes nothing.
use mathlib.Core.Path.{◌≡◌, refl, sym, ap, ◌∙◌, subst}
use mathlib.Core.Bool.{Bool, true, false, not, ◌||◌}
use mathlib.Core.List.{List}
use Prim.Native.Nat.{ℕ, ◌≤◌, ◌<◌}
use native.Mathlib.Omega.{arith}
use lib.Dec.{T, eqb}
use Rattle.model.specs.Lists.{is_in}
use Rattle.model.specs.Model.{Words, action_count, action, closed, options}
use Rattle.model.specs.Policy.{allowed}
use Rattle.laws.specs.Members.{T_true, true-T, is_in_in, in_is_in}
use Rattle.accepted.specs.Options.{option_below, option_open, open_option}

-- 255 alone where the state is not reached
pub allowed_unreached : (os : List ℕ) (c : ℕ) → is_in c (allowed os false) ≡ eqb c 255
allowed_unreached os c = go (eqb c 255)
  where
    go : (b : Bool) → (b || false) ≡ b
    go true = refl
    go false = refl

-- its open actions where it is reached
module _ (ws : Words) (p c : ℕ) where
  pub beyond_actions : action_count ws p ≤ c → is_in c (allowed (options ws p) true) ≡ false
  beyond_actions l = go (is_in c (options ws p)) refl
    where
      go : (b : Bool) → is_in c (options ws p) ≡ b → is_in c (options ws p) ≡ false
      go true e = absurd (omega (arith, option_below ws p (is_in_in c (options ws p) (true-T e))))
      go false e = e

  pub own-action : c < action_count ws p → is_in c (allowed (options ws p) true) ≡ not (closed (action ws p c).cost)
  own-action l = go (closed (action ws p c).cost) refl (is_in c (options ws p)) refl
    where
      go : (b : Bool) → closed (action ws p c).cost ≡ b → (t : Bool) → is_in c (options ws p) ≡ t → is_in c (options ws p) ≡ not (closed (action ws p c).cost)
      go false e t i = T_true (is_in c (options ws p)) (in_is_in c (options ws p) (open_option ws p c l e)) ∙ sym (ap not e)
      go true e true i = absurd (subst T (sym e ∙ option_open ws p c (is_in_in c (options ws p) (true-T i))) tt)
      go true e false i = i ∙ sym (ap not e)

  pub allowed_below : is_in c (allowed (options ws p) true) ≡ true → c < action_count ws p
  allowed_below e = option_below ws p (is_in_in c (options ws p) (true-T e))
