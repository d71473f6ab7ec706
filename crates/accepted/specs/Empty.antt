-- A book without a plan has an empty list, and no other book has.
-- Assumes nothing.
use Rattle.std.specs.Prelude.{◌≡◌, refl, Bool, true, false, not, List, [], ◌∷◌, ◌↔◌, ℕ, zero, suc, ◌≤◌, T, length, take}
use Rattle.std.proofs.Common.{ap, ◌∙◌, subst, arith}
use Rattle.model.specs.Lists.{is_empty, sorted}
use Rattle.model.specs.Model.{Words}
use Rattle.model.specs.Questions.{book_number}
use Rattle.model.specs.Policy.{Policy, policies, has_policy}
use Rattle.model.specs.Order.{comes_before, ranking}
use Rattle.accepted.specs.Demands.{policies_some, list_length_lem}

-- the list of a book without a plan
pub none_listed_lem : (ws : Words) (k : ℕ) → has_policy ws ≡ false → ranking ws k ≡ []
unfolding ranking has_policy
none_listed_lem ws k e = ap (λ (ps : List Policy). take k (sorted (comes_before ws) ps)) (empty (policies ws) e) ∙ first k
  where
    empty : (ps : List Policy) → not (is_empty ps) ≡ false → ps ≡ []
    empty [] e = refl
    empty (p ∷ ps) e = absurd (subst T e tt)

    first : (k : ℕ) → ◌≡◌ {A = List Policy} (take k []) []
    first zero = refl
    first (suc k) = refl

-- 28 by the length of the list
pub listed_none : (ws : Words) → book_number ws ≡ 0 → (k : ℕ) → 1 ≤ k → (length (ranking ws k) ≡ 0) ↔ (has_policy ws ≡ false)
listed_none ws ok k low = (λ e. go (has_policy ws) refl e, λ e. ap length (none_listed_lem ws k e))
  where
    go : (b : Bool) → has_policy ws ≡ b → length (ranking ws k) ≡ 0 → has_policy ws ≡ false
    go true h e = absurd (omega (arith, list_length_lem ws ok k, policies_some ws ok h, e))
    go false h e = h
