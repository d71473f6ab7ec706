-- The place of each policy on the way through them in the list of all policies.
-- Assumes nothing.
use mathlib.Core.Path.{◌≡◌, refl, sym, ap, ◌∙◌}
use mathlib.Core.Bool.{Bool, true, false}
use mathlib.Core.List.{List, [], ◌∷◌}
use mathlib.Core.Option.{none, some}
use Prim.Native.Nat.{ℕ, zero, suc, ◌≤◌}
use native.Mathlib.Omega.{arith}
use lib.ListN.{length, get_elem?}
use Rattle.model.specs.Model.{Words}
use Rattle.model.specs.Questions.{book_number}
use Rattle.model.specs.Policy.{Policy, policies, has_policy}
use Rattle.laws.specs.Entries.{at_low}
use Rattle.next_policy.specs.Linked.{head_or}
use Rattle.next_policy.proofs.Books.{lowest_is, next_is}
use Rattle.enumerate.specs.Steps.{IsFirst, Followed}

module _ {A : Type 0} where
  head_at : (xs : List A) → head_or none xs ≡ get_elem? xs 0
  head_at [] = refl
  head_at (x ∷ xs) = refl

  entry_none : (xs : List A) (i : ℕ) → get_elem? xs i ≡ none → length xs ≤ i
  entry_none [] i e = omega arith
  entry_none (y ∷ ys) zero e = let z : ◌≡◌ {A = ℕ} 0 1 = cc in absurd (omega arith)
  entry_none (y ∷ ys) (suc i) e = omega (arith, entry_none ys i e)

module _ (ws : Words) (ok : book_number ws ≡ 0) (has : has_policy ws ≡ true) where
  -- the lowest stands at place 0
  pub first_at : (bs : Policy) (reach : List ℕ) → IsFirst ws bs reach → get_elem? (policies ws) 0 ≡ some bs
  first_at bs reach f = sym (head_at (policies ws)) ∙ lowest_is ws ok has ∙ ap some (sym f.lowest)

  module _ (j : ℕ) (bs : Policy) (at : get_elem? (policies ws) j ≡ some bs) (t : Bool) (cs : Policy) (reach : List ℕ) (f : Followed ws bs t cs reach) where
    -- the one that follows stands at the next place
    pub next_at_lem : t ≡ true → get_elem? (policies ws) (suc j) ≡ some cs
    next_at_lem e = sym (next_is ws ok has j bs at) ∙ f.follows e

    -- where none does, there is no next place
    pub last_at : t ≡ false → length (policies ws) ≡ suc j
    last_at e =
        let n = entry_none (policies ws) (suc j) (sym (next_is ws ok has j bs at) ∙ f.ends e) in
        let l = at_low (policies ws) j bs at in
        omega arith
