-- A bound of the number of policies: the product of the numbers of actions at all states, reached or not.
-- Assumes nothing.
use Rattle.std.specs.Prelude.{◌≡◌, Bool, true, false, List, [], ◌∷◌, map, ℕ, zero, suc, ◌*◌, ◌≤◌, length}
use Rattle.std.proofs.Common.{mul-le-mul, arith, length-append}
use Rattle.std.proofs.lemmas.List.{length-map}
use Rattle.model.specs.Lists.{is_in, for_each}
use Rattle.model.specs.Model.{Words, Action, state_count, action}
use Rattle.model.specs.Questions.{book_number}
use Rattle.model.specs.Policy.{Policy, allowed, onward, policies_from, policies}
use Rattle.model.specs.Recursion.{feasible}
use Rattle.accepted.specs.Shape.{policies-feasible}

-- how many bytes a state can have at most: as many as it has actions, or the one for a state that is not reached
abbrev pub ways_at : List ℕ → ℕ
ways_at [] = 1
ways_at (x ∷ xs) = suc (length xs)

-- of the n states from p on
abbrev pub ways : (ℕ → List ℕ) → ℕ → ℕ → ℕ
ways lists zero p = 1
ways lists (suc n) p = ways_at (lists p) * ways lists n (suc p)

each_most : {A B : Type 0} (f : A → List B) (m : ℕ) → ((x : A) → length (f x) ≤ m) → (xs : List A) → length (for_each f xs) ≤ length xs * m
each_most f m h [] = omega arith
each_most f m h (x ∷ xs) = rw length-append (omega (arith, h x, each_most f m h xs))

allowed-most : (os : List ℕ) (t : Bool) → length (allowed os t) ≤ ways_at os
allowed-most [] true = omega arith
allowed-most (x ∷ xs) true = omega arith
allowed-most [] false = omega arith
allowed-most (x ∷ xs) false = omega arith

from_most : (act : ℕ → ℕ → Action) (lists : ℕ → List ℕ) (n p : ℕ) (reach : List ℕ) → length (policies_from act lists n p reach) ≤ ways lists n p
from_most act lists zero p reach = omega arith
from_most act lists (suc n) p reach =
    let each = each_most (λ (b : ℕ). map (λ (bs : Policy). b ∷ bs) (policies_from act lists n (suc p) (onward act p b reach))) (ways lists n (suc p))
    (λ b. rw length-map (from_most act lists n (suc p) (onward act p b reach))) (allowed (lists p) (is_in p reach)) in
    omega (
      arith,
      each,
      mul-le-mul {n₁ = length (allowed (lists p) (is_in p reach))} {m₁ = ways lists n (suc p)} {n₂ = ways_at (lists p)} {m₂ = ways lists n (suc p)}
          (allowed-most (lists p) (is_in p reach)) (omega arith),
    )

pub policies-most : (ws : Words) → book_number ws ≡ 0 → length (policies ws) ≤ ways (feasible ws) (state_count ws) 0
policies-most ws ok = rw (policies-feasible ws ok) (from_most (action ws) (feasible ws) (state_count ws) 0 (0 ∷ []))
