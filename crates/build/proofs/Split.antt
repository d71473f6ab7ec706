-- The action chosen at a state, by where the state stands.
-- Assumes nothing.
use mathlib.Core.Path.{◌≡◌, sym, ◌∙◌, subst}
use mathlib.Core.List.{List}
use mathlib.Core.Logic.{◌⊎◌, inl, inr}
use Prim.Native.Nat.{ℕ, ◌≤◌, ◌<◌}
use native.Mathlib.Nat.{eq-or-lt_of_le}
use native.Mathlib.Omega.{arith}
use borrow.Author.Tests.{lt-ltb, le-ltb, eq-eqb, ne_eqb}
use lib.ListN.{get_or}
use Rattle.model.specs.Model.{Words, state_count}
use Rattle.model.specs.Policy.{Policy}
use Rattle.accepted.specs.Options.{Feasible, Alive}
use Rattle.model.specs.Path.{byte_at}
use Rattle.build.specs.Best.{best_at, BestOf}
use Rattle.build.specs.Walk.{split_by, chosen}
use Rattle.build.proofs.Best.{best_option}

module _ (f : ℕ → ℕ) (r c : ℕ) (g : ℕ → ℕ) where
  pub split_before : (s : ℕ) → s < r → split_by f r c g s ≡ f s
  unfolding split_by
  split_before s h = rw (lt-ltb s r h)

  pub split_here : (s : ℕ) → s ≡ r → split_by f r c g s ≡ c
  unfolding split_by
  split_here s e = rw (le-ltb s r (omega arith), eq-eqb s r e)

  pub split_after : (s : ℕ) → r < s → split_by f r c g s ≡ g s
  unfolding split_by
  split_after s h = rw (le-ltb s r (omega arith), ne_eqb s r (omega arith))

-- from state r on the action chosen is c at r, the first best one after it, and a feasible one
module _ (ws : Words) (bs : Policy) (r c s : ℕ) (from : r ≤ s) where
  pub chosen_from : (best : List ℕ) → BestOf ws best → s < state_count ws → (a : ℕ)
      → ((s ≡ r) × (a ≡ c)) ⊎ ((s ≡ r → ⊥) × (a ≡ get_or best s 0)) → a ≡ chosen ws bs r c s
  chosen_from best h l a (inl e) = e.1 ∙ sym (split_here (byte_at bs) r c (best_at ws) s e.0)
  chosen_from best h l a (inr e) = e.1 ∙ h.best_is s l ∙ sym (split_after (byte_at bs) r c (best_at ws) s (omega (arith, from, e.0)))

  pub chosen-feasible : Alive ws s → Feasible ws r c → Feasible ws s (chosen ws bs r c s)
  chosen-feasible a o = go (eq-or-lt_of_le from)
    where
      go : (r ≡ s) ⊎ (r < s) → Feasible ws s (chosen ws bs r c s)
      go (inl e) = let here : s ≡ r = sym e in rw split_here (subst (λ (p : ℕ). Feasible ws p c) e o)
      go (inr h) = rw split_after (best_option ws s a)
