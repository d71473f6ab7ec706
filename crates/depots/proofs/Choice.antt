-- The order of two policies that differ in the depot of one last state, and what follows for a list.
-- Assumes nothing.
use Rattle.std.specs.Prelude.{◌≡◌, ◌⊎◌, ◌↔◌, T, ◌+ℤ◌, ◌-ℤ◌, ◌*ℤ◌, ◌<ℤ◌, set}
use Rattle.std.proofs.Common.{sym, ◌∙◌, inl, zero-add}
use Rattle.std.proofs.Math.Logic.{inr}
use mathlib.Core.List.{[], ◌∷◌}
use Rattle.std.proofs.Math.Option.{some}
use Prim.Native.Nat.{ℕ, ◌<◌}
use native.Mathlib.Omega.{arith}
use Rattle.std.proofs.Math.IntN.{pos}
use Rattle.std.proofs.Math.ListN.{get_elem?}
use Rattle.model.specs.Model.{Words, horizon, state_count, stage, action}
use Rattle.model.specs.Questions.{book_number}
use Rattle.model.specs.Policy.{Policy, is_policy}
use Rattle.model.specs.Path.{byte_at, taken, paths, policy_cost}
use Rattle.model.specs.Order.{comes_before, ranking}
use Rattle.laws.specs.Members.{In}
use Rattle.laws.specs.Policies.{FirstDifference}
use Rattle.laws.specs.Raises.{weight_past}
use Rattle.accepted.specs.Options.{Option}
use Rattle.accepted.specs.Demands.{reached, comes_before_is, above_all}
use Rattle.depots.specs.Choice as choice
use Rattle.depots.specs.Choice.{moved_below, moved_same, Better, better_other}

module _ (ws : Words) (ok : book_number ws ≡ 0) (p : ℕ) (l : p < state_count ws) (last : stage ws p ≡ horizon ws) where
  module _ (bs : Policy) (t : T (is_policy ws bs)) where
    module _ (i : In p (reached ws bs)) where
      module _ (c : ℕ) (o : Option ws p c) where
        some_end : 0 < weight_past p (paths ws bs)
        some_end = choice.some_end ws ok p l last bs t i

        byte_there : byte_at (set bs p c) p ≡ c
        byte_there = choice.byte_there ws ok p l last bs t i c o

        byte_else : (q : ℕ) → (q ≡ p → ⊥) → byte_at (set bs p c) q ≡ byte_at bs q
        byte_else = choice.byte_else ws ok p l last bs t i c o

        same-reached : reached ws (set bs p c) ≡ reached ws bs
        same-reached = choice.same-reached ws ok p l last bs t i c o

        other_depot : T (is_policy ws (set bs p c))
        other_depot = choice.other_depot ws ok p l last bs t i c o

        depot_cost : policy_cost ws (set bs p c)
            ≡ policy_cost ws bs +ℤ pos (weight_past p (paths ws bs)) *ℤ ((action ws p c).cost -ℤ (taken ws bs p).cost)
        depot_cost = choice.depot_cost ws ok p l last bs t i c o

        -- the cheaper depot comes first, and of two that cost the same the lower number
        pub depot_before : (c ≡ byte_at bs p → ⊥) → T (comes_before ws (set bs p c) bs) ↔ Better ws bs p c
        depot_before n = (λ b. to (is.0 b), λ s. is.1 (from s))
          where
            first : FirstDifference (action ws) (state_count ws) 0 (0 ∷ []) (set bs p c) bs
            first = record {
              index = p;
              inside = l;
              agree = λ j k. byte_else j (λ e. omega arith);
              disagree = λ e. n (sym byte_there ∙ e);
              reached_by_one = rw (zero-add p, same-reached) i;
              reached_by_other = rw (zero-add p) i;
            }

            Costs : Type 0
            Costs =
                (policy_cost ws (set bs p c) <ℤ policy_cost ws bs)
                ⊎ ((policy_cost ws (set bs p c) ≡ policy_cost ws bs) × (byte_at (set bs p c) p < byte_at bs p))

            is : T (comes_before ws (set bs p c) bs) ↔ Costs
            is = comes_before_is ws ok (set bs p c) bs other_depot t first

            below : (policy_cost ws (set bs p c) <ℤ policy_cost ws bs) ↔ ((action ws p c).cost <ℤ (taken ws bs p).cost)
            below = rw depot_cost (moved_below (policy_cost ws bs) (action ws p c).cost (taken ws bs p).cost (weight_past p (paths ws bs)) some_end)

            equal : (policy_cost ws (set bs p c) ≡ policy_cost ws bs) ↔ ((action ws p c).cost ≡ (taken ws bs p).cost)
            equal = rw depot_cost (moved_same (policy_cost ws bs) (action ws p c).cost (taken ws bs p).cost (weight_past p (paths ws bs)) some_end)

            to : Costs → Better ws bs p c
            to (inl h) = inl (below.0 h)
            to (inr h) = inr (equal.0 h.0, rw byte_there at h.1)

            from : Better ws bs p c → Costs
            from (inl h) = inl (below.1 h)
            from (inr h) = inr (equal.1 h.0, rw byte_there h.1)

        module _ (K : ℕ) where
          -- where a list has a plan, the same plan with a better depot stands above it
          pub better_above : (j : ℕ) → get_elem? (ranking ws K) j ≡ some bs → Better ws bs p c
              → (k : ℕ) × (k < j) × (get_elem? (ranking ws K) k ≡ some (set bs p c))
          better_above j e h = above_all ws ok K j bs (set bs p c) e other_depot ((depot_before (better_other ws bs p c h)).1 h)
