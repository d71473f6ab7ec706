-- Two policies of an accepted book at the first state where their bytes differ, which `first_difference` computes, and why a policy is not listed.
-- Assumes nothing.
use Rattle.std.specs.Prelude.{◌≡◌, ◌⊎◌, ◌↔◌, [], ◌∷◌, ℕ, ◌<◌, T, ◌<ℤ◌}
use Rattle.std.proofs.Common.{subst, arith}
use Rattle.model.specs.Model.{Words, state_count, action}
use Rattle.model.specs.Questions.{book_number}
use Rattle.model.specs.Policy.{Policy, is_policy}
use Rattle.model.specs.Path.{byte_at, policy_cost}
use Rattle.model.specs.Order.{first_difference, comes_before, ranking}
use Rattle.laws.specs.Members.{In}
use Rattle.laws.specs.Policies.{FirstDifference}
use Rattle.laws.proofs.Difference.{first_agree, first_state_lem}
use Rattle.accepted.specs.Demands.{reached, policy-bytes, first_difference_lem, both_reach, comes_before_is, in_list, rest-after}

-- the first costs less, or as much with the lower action at the first state where they differ
abbrev pub Sooner : Words → Policy → Policy → Type 0
Sooner ws bs cs =
    (policy_cost ws bs <ℤ policy_cost ws cs)
    ⊎ ((policy_cost ws bs ≡ policy_cost ws cs) × (byte_at bs (first_difference bs cs) < byte_at cs (first_difference bs cs)))

module _ (ws : Words) (ok : book_number ws ≡ 0) where
  module _ (bs cs : Policy) (t : T (is_policy ws bs)) (u : T (is_policy ws cs)) (n : bs ≡ cs → ⊥) where
    first : FirstDifference (action ws) (state_count ws) 0 (0 ∷ []) bs cs
    first = first_difference_lem ws ok bs cs t u n

    first-is : first_difference bs cs ≡ first.index
    first-is =
        first_state_lem (action ws) (state_count ws) 0 (0 ∷ []) bs cs ((policy-bytes ws ok bs).0 t).long ((policy-bytes ws ok cs).0 u).long first

    -- "the lowest-numbered post where they differ": a state of the book, where they differ, and before which they agree
    pub difference_inside : first_difference bs cs < state_count ws
    difference_inside = omega (arith, first-is, first.inside)

    pub difference_agree : (q : ℕ) → q < first_difference bs cs → byte_at bs q ≡ byte_at cs q
    difference_agree = first_agree 255 bs cs

    pub difference_there : byte_at bs (first_difference bs cs) ≡ byte_at cs (first_difference bs cs) → ⊥
    difference_there = rw first-is first.disagree

    -- "(Both reach that post, since earlier stages agree.)"
    pub difference_reached : In (first_difference bs cs) (reached ws bs) × In (first_difference bs cs) (reached ws cs)
    difference_reached = rw first-is (both_reach ws ok bs cs first)

    -- "Plan P comes before Q if its cost is lower, or equal with the lower choice at the lowest-numbered post where they differ."
    pub difference_decides : T (comes_before ws bs cs) ↔ Sooner ws bs cs
    difference_decides = rw first-is (comes_before_is ws ok bs cs t u first)

  -- a policy that is not listed costs more than each that is, or as much with the higher action at the first state where they differ. Request 2.8 asks
  -- for this of the last listed
  pub not_listed : (K : ℕ) (bs cs : Policy) → In bs (ranking ws K) → T (is_policy ws cs) → (In cs (ranking ws K) → ⊥) → Sooner ws bs cs
  not_listed K bs cs i u n =
      (difference_decides bs cs ((in_list ws ok K bs).0 i).0 u (λ e. n (subst (λ (p : Policy). In p (ranking ws K)) e i))).0
      (rest-after ws ok K bs cs i u n)
