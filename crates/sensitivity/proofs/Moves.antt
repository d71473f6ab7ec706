-- "Show that for the same K the two lists have equal length, and that the cost at each rank doesn't fall and rises by at most d × D^H. Plans may
-- change ranks."
-- Assumes nothing.
-- ---- two books with the same policies, each of which costs by the second as much as by the first, or at most e more
use Rattle.std.specs.Prelude.{◌≡◌, Bool, ◌&&◌, [], ◌∷◌, T, ℤ, ◌+ℤ◌, ◌≤ℤ◌, length}
use Rattle.std.proofs.Math.Path.{refl, sym, ap, ap₂, fun_ext}
use Rattle.std.proofs.Common.{◌∙◌, mul-le-mul_left, eqb-true, eq-eqb, ne_eqb}
use Rattle.std.proofs.Math.Bool.{true, false, cond}
use Prim.Native.Nat.{ℕ, ◌*◌, ◌^◌, ◌≤◌, ◌<◌}
use native.Mathlib.Omega.{arith}
use Rattle.std.proofs.Math.Dec.{eqb}
use Rattle.std.proofs.Math.IntN.{pos, +ℤ_idr}
use Rattle.std.specs.Int.Signed.{≤ℤ_refl}
use Rattle.std.proofs.Math.ListN.{length-map}
use Rattle.model.specs.Model.{Words, Action, scale, horizon, state_count, action_count, action, closed, options}
use Rattle.model.specs.Questions.{book_number}
use Rattle.model.specs.Policy.{Policy, is_policy, policies}
use Rattle.model.specs.Path.{total_cost, paths_from, byte_at, taken, paths, policy_cost}
use Rattle.model.specs.Order.{comes_before, ranking, ranking_costs}
use Rattle.laws.specs.Int.{ints, le_in, sum_is, +-mono}
use Rattle.laws.specs.Members.{In}
use Rattle.laws.specs.Ranks.{Moved, ranks_near}
use Rattle.laws.specs.Order.{by_cost}
use Rattle.laws.specs.Policies.{policies-same}
use Rattle.laws.specs.Raises.{raise, weight_past, past_most, past_start, rise_at, one_raised}
use Rattle.accepted.specs.Shape.{shape}
use Rattle.accepted.specs.Demands.{policies_are, weights_add_lem}
use Rattle.sensitivity.specs.Raise.{raised, most_rise, weight_through}
use Rattle.sensitivity.proofs.Options.{options-same}
use Rattle.sensitivity.proofs.Same.{scale_same, horizon-same, states-same, action-raised}

module _ (ws us : Words) (e : ℕ) (same : policies us ≡ policies ws)
    (near : (bs : Policy) → In bs (policies ws) → (policy_cost ws bs ≤ℤ policy_cost us bs) × (policy_cost us bs ≤ℤ (policy_cost ws bs +ℤ pos e))) where
  -- for any K the two lists have equal length, and the cost at each rank does not fall and rises by at most e
  pub lists_near : (K : ℕ) → Moved e (ranking_costs ws K) (ranking_costs us K)
  unfolding ranking_costs ranking comes_before
  lists_near K = rw same (ranks_near (by_cost (policy_cost ws)) (by_cost (policy_cost us)) e (policies ws) near K)

-- ---- a book and the same with one cost raised

module _ (ws : Words) (ok : book_number ws ≡ 0) (p c d : ℕ) (state : p < state_count ws) (own : c < action_count ws p) where
  abbrev us : Words
  us = raised ws p c d

  -- how much more a policy's action at state p costs
  abbrev more : Policy → ℕ
  more bs = cond (eqb (byte_at bs p) c) d 0

  taken-raised : (bs : Policy) (q : ℕ) → taken us bs q ≡ raise (rise_at p (more bs) q) (taken ws bs q)
  unfolding taken
  taken-raised bs q =
      action-raised ws p c d ok state own q (byte_at bs q) ∙ ap (λ (n : ℕ). raise n (action ws q (byte_at bs q))) (go (eqb q p) refl)
    where
      go : (t : Bool) → eqb q p ≡ t → cond (t && eqb (byte_at bs q) c) d 0 ≡ cond t (more bs) 0
      go true h = ap (λ (r : ℕ). cond (eqb (byte_at bs r) c) d 0) (eqb-true q p h)
      go false h = refl

  rise_is : (bs : Policy) → more bs * weight_past p (paths ws bs) ≡ d * weight_through ws bs p c
  unfolding weight_through
  rise_is bs = go (eqb (byte_at bs p) c)
    where
      go : (t : Bool) → cond t d 0 * weight_past p (paths ws bs) ≡ d * cond t (weight_past p (paths ws bs)) 0
      go true = refl
      go false = omega arith

  -- a policy's cost rises by d × the weight of its paths on which it takes the action
  pub cost_rises : (bs : Policy) → policy_cost (raised ws p c d) bs ≡ policy_cost ws bs +ℤ pos (d * weight_through ws bs p c)
  unfolding policy_cost paths taken
  cost_rises bs =
      ap₂ (λ (D h : ℕ). total_cost (paths_from D (taken us bs) h 0)) (scale_same ws p c d) (horizon-same ws p c d)
      ∙ ap (λ (f : ℕ → Action). total_cost (paths_from (scale ws) f (horizon ws) 0)) (fun_ext (taken-raised bs))
      ∙ one_raised p (more bs) (scale ws) (taken ws bs) (λ q. (shape ws ok).later q (byte_at bs q)) (horizon ws) 0
      ∙ ap (λ (n : ℕ). policy_cost ws bs +ℤ pos n) (rise_is bs)

  -- so the cost of one that does not take it stays
  pub cost_stays : (bs : Policy) → (byte_at bs p ≡ c → ⊥) → policy_cost (raised ws p c d) bs ≡ policy_cost ws bs
  unfolding weight_through
  cost_stays bs n =
      let e : d * 0 ≡ 0 = omega arith in
      cost_rises bs ∙ rw (ne_eqb (byte_at bs p) c n, e) (+ℤ_idr (policy_cost ws bs))

  -- the weights of those paths add to at most D^H
  pub through-most : (bs : Policy) → T (is_policy ws bs) → weight_through ws bs p c ≤ scale ws ^ horizon ws
  unfolding weight_through
  through-most bs t = go (eqb (byte_at bs p) c)
    where
      go : (b : Bool) → cond b (weight_past p (paths ws bs)) 0 ≤ scale ws ^ horizon ws
      go true = omega (arith, past_most p (paths ws bs), weights_add_lem ws ok bs t)
      go false = omega arith

  -- so no policy's cost falls, and none rises by more than d × D^H
  pub cost_near : (bs : Policy) → T (is_policy ws bs)
      → (policy_cost ws bs ≤ℤ policy_cost (raised ws p c d) bs) × (policy_cost (raised ws p c d) bs ≤ℤ (policy_cost ws bs +ℤ pos (most_rise ws d)))
  cost_near bs t = rw (cost_rises bs) (low (policy_cost ws bs) (d * weight_through ws bs p c), high)
    where
      low : (z : ℤ) (n : ℕ) → z ≤ℤ (z +ℤ pos n)
      low z n = omega (ints, le_in, sum_is z (pos n))

      high : (policy_cost ws bs +ℤ pos (d * weight_through ws bs p c)) ≤ℤ (policy_cost ws bs +ℤ pos (most_rise ws d))
      high =
          let l : d * weight_through ws bs p c ≤ most_rise ws d = mul-le-mul_left d (through-most bs t) in
          +-mono (policy_cost ws bs) (policy_cost ws bs) (pos (d * weight_through ws bs p c)) (pos (most_rise ws d)) (≤ℤ_refl (policy_cost ws bs))
          (omega (ints, le_in))

  -- "the result of 2.2 covers raises where neither old nor new cost is the mark"
  module _ (old : closed (action ws p c).cost ≡ false) (new : closed (action (raised ws p c d) p c).cost ≡ false) where
    -- the two have the same policies
    pub same-policies : policies (raised ws p c d) ≡ policies ws
    unfolding policies
    same-policies =
        rw (states-same ws p c d)
        (policies-same (action ws) (action us) (λ q b. ap (λ (a : Action). a.transitions) (action-raised ws p c d ok state own q b))
        (options ws) (options us) (state_count ws) 0 (0 ∷ []) (λ q l. options-same ws p c d ok state own old new q (omega arith)))

    module _ (K : ℕ) where
      -- "the cost at each rank doesn't fall and rises by at most d × D^H"
      pub costs_move : Moved (most_rise ws d) (ranking_costs ws K) (ranking_costs (raised ws p c d) K)
      costs_move = lists_near ws us (most_rise ws d) same-policies (λ bs i. cost_near bs ((policies_are ws ok bs).0 i)) K

      -- "the two lists have equal length"
      pub lengths-same : length (ranking (raised ws p c d) K) ≡ length (ranking ws K)
      unfolding ranking_costs
      lengths-same = sym (length-map (ranking us K) (policy_cost us)) ∙ costs_move.long ∙ length-map (ranking ws K) (policy_cost ws)

-- ---- no lower bound would do

-- every path begins at state 0: the cost of a policy that takes the raised action there rises by d × D^H
pub bound_met : (ws : Words) → book_number ws ≡ 0 → (c d : ℕ) → c < action_count ws 0 → (bs : Policy) → T (is_policy ws bs) → byte_at bs 0 ≡ c
    → policy_cost (raised ws 0 c d) bs ≡ policy_cost ws bs +ℤ pos (most_rise ws d)
unfolding weight_through paths
bound_met ws ok c d own bs t e =
    cost_rises ws ok 0 c d (shape ws ok).some_state own bs
    ∙ ap (λ (n : ℕ). policy_cost ws bs +ℤ pos (d * n))
    (rw (eq-eqb (byte_at bs 0) c e) (past_start (scale ws) (taken ws bs) (horizon ws) 0 ∙ weights_add_lem ws ok bs t))
