-- "A plan's byte at a reached last post is the depot chosen": what another depot at one last state does to a policy. It is a policy again; its cost moves
-- by the weight of the paths that end there times the difference of the two closing costs; and the cheaper depot, or the lower one among equals, comes
-- first. So where a list has a plan, it has the same plan with each better depot above it: "a filed list is complete over depots too".
-- Assumes nothing.
use Rattle.std.specs.Prelude.{◌≡◌, refl, Bool, true, false, ◌⊎◌, ◌↔◌, T, eqb, negsuc, nat_abs, ◌+ℤ◌, ◌-ℤ◌, ◌*ℤ◌, ◌≤ℤ◌, ◌<ℤ◌, length, take, drop, set}
use Rattle.std.proofs.Common.{sym, ◌∙◌, subst, inl, zero-add, add-zero, mul-pos, eqb-true, eq-eqb, ne_eqb, length-set, get_or-set_same, get_or-set_other}
use Rattle.std.proofs.Math.Path.{ap, ap₂}
use Rattle.std.proofs.Math.Logic.{inr}
use mathlib.Core.List.{List, [], ◌∷◌, ◌++◌}
use Rattle.std.proofs.Math.Option.{some}
use Prim.Native.Nat.{ℕ, zero, suc, ◌+◌, ◌*◌, ◌≤◌, ◌<◌}
use native.Mathlib.Omega.{arith}
use Rattle.std.proofs.lemmas.Bool.{eqb-false}
use Rattle.std.proofs.Math.IntN.{ℤ, pos, +ℤ_idr, +ℤ_comm, +ℤ_invr, +ℤ-neg_ℤ_cancel, -ℤ-+ℤ_cancel}
use Rattle.std.specs.Int.Signed.{<ℤ_irrefl}
use Rattle.model.specs.Lists.{count}
use Rattle.model.specs.Model.{Words, Transition, Action, weights_of, scale, horizon, state_count, stage, togo, action, options}
use Rattle.model.specs.Questions.{book_number}
use Rattle.model.specs.Policy.{Policy, nexts, is_policy, policies, onward}
use Rattle.model.specs.Path.{byte_at, taken, paths, policy_cost}
use Rattle.model.specs.Recursion.{cost_to_go, best_of, least_of, feasible, least_at}
use Rattle.model.specs.Order.{comes_before, ranking}
use Rattle.laws.specs.Int.{up, dn, ints, lt_in, eq_in, sum_is, scale_is, abs_mul}
use Rattle.laws.specs.Members.{In, AtNexts}
use Rattle.laws.specs.Paths.{cost-paths}
use Rattle.laws.specs.Best.{best_in, best_le, best_low}
use Rattle.laws.specs.Policies.{reached_from, reached_late}
use Rattle.laws.specs.Raises.{raise, rise_at, weight_past, one_raised}
use Rattle.questions.specs.Stages.{stage_is, of_stage}
use Rattle.accepted.specs.Options.{Option, options_rising}
use Rattle.accepted.specs.Shape.{policy_is, shape, togo_start, weights_bound}
use Rattle.accepted.specs.Demands.{reached, policy-bytes, cost_recursion, in_list}
use Rattle.splits.specs.Reach.{weights_before, reached_on, known_weight, reach_moves_by}

-- ---- integers

cancel : (x : ℤ) (m n : ℕ) → x +ℤ pos m ≡ x +ℤ pos n → m ≡ n
cancel x m n e = omega (arith, ap up e, ap dn e, sum_is x (pos m), sum_is x (pos n))

-- a difference has the sign of its multiples
scale_below : (w : ℕ) (y : ℤ) → 0 < w → ((pos w *ℤ y) <ℤ pos 0) ↔ (y <ℤ pos 0)
scale_below w (pos n) h = (λ k. absurd (omega (ints, k, scale_is w (pos n))), λ k. absurd (omega (ints, k)))
scale_below w (negsuc n) h = (λ k. omega (ints, lt_in), λ k. omega (ints, lt_in, scale_is w (negsuc n), mul-pos {m = w} {n = suc n} h (omega arith)))

scale-zero : (w : ℕ) (y : ℤ) → 0 < w → pos w *ℤ y ≡ pos 0 → y ≡ pos 0
scale-zero w (pos zero) h e = refl
scale-zero w (pos (suc n)) h e = absurd (omega (arith, ap nat_abs e, abs_mul (pos w) (pos (suc n)), mul-pos {m = w} {n = suc n} h (omega arith)))
scale-zero w (negsuc n) h e = absurd (omega (arith, ap nat_abs e, abs_mul (pos w) (negsuc n), mul-pos {m = w} {n = suc n} h (omega arith)))

module _ (x a b : ℤ) (w : ℕ) (some : 0 < w) where
  abbrev y : ℤ
  y = a -ℤ b

  whole : y +ℤ b ≡ a
  whole = -ℤ-+ℤ_cancel a b

  pub moved_below : ((x +ℤ pos w *ℤ (a -ℤ b)) <ℤ x) ↔ (a <ℤ b)
  moved_below = (
    λ h. let k : y <ℤ pos 0 = (scale_below w y some).0 (omega (ints, lt_in, h, sum_is x (pos w *ℤ y))) in
        omega (ints, lt_in, k, ap up whole, ap dn whole, sum_is y b),
    λ h. let k : (pos w *ℤ y) <ℤ pos 0 = (scale_below w y some).1 (omega (ints, lt_in, h, ap up whole, ap dn whole, sum_is y b)) in
        omega (ints, lt_in, k, sum_is x (pos w *ℤ y)),
  )

  pub moved_same : (x +ℤ pos w *ℤ (a -ℤ b) ≡ x) ↔ (a ≡ b)
  moved_same = (
    λ h. let k : y ≡ pos 0 = scale-zero w y some (eq_in (omega (arith, ap up h, ap dn h, sum_is x (pos w *ℤ y)))) in
        eq_in (omega (arith, ap up k, ap dn k, ap up whole, ap dn whole, sum_is y b)),
    λ h. let k : y ≡ pos 0 = rw h (+ℤ_invr b) in rw k (eq_in (omega (arith, sum_is x (pos w *ℤ pos 0), scale_is w (pos 0)))),
  )

-- ---- bytes

-- where two actions have the same transitions, either byte reaches the same states
reach_same : (act : ℕ → ℕ → Action) (c i p : ℕ) (reach : List ℕ) (bs : Policy)
    → (act (p + i) c).transitions ≡ (act (p + i) (byte_at bs i)).transitions → reached_from act p reach (set bs i c) ≡ reached_from act p reach bs
reach_same act c i p reach [] e = refl
reach_same act c zero p reach (b ∷ bs) e = ap (λ (ts : List Transition). reached_from act (suc p) (nexts ts ++ reach) bs) (rw (add-zero p) at e)
reach_same act c (suc i) p reach (b ∷ bs) e =
    let q : p + suc i ≡ suc p + i = omega arith in
    reach_same act c i (suc p) (onward act p b reach) bs
    (subst (λ (n : ℕ). (act n c).transitions ≡ (act n (byte_at bs i)).transitions) q e)

-- ---- a last state

-- action c of state p is a better depot than the policy's own: "if its cost is lower, or equal with the lower choice"
abbrev pub Better : Words → Policy → ℕ → ℕ → Type 0
Better ws bs p c = ((action ws p c).cost <ℤ (taken ws bs p).cost) ⊎ (((action ws p c).cost ≡ (taken ws bs p).cost) × (c < byte_at bs p))

pub better_other : (ws : Words) (bs : Policy) (p c : ℕ) → Better ws bs p c → c ≡ byte_at bs p → ⊥
unfolding taken
better_other ws bs p c (inl h) e = <ℤ_irrefl (rw e at h)
better_other ws bs p c (inr h) e = omega (arith, h.1)

-- d is the first best depot of state p
pub record LeastDepot (ws : Words) (p d : ℕ) : Type 0 where
  pub opened : Option ws p d
  pub least : least_at ws p ≡ some (action ws p d).cost
  pub cheapest : (c : ℕ) → Option ws p c → (action ws p d).cost ≤ℤ (action ws p c).cost
  pub lowest : (c : ℕ) → Option ws p c → (action ws p c).cost ≤ℤ (action ws p d).cost → d ≤ c

module _ (ws : Words) (ok : book_number ws ≡ 0) (p : ℕ) (l : p < state_count ws) (last : stage ws p ≡ horizon ws) where
  last-togo : togo ws p ≡ 0
  unfolding togo
  last-togo = omega (arith, last)

  -- so are the states after it
  after-togo : (s : ℕ) → p < s → s < state_count ws → togo ws s ≡ 0
  unfolding togo state_count
  after-togo s a b =
      omega (
        arith,
        stage_is ws s (horizon ws) (record { within = omega arith; from = omega (arith, rw last at (of_stage ws p l).from); to = b }),
      )

  -- "each with r = 0"
  pub no_transitions : (c : ℕ) → (action ws p c).transitions ≡ []
  no_transitions c = go (action ws p c).transitions ((shape ws ok).step p c)
    where
      go : (ts : List Transition) → AtNexts (λ q. togo ws p ≡ suc (togo ws q)) ts → ts ≡ []
      go [] h = refl
      go (t ∷ ts) h = absurd (omega (arith, last-togo, h.0))

  -- equation (5) at stage H: the least cost of a post with an open depot is the least closing cost of its open depots, and that of the lowest such depot
  pub depot_least : (c : ℕ) → Option ws p c → (d : ℕ) × LeastDepot ws p d
  unfolding least_at feasible
  depot_least c o = (
    best_of closing (options ws p),
    record {
      opened = best_in closing (options ws p) c o;
      least = rw last-togo (go (options ws p) o);
      cheapest = λ e i. best_le closing (options ws p) i;
      lowest = λ e i h. best_low closing (options ws p) (options_rising ws p) i h;
    },
  )
    where
      closing : ℕ → ℤ
      closing e = (action ws p e).cost

      go : (xs : List ℕ) → In c xs → least_of closing xs ≡ some (closing (best_of closing xs))
      go [] i = absurd i
      go (x ∷ xs) i = refl

  module _ (bs : Policy) (t : T (is_policy ws bs)) where
    -- the sum, over all ways to p, of the product of the weights on the way
    abbrev ways : ℕ
    ways = weights_before (taken ws bs) p p

    -- other actions that differ at p alone move the cost-to-go of state 0 by as many times the difference of the costs there
    moves : (other : ℕ → Action) → ((q : ℕ) → (q ≡ p → ⊥) → other q ≡ taken ws bs q)
        → cost_to_go (scale ws) other (horizon ws) 0
        ≡ cost_to_go (scale ws) (taken ws bs) (horizon ws) 0 +ℤ pos ways *ℤ ((other p).cost -ℤ (taken ws bs p).cost)
    unfolding taken
    moves other same =
        rw (togo_start ws ok, last-togo) at
        (reach_moves_by (scale ws) (togo ws) (state_count ws) (taken ws bs) (λ q. (shape ws ok).step q (byte_at bs q))
        (λ q. (shape ws ok).later q (byte_at bs q)) (λ q. (shape ws ok).inside q (byte_at bs q)) other p l (λ q k. same q (λ e. omega arith)) rest)
      where
        rest : (s : ℕ) → p < s → s < state_count ws
            → (weights_before (taken ws bs) p s ≡ 0) ⊎ (cost_to_go (scale ws) other (togo ws s) s ≡ cost_to_go (scale ws) (taken ws bs) (togo ws s) s)
        rest s a b = inr (rw (after-togo s a b) (ap (λ (x : Action). x.cost) (same s (λ e. omega arith))))

    -- at the last stage that is the weight of the paths that end at p: both are what a second more there adds
    ways_is : ways ≡ weight_past p (paths ws bs)
    unfolding paths taken
    ways_is = cancel start ways (weight_past p (paths ws bs)) (sym by_ways ∙ by_paths)
      where
        start : ℤ
        start = cost_to_go (scale ws) (taken ws bs) (horizon ws) 0

        own : ℤ
        own = (taken ws bs p).cost

        more : ℕ → Action
        more q = raise (rise_at p 1 q) (taken ws bs q)

        same : (q : ℕ) → (q ≡ p → ⊥) → more q ≡ taken ws bs q
        same q n =
            rw (ne_eqb q p n)
            (ap (λ (z : ℤ). let a : Action = record { cost = z; transitions = (taken ws bs q).transitions } in a) (+ℤ_idr (taken ws bs q).cost))

        one : (more p).cost -ℤ own ≡ pos 1
        one = rw (eq-eqb p p refl) (ap (λ (z : ℤ). z -ℤ own) (+ℤ_comm own (pos 1)) ∙ +ℤ-neg_ℤ_cancel (pos 1) own)

        small : (q : ℕ) → weights_of (taken ws bs q).transitions ≤ scale ws
        small q = weights_bound ws ok q (byte_at bs q)

        by_ways : cost_to_go (scale ws) more (horizon ws) 0 ≡ start +ℤ pos ways
        by_ways =
            let e : ways * 1 ≡ ways = omega arith in
            moves more same ∙ ap (λ (z : ℤ). start +ℤ pos ways *ℤ z) one ∙ ap (λ (n : ℕ). start +ℤ pos n) e

        by_paths : cost_to_go (scale ws) more (horizon ws) 0 ≡ start +ℤ pos (weight_past p (paths ws bs))
        by_paths =
            let e : 1 * weight_past p (paths ws bs) ≡ weight_past p (paths ws bs) = omega arith in
            sym (cost-paths (scale ws) more small (horizon ws) 0)
            ∙ one_raised p 1 (scale ws) (taken ws bs) (λ q. (shape ws ok).later q (byte_at bs q)) (horizon ws) 0
            ∙ ap₂ (λ (z : ℤ) (n : ℕ). z +ℤ pos n) (cost-paths (scale ws) (taken ws bs) small (horizon ws) 0) e

    module _ (i : In p (reached ws bs)) where
      -- a policy that reaches p has a path that ends there
      pub some_end : 0 < weight_past p (paths ws bs)
      unfolding taken
      some_end =
          rw (← ways_is)
          ((known_weight (action ws) (options ws) (shape ws ok).positive (shape ws ok).bare (state_count ws) bs ((policy_is ws bs).0 t) p (omega arith) p
          (omega arith)).1 (known (reached_late (action ws) (shape ws ok).later (0 + p) before (drop p bs) p (rw (reached_on (action ws) p 0 (0 ∷ []) bs) i))))
        where
          before : List ℕ
          before = reached_from (action ws) 0 (0 ∷ []) (take p bs)

          known : In p before ⊎ (0 + p < p) → In p before
          known (inl j) = j
          known (inr k) = absurd (omega arith)

      -- ---- another depot

      module _ (c : ℕ) (o : Option ws p c) where
        long : length bs ≡ state_count ws
        long = ((policy-bytes ws ok bs).0 t).long

        pub byte_there : byte_at (set bs p c) p ≡ c
        byte_there = get_or-set_same bs p c 255 (omega (arith, long))

        pub byte_else : (q : ℕ) → (q ≡ p → ⊥) → byte_at (set bs p c) q ≡ byte_at bs q
        byte_else q n = get_or-set_other bs p q c 255 n

        -- the same states are reached
        pub same-reached : reached ws (set bs p c) ≡ reached ws bs
        same-reached =
            reach_same (action ws) c p 0 (0 ∷ []) bs
            (rw (zero-add p) (no_transitions c ∙ sym (no_transitions (byte_at bs p))))

        -- "The definition of plan, the order and the record follow without a second rule": with any open action of p for its own it is a policy
        pub other_depot : T (is_policy ws (set bs p c))
        other_depot =
            (policy-bytes ws ok (set bs p c)).1
            (record { long = length-set bs p c ∙ long; at_reached = at_reached; at_other = at_other })
          where
            at_reached : (q : ℕ) → q < state_count ws → In q (reached ws (set bs p c)) → Option ws q (byte_at (set bs p c) q)
            at_reached q h j = go (eqb q p) refl
              where
                go : (b : Bool) → eqb q p ≡ b → Option ws q (byte_at (set bs p c) q)
                go true e = rw (eqb-true q p e, byte_there) o
                go false e = rw (byte_else q (eqb-false q p e)) (((policy-bytes ws ok bs).0 t).at_reached q h (rw same-reached at j))

            at_other : (q : ℕ) → q < state_count ws → (In q (reached ws (set bs p c)) → ⊥) → byte_at (set bs p c) q ≡ 255
            at_other q h n =
                let m : In q (reached ws bs) → ⊥ = rw same-reached at n in
                byte_else q (λ e. m (rw e i)) ∙ ((policy-bytes ws ok bs).0 t).at_other q h m

        -- "its own closing cost": the cost moves by the weight of the paths that end at p times the difference
        pub depot_cost : policy_cost ws (set bs p c)
            ≡ policy_cost ws bs +ℤ pos (weight_past p (paths ws bs)) *ℤ ((action ws p c).cost -ℤ (taken ws bs p).cost)
        unfolding taken
        depot_cost =
            cost_recursion ws ok (set bs p c) other_depot
            ∙ moves (taken ws (set bs p c)) (λ q n. ap (action ws q) (byte_else q n))
            ∙ ap₂ (λ (z : ℤ) (n : ℕ). z +ℤ pos n *ℤ ((taken ws (set bs p c) p).cost -ℤ (taken ws bs p).cost)) (sym (cost_recursion ws ok bs t)) ways_is
            ∙ ap (λ (b : ℕ). policy_cost ws bs +ℤ pos (weight_past p (paths ws bs)) *ℤ ((action ws p b).cost -ℤ (taken ws bs p).cost)) byte_there

        module _ (K : ℕ) where
          -- "so a filed list is complete over depots too": the plan with the other depot is listed exactly when fewer than K plans come before it
          pub depot_listed : In (set bs p c) (ranking ws K) ↔ (count (λ q. comes_before ws q (set bs p c)) (policies ws) < K)
          depot_listed = (λ j. ((in_list ws ok K (set bs p c)).0 j).1, λ h. (in_list ws ok K (set bs p c)).1 (other_depot, h))
