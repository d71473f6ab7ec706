-- What document 01, with the requests of document 02, promises of an accepted book, in its reader's words: its plans, their cost, their order and the
-- list. Each law quotes the sentence that it renders.
-- Assumes nothing.
use Rattle.std.specs.Prelude.{◌≡◌, Bool, true, ◌⊎◌, ◌↔◌, pos, nat_abs, ◌*ℤ◌, ◌≤ℤ◌, ◌<ℤ◌, take}
use Rattle.std.proofs.Math.Path.{refl, ap}
use Rattle.std.proofs.Common.{sym, ◌∙◌, subst, inl, inr, zero-add, le_trans, mul-le-mul, mul-le-mul_right, T_not, ext_get_or}
use Rattle.std.proofs.Math.Bool.{false}
use mathlib.Core.List.{List, [], ◌∷◌}
use Rattle.std.proofs.Math.Option.{none, some}
use Prim.Native.Nat.{ℕ, suc, ◌+◌, ◌*◌, ◌-◌, ◌^◌, ◌≤◌, ◌<◌, min}
use Rattle.std.proofs.Math.Nat.{pow-le-pow_right}
use Rattle.std.proofs.Math.Decide.{dec_lt}
use native.Mathlib.Omega.{arith}
use Rattle.std.proofs.lemmas.Bool.{not-true}
use Rattle.std.proofs.Math.Dec.{T}
use Rattle.std.proofs.Math.IntN.{ℤ, +ℤ_idr}
use Rattle.std.specs.Int.Signed.{lt_z, lt_z_yes, lt_z_no, ≤ℤ_refl}
use Rattle.std.proofs.Math.ListN.{length, get_elem?, length-take, get_or-eq_default}
use Rattle.model.specs.Lists.{count, is_in, is_empty, sorted}
use Rattle.model.specs.Model.{Words, weights_of, scale, horizon, state_count, togo, action, closed, options}
use Rattle.model.specs.Questions.{first_no, largest_cost, book_number}
use Rattle.model.specs.Record.{plan_questions}
use Rattle.model.specs.Policy.{Policy, nexts, allowed, is_policy, policies, has_policy}
use Rattle.model.specs.Path.{Path, path_weight, total_weight, byte_at, taken, paths, policy_cost}
use Rattle.model.specs.Recursion.{cost_to_go, best_of, least_of, through, least_to_go, feasible, least_at}
use Rattle.model.specs.Order.{lower, comes_before, ranking, ranking_costs}
use Rattle.model.specs.Calls.{value_number, least_number, least_cost}
use Rattle.laws.specs.Int.{≤ℤ-antisym}
use Rattle.laws.specs.Members.{T_true, true-T, false-T, same_test, In, in_one, every_imp, is_in_in, in_is_in, Apart, AtNexts, at_nexts}
use Rattle.laws.specs.Kept.{none_in}
use Rattle.laws.specs.Sorting.{Strict, Total, Rises, apart_take, at_in, apart_sorted, sorted-length, listed as list-entries}
use Rattle.laws.specs.Paths.{ends_at, weight_paths, cost-paths, positive_paths, path_ends}
use Rattle.laws.specs.Bounds.{to_go_bound, through_bound, least_bound}
use Rattle.laws.specs.Policies.{IsPolicy, policy-length, policy_in, in_policy, reached_from, reached_mono, reads, reached-closed}
use Rattle.laws.specs.Policies.{FirstDifference, differ}
use Rattle.laws.specs.Order.{Low, Before, lower_is, before_is, before-cost, strict, total}
use Rattle.laws.specs.Ascent.{policies_rise, policies_apart}
use Rattle.laws.specs.First.{cost_from0, first_policy, is_policy_lem, first-cost, cheapest, comes_first}
use Rattle.accepted.specs.Facts.{accepted}
use Rattle.accepted.specs.Options.{Option, Feasible, Alive, options_rising, option_open, option_small}
use Rattle.accepted.specs.Shape.{policy_is, has-policy, shape, nexts_alive, lists, policy-feasible, has_alive, togo_start, weights_bound, cost_bound, cost-feasible}
use Rattle.questions.specs.FirstNo.{passes, fails, none as none_left, then_yes}
use Rattle.laws.specs.Entries.{in_at, some_at, map_at, take_one, count_most, count_none, by_rank}
use Rattle.laws.specs.Walks.{policy-allowed, allowed-policy, reached_from_lem}
use Rattle.laws.proofs.Difference.{low_at}

not_in : (x : ℕ) (ys : List ℕ) → (In x ys → ⊥) → is_in x ys ≡ false
not_in x ys h = same_test (is_in x ys) false (λ t. h (is_in_in x ys t)) (λ t. absurd t)

-- the states that a policy reaches
abbrev pub reached : Words → Policy → List ℕ
reached ws bs = reached_from (action ws) 0 (0 ∷ []) bs

-- the policy that takes the lowest best action at each state that it reaches
abbrev pub best_policy : Words → Policy
best_policy ws = first_policy (scale ws) (state_count ws) (action ws) (togo ws) (feasible ws)

-- "A plan has S bytes: for a reached post its choice (one of that post's, counted from 0), for any other 255."
pub record PolicyBytes (ws : Words) (bs : Policy) : Type 0 where
  pub long : length bs ≡ state_count ws
  pub at_reached : (q : ℕ) → q < state_count ws → In q (reached ws bs) → Option ws q (byte_at bs q)
  pub at_other : (q : ℕ) → q < state_count ws → (In q (reached ws bs) → ⊥) → byte_at bs q ≡ 255

-- "a book without a plan": no bytes are one
abbrev pub NoPolicy : Words → Type 0
NoPolicy ws = (bs : Policy) → T (is_policy ws bs) → ⊥

module _ (ws : Words) (ok : book_number ws ≡ 0) where
  -- ---- policies

  -- "is the slice a plan of this book?": the policies of the model are those that the test passes
  pub policies_are : (bs : Policy) → In bs (policies ws) ↔ T (is_policy ws bs)
  unfolding policies
  policies_are bs = (
    λ i. (policy_is ws bs).1 (in_policy (action ws) (options ws) (state_count ws) 0 (0 ∷ []) bs i),
    λ t. policy_in (action ws) (options ws) (state_count ws) 0 (0 ∷ []) bs ((policy_is ws bs).0 t),
  )

  -- they stand in the order of their bytes
  pub policies_ascend : Rises lower (policies ws)
  unfolding policies
  policies_ascend = policies_rise (action ws) (options ws) (options_rising ws) (state_count ws) 0 (0 ∷ [])

  -- none is there twice
  pub policies_once : Apart (policies ws)
  unfolding policies
  policies_once = policies_apart (action ws) (options ws) (options_rising ws) (state_count ws) 0 (0 ∷ [])

  -- 28: "exactly if the book has no plan"
  pub some_policy : (has_policy ws ≡ true) ↔ ((bs : Policy) × T (is_policy ws bs))
  some_policy = (
    λ e. let b = (has-policy ws).0 e in (b.0, (policy_is ws b.0).1 b.1),
    λ b. (has-policy ws).1 (b.0, (policy_is ws b.0).0 b.1),
  )

  pub no_policy : (has_policy ws ≡ false) ↔ NoPolicy ws
  no_policy = (
    λ e bs t. subst T e (true-T (some_policy.1 (bs, t))),
    λ n. same_test (has_policy ws) false (λ t. let b = some_policy.0 (T_true (has_policy ws) t) in n b.0 b.1) (λ t. absurd t),
  )

  -- a book that has a plan passes it
  pub passes_28 : has_policy ws ≡ true → first_no plan_questions ws ≡ 0
  passes_28 has = passes ws _ [] has ∙ none_left ws

  -- "Refused: 28, no plan": the question gives its number exactly then
  pub refused_28 : (first_no plan_questions ws ≡ 28) ↔ NoPolicy ws
  refused_28 = (λ e. no_policy.0 (go (has_policy ws) refl e), λ n. fails ws _ _ (no_policy.1 n))
    where
      go : (b : Bool) → has_policy ws ≡ b → first_no plan_questions ws ≡ 28 → has_policy ws ≡ false
      go true h e = absurd (omega (arith, passes_28 h, e))
      go false h e = h

  -- "for the least cost of the book, after 13"
  pub least_28 : (least_number ws ≡ 28) ↔ NoPolicy ws
  unfolding least_number
  least_28 = rw ok refused_28

  -- valuing asks no 28: where no bytes are a plan, any get 17
  pub value_17 : NoPolicy ws → (bs : Policy) → value_number ws bs ≡ 17
  unfolding value_number
  value_17 n bs = then_yes (book_number ws) _ ok ∙ fails bs _ _ (same_test (is_policy ws bs) false (n bs) (λ t. absurd t))

  -- the policy of lowest best actions is one of them, if there is one
  pub best-policy : has_policy ws ≡ true → T (is_policy ws (best_policy ws))
  best-policy has =
      (policy-feasible ws ok (best_policy ws)).1
      (is_policy_lem (scale ws) (state_count ws) (action ws) (togo ws) (shape ws ok) (Alive ws) (feasible ws) (lists ws ok (has_alive ws ok has)))

  -- "is k from 1 to K": there is at least one
  pub policies_some : has_policy ws ≡ true → 0 < length (policies ws)
  unfolding has_policy
  policies_some has = some (policies ws) (not-true (is_empty (policies ws)) has)
    where
      some : (xs : List Policy) → is_empty xs ≡ false → 0 < length xs
      some [] e = absurd (subst T e tt)
      some (x ∷ xs) e = omega arith

  -- ---- the states reached

  -- "Post 0 is reached."
  pub start_reached : (bs : Policy) → In 0 (reached ws bs)
  start_reached bs = reached_mono (action ws) 0 (0 ∷ []) bs 0 (inl refl)

  module _ (bs : Policy) (t : T (is_policy ws bs)) where
    abbrev walk : IsPolicy (action ws) (options ws) (state_count ws) 0 (0 ∷ []) bs
    walk = (policy_is ws bs).0 t

    -- no other state is reached than these two sentences say: each is state 0, or a next state of a lower reached state
    pub reached_why : (q : ℕ) → In q (reached ws bs)
        → (q ≡ 0) ⊎ ((p : ℕ) × In p (reached ws bs) × (p < q) × In q (nexts (taken ws bs p).transitions))
    unfolding taken
    reached_why q i =
        go (reached_from_lem (action ws) (options ws) (shape ws ok).later (byte_at bs) (shape ws ok).bare (state_count ws) 0 (0 ∷ []) bs walk
        (reads bs) q i)
      where
        Why : Type 0
        Why = (p : ℕ) × In p (reached ws bs) × (p < q) × In q (nexts (action ws p (byte_at bs p)).transitions)

        go : In q (0 ∷ []) ⊎ Why → (q ≡ 0) ⊎ Why
        go (inl j) = inl (in_one j)
        go (inr s) = inr s

    -- every reached state is a state of the model
    pub reached-inside : (q : ℕ) → In q (reached ws bs) → q < state_count ws
    unfolding taken
    reached-inside q i = go (reached_why q i)
      where
        go : (q ≡ 0) ⊎ ((p : ℕ) × In p (reached ws bs) × (p < q) × In q (nexts (action ws p (byte_at bs p)).transitions)) → q < state_count ws
        go (inl e) = omega (arith, (shape ws ok).some_state)
        go (inr s) =
            at_nexts (λ r. r < state_count ws) (action ws s.0 (byte_at bs s.0)).transitions
            ((shape ws ok).inside s.0 (byte_at bs s.0)) q s.3

    -- "If a post is reached, so are all next posts of its chosen choice."
    pub nexts-reached : (q r : ℕ) → In q (reached ws bs) → In r (nexts (taken ws bs q).transitions) → In r (reached ws bs)
    unfolding taken
    nexts-reached q r i j =
        at_nexts (λ s. In s (reached ws bs)) (action ws q (byte_at bs q)).transitions
        (reached-closed (action ws) (options ws) (shape ws ok).later (byte_at bs) (state_count ws) 0 (0 ∷ []) bs walk (reads bs) q i
        (omega arith) (omega (arith, reached-inside q i))).1 r j

  -- "A plan has S bytes: for a reached post its choice (one of that post's, counted from 0), for any other 255."
  pub policy-bytes : (bs : Policy) → T (is_policy ws bs) ↔ PolicyBytes ws bs
  policy-bytes bs = (λ t. record { long = long t; at_reached = at_reached t; at_other = at_other t }, from)
    where
      AllowedAt : ℕ → Type 0
      AllowedAt q = In (byte_at bs q) (allowed (options ws q) (is_in q (reached ws bs)))

      allowed_at : T (is_policy ws bs) → (q : ℕ) → q < state_count ws → AllowedAt q
      allowed_at t q l =
          policy-allowed (action ws) (options ws) (shape ws ok).later (byte_at bs) (state_count ws) 0 (0 ∷ []) bs ((policy_is ws bs).0 t) (reads bs) q
          (omega arith) (omega arith)

      long : T (is_policy ws bs) → length bs ≡ state_count ws
      long t = policy-length (action ws) (options ws) (state_count ws) 0 (0 ∷ []) bs ((policy_is ws bs).0 t)

      at_reached : T (is_policy ws bs) → (q : ℕ) → q < state_count ws → In q (reached ws bs) → Option ws q (byte_at bs q)
      at_reached t q l i = rw (T_true (is_in q (reached ws bs)) (in_is_in q (reached ws bs) i)) at (allowed_at t q l)

      at_other : T (is_policy ws bs) → (q : ℕ) → q < state_count ws → (In q (reached ws bs) → ⊥) → byte_at bs q ≡ 255
      at_other t q l n = in_one (rw (not_in q (reached ws bs) n) at (allowed_at t q l))

      from : PolicyBytes ws bs → T (is_policy ws bs)
      from b =
          (policy_is ws bs).1
          (allowed-policy (action ws) (options ws) (shape ws ok).later (byte_at bs) (state_count ws) 0 (0 ∷ []) bs b.long (reads bs)
          (λ q a l. go q (omega arith) (is_in q (reached ws bs)) refl))
        where
          go : (q : ℕ) → q < state_count ws → (c : Bool) → is_in q (reached ws bs) ≡ c → AllowedAt q
          go q l true e = rw e (b.at_reached q l (is_in_in q (reached ws bs) (true-T e)))
          go q l false e = rw e (inl (b.at_other q l (λ i. T_not (is_in q (reached ws bs)) (false-T e) (in_is_in q (reached ws bs) i))))

  -- no state has an action 255, so a byte says whether its state is reached
  pub other_byte : (q : ℕ) → q < state_count ws → Option ws q 255 → ⊥
  other_byte q l o = omega (arith, option_small ws ok q l o)

  -- "Two plans are the same if all bytes agree."
  pub same_bytes : (bs cs : Policy) → T (is_policy ws bs) → T (is_policy ws cs)
      → ((q : ℕ) → q < state_count ws → byte_at bs q ≡ byte_at cs q) → bs ≡ cs
  same_bytes bs cs t u h =
      let m = ((policy-bytes bs).0 t).long in
      let n = ((policy-bytes cs).0 u).long in
      ext_get_or 255 bs cs (m ∙ sym n) (λ i l. h i (omega arith))

  -- ---- the cost

  module _ (bs : Policy) (t : T (is_policy ws bs)) where
    small : (p : ℕ) → weights_of (taken ws bs p).transitions ≤ scale ws
    unfolding taken
    small p = weights_bound ws ok p (byte_at bs p)

    -- "Divided by D^H it is the expected total cost": the weights of a policy's paths add to D^H, those of paths that stop included
    pub weights_add_lem : total_weight (paths ws bs) ≡ scale ws ^ horizon ws
    unfolding paths
    weights_add_lem = weight_paths (scale ws) (taken ws bs) small (horizon ws) 0

    -- "summed over every day the plan can meet": no path has weight 0
    pub each_weight : (path : Path) → In path (paths ws bs) → 1 ≤ path_weight path
    unfolding paths taken
    each_weight = positive_paths (scale ws) (taken ws bs) (λ p. (shape ws ok).positive p (byte_at bs p)) (horizon ws) 0

    -- "one post per stage"; "A day may stop after a choice before stage H whose weights add to less than D": a path has H + 1 steps, or it ends earlier
    -- at such an action
    pub path_length : (path : Path) → In path (paths ws bs)
        → (length path ≡ horizon ws + 1)
        ⊎ ((length path ≤ horizon ws) × (weights_of (taken ws bs (ends_at 0 path)).transitions < scale ws))
    unfolding paths
    path_length path i = path_ends (scale ws) (taken ws bs) (horizon ws) 0 path i 0

    -- "A plan's cost is the sum over all its days of weight × cost." It agrees with equation (4) times D^H, where nothing comes after a stop
    pub cost_recursion : policy_cost ws bs ≡ cost_to_go (scale ws) (taken ws bs) (horizon ws) 0
    unfolding policy_cost paths
    cost_recursion = cost-paths (scale ws) (taken ws bs) small (horizon ws) 0

    -- "r may be 0, a sure stop": nothing is added after such an action
    pub sure_stop : (m p : ℕ) → (taken ws bs p).transitions ≡ []
        → cost_to_go (scale ws) (taken ws bs) (suc m) p ≡ pos (scale ws ^ suc m) *ℤ (taken ws bs p).cost
    sure_stop m p e = rw e (+ℤ_idr _)

    -- the cost as the laws about the first policy write it
    pub cost_from : policy_cost ws bs ≡ cost_from0 (scale ws) (action ws) (togo ws) bs
    unfolding taken
    cost_from = cost_recursion ∙ ap (λ (m : ℕ). cost_to_go (scale ws) (taken ws bs) m 0) (sym (togo_start ws ok))

  -- ---- closed actions

  module _ (bs : Policy) (t : T (is_policy ws bs)) (q : ℕ) (i : In q (reached ws bs)) where
    -- "no plan takes it": where it reaches a state, a policy takes an open action
    pub takes_open : closed (taken ws bs q).cost ≡ false
    unfolding taken
    takes_open = option_open ws q (byte_at bs q) (((policy-bytes bs).0 t).at_reached q (reached-inside bs t q i) i)

    -- "A plan reaching a post with every choice closed is no plan.": a policy goes on from every state that it reaches, so it never leads to one from
    -- which none does
    pub reaches_alive : Alive ws q
    reaches_alive = record {
      state = reached-inside bs t q i;
      some = (
        byte_at bs q,
        (reached-closed (action ws) (feasible ws) (shape ws ok).later (byte_at bs) (state_count ws) 0 (0 ∷ []) bs ((policy-feasible ws ok bs).0 t)
            (reads bs) q i (omega arith) (omega (arith, reached-inside bs t q i))).0,
      );
    }

  -- "The least cost of a post may therefore not exist": it does where a policy goes on from the state, and nowhere else
  pub least_exists : (p : ℕ) → Alive ws p → least_at ws p ≡ some (least_to_go (scale ws) (action ws) (feasible ws) (togo ws p) p)
  unfolding least_at
  least_exists p a = go (feasible ws p) a.some.0 a.some.1
    where
      f : ℕ → ℤ
      f = through (scale ws) (action ws) (feasible ws) (togo ws p) p

      go : (xs : List ℕ) (c : ℕ) → In c xs → least_of f xs ≡ some (f (best_of f xs))
      go [] c i = absurd i
      go (x ∷ xs) c i = refl

  pub least-missing : (p : ℕ) → p < state_count ws → (Alive ws p → ⊥) → least_at ws p ≡ none
  unfolding least_at
  least-missing p l n =
      ap (least_of (through (scale ws) (action ws) (feasible ws) (togo ws p) p))
      (none_in (feasible ws p) (λ c i. n (record { state = l; some = (c, i) })))

  -- and no sum reaches one that does not exist: where an action is feasible, each of its next states has one
  pub least-nexts : (p c : ℕ) → Feasible ws p c
      → AtNexts (λ q. least_at ws q ≡ some (least_to_go (scale ws) (action ws) (feasible ws) (togo ws q) q)) (action ws p c).transitions
  least-nexts p c i = every_imp (λ t a. least_exists t.next a) (action ws p c).transitions (nexts_alive ws ok p c i)

  -- "The least cost over all plans agrees with equation (5) times D^H.": this policy has that cost
  pub best-cost : has_policy ws ≡ true → policy_cost ws (best_policy ws) ≡ least_to_go (scale ws) (action ws) (feasible ws) (togo ws 0) 0
  best-cost has =
      cost_from (best_policy ws) (best-policy has)
      ∙ first-cost (scale ws) (state_count ws) (action ws) (togo ws) (shape ws ok) (Alive ws) (feasible ws) (lists ws ok (has_alive ws ok has))

  -- and no policy costs less
  pub least-all : (bs : Policy) → T (is_policy ws bs) → least_to_go (scale ws) (action ws) (feasible ws) (togo ws 0) 0 ≤ℤ policy_cost ws bs
  least-all bs t =
      let has = some_policy.1 (bs, t) in
      rw (← best-cost has, cost_from (best_policy ws) (best-policy has), cost_from bs t)
      (cheapest (scale ws) (state_count ws) (action ws) (togo ws) (shape ws ok) (Alive ws) (feasible ws) (lists ws ok (has_alive ws ok has)) bs
      ((policy-feasible ws ok bs).0 t))

  -- ---- the order

  -- as the laws about sorting ask for it
  pub order_strict : Strict (comes_before ws)
  unfolding comes_before
  order_strict = strict (policy_cost ws)

  pub order_decided : Total (comes_before ws) (policies ws)
  unfolding comes_before policies
  order_decided = total (action ws) (options ws) (policy_cost ws) (state_count ws)

  -- "the order": no policy comes before itself, and what comes before another comes before all that come after that one
  pub order_irreflexive : (bs : Policy) → comes_before ws bs bs ≡ false
  order_irreflexive = order_strict.irrefl

  pub order_transitive : (bs cs ds : Policy) → T (comes_before ws bs cs) → T (comes_before ws cs ds) → T (comes_before ws bs ds)
  order_transitive = order_strict.trans

  -- of two policies that differ, one comes before the other
  pub order_total : (bs cs : Policy) → T (is_policy ws bs) → T (is_policy ws cs) → (bs ≡ cs → ⊥)
      → T (comes_before ws bs cs) ⊎ T (comes_before ws cs bs)
  order_total bs cs t u n = go (comes_before ws bs cs) refl
    where
      go : (b : Bool) → comes_before ws bs cs ≡ b → T (comes_before ws bs cs) ⊎ T (comes_before ws cs bs)
      go true e = inl (true-T e)
      go false e = inr (order_decided bs cs ((policies_are bs).1 t) ((policies_are cs).1 u) n e)

  -- "the lowest-numbered post where they differ"
  pub first_difference_lem : (bs cs : Policy) → T (is_policy ws bs) → T (is_policy ws cs) → (bs ≡ cs → ⊥)
      → FirstDifference (action ws) (state_count ws) 0 (0 ∷ []) bs cs
  first_difference_lem bs cs t u n =
      differ (action ws) (options ws) (state_count ws) 0 (0 ∷ []) bs cs ((policy_is ws bs).0 t) ((policy_is ws cs).0 u) n

  -- "(Both reach that post, since earlier stages agree.)"
  pub both_reach : (bs cs : Policy) (d : FirstDifference (action ws) (state_count ws) 0 (0 ∷ []) bs cs)
      → In d.index (reached ws bs) × In d.index (reached ws cs)
  both_reach bs cs d = (rw zero-add at d.reached_by_one, rw zero-add at d.reached_by_other)

  -- "Plan P comes before Q if its cost is lower, or equal with the lower choice at the lowest-numbered post where they differ."
  pub comes_before_is : (bs cs : Policy) → T (is_policy ws bs) → T (is_policy ws cs)
      → (d : FirstDifference (action ws) (state_count ws) 0 (0 ∷ []) bs cs)
      → T (comes_before ws bs cs)
      ↔ ((policy_cost ws bs <ℤ policy_cost ws cs)
      ⊎ ((policy_cost ws bs ≡ policy_cost ws cs) × (byte_at bs d.index < byte_at cs d.index)))
  unfolding comes_before
  comes_before_is bs cs t u d = (λ b. to (lt_z (policy_cost ws bs) (policy_cost ws cs)) refl (is.0 b), λ b. is.1 (from b))
    where
      is : T (comes_before ws bs cs) ↔ Before (policy_cost ws) bs cs
      is = before_is (policy_cost ws) bs cs

      low : Low bs cs ↔ (byte_at bs d.index < byte_at cs d.index)
      low =
          low_at bs cs d.index (((policy-bytes bs).0 t).long ∙ sym ((policy-bytes cs).0 u).long) (omega (arith, ((policy-bytes bs).0 t).long)) d.agree
          d.disagree

      Says : Type 0
      Says = (policy_cost ws bs <ℤ policy_cost ws cs) ⊎ ((policy_cost ws bs ≡ policy_cost ws cs) × (byte_at bs d.index < byte_at cs d.index))

      to : (b : Bool) → lt_z (policy_cost ws bs) (policy_cost ws cs) ≡ b → Before (policy_cost ws) bs cs → Says
      to b e (inl l) = inl l
      to true e (inr l) = inl (lt_z_yes (true-T e))
      to false e (inr l) = inr (≤ℤ-antisym l.0 (lt_z_no (false-T e)), low.0 l.1)

      from : Says → Before (policy_cost ws) bs cs
      from (inl l) = inl l
      from (inr l) = inr (rw l.0 (≤ℤ_refl (policy_cost ws cs)), low.1 l.1)

  -- ---- the list

  -- a policy comes before another exactly if fewer policies come before it
  pub by_count : (bs cs : Policy) → T (is_policy ws bs) → T (is_policy ws cs)
      → T (comes_before ws bs cs) ↔ (count (λ q. comes_before ws q bs) (policies ws) < count (λ q. comes_before ws q cs) (policies ws))
  by_count bs cs t u =
      by_rank (comes_before ws) order_strict (policies ws) policies_once order_decided bs cs ((policies_are bs).1 t) ((policies_are cs).1 u)

  module _ (K : ℕ) where
    -- "The list for an accepted book and K holds a plan of the book exactly when fewer than K plans of the book come before it, as plan j if j of
    -- them do, and nothing else."
    pub listed : (j : ℕ) (bs : Policy)
        → (get_elem? (ranking ws K) j ≡ some bs) ↔ (T (is_policy ws bs) × (count (λ q. comes_before ws q bs) (policies ws) ≡ j) × (j < K))
    unfolding ranking
    listed j bs = (λ e. let h = l.0 e in ((policies_are bs).0 h.0, h.1, h.2), λ h. l.1 ((policies_are bs).1 h.0, h.1, h.2))
      where
        l : (get_elem? (take K (sorted (comes_before ws) (policies ws))) j ≡ some bs)
            ↔ (In bs (policies ws) × (count (λ q. comes_before ws q bs) (policies ws) ≡ j) × (j < K))
        l = list-entries (comes_before ws) order_strict K (policies ws) policies_once order_decided j bs

    pub in_list : (bs : Policy) → In bs (ranking ws K) ↔ (T (is_policy ws bs) × (count (λ q. comes_before ws q bs) (policies ws) < K))
    in_list bs = (
      λ i. let e = in_at bs (ranking ws K) i in let h = (listed e.0 bs).0 e.1 in (h.0, omega (arith, h.1, h.2)),
      λ h. at_in (ranking ws K) (count (λ q. comes_before ws q bs) (policies ws)) bs
          ((listed (count (λ q. comes_before ws q bs) (policies ws)) bs).1 (h.0, refl, h.1)),
    )

    -- "each plan once"
    pub list_once : Apart (ranking ws K)
    unfolding ranking
    list_once = apart_take K (sorted (comes_before ws) (policies ws)) (apart_sorted (comes_before ws) (policies ws) policies_once)

    -- "k is the smaller of K and the number of the book's plans."
    pub list_length_lem : length (ranking ws K) ≡ min K (length (policies ws))
    unfolding ranking
    list_length_lem =
        length-take K (sorted (comes_before ws) (policies ws)) ∙ ap (min K) (sorted-length (comes_before ws) (policies ws))

    -- "Cost j is plan j's exact cost, the sum above."
    pub costs_are : (j : ℕ) (bs : Policy) → get_elem? (ranking ws K) j ≡ some bs → get_elem? (ranking_costs ws K) j ≡ some (policy_cost ws bs)
    unfolding ranking_costs
    costs_are j bs e = map_at (policy_cost ws) (ranking ws K) j bs e

    -- "as plan j if j of them do": of two entries, the one above comes before the other
    pub above : (i j : ℕ) (bs cs : Policy) → get_elem? (ranking ws K) i ≡ some bs → get_elem? (ranking ws K) j ≡ some cs
        → (i < j) ↔ T (comes_before ws bs cs)
    above i j bs cs e k =
        let h = (listed i bs).0 e in
        let g = (listed j cs).0 k in
        let c = by_count bs cs h.0 g.0 in
        (λ l. c.1 (omega arith), λ b. omega (arith, c.0 b))

    -- and every policy that comes before an entry stands above it
    pub above_all : (j : ℕ) (bs cs : Policy) → get_elem? (ranking ws K) j ≡ some bs → T (is_policy ws cs) → T (comes_before ws cs bs)
        → (i : ℕ) × (i < j) × (get_elem? (ranking ws K) i ≡ some cs)
    above_all j bs cs e u b =
        let h = (listed j bs).0 e in
        let l = (by_count cs bs u h.0).0 b in
        let n = count (λ q. comes_before ws q cs) (policies ws) in
        (n, omega arith, (listed n cs).1 (u, refl, omega arith))

    -- "if its cost is lower": an entry costs no more than those after it
    pub costs_rise : (i j : ℕ) (bs cs : Policy) → i < j → get_elem? (ranking ws K) i ≡ some bs → get_elem? (ranking ws K) j ≡ some cs
        → policy_cost ws bs ≤ℤ policy_cost ws cs
    unfolding comes_before
    costs_rise i j bs cs h e k = before-cost (policy_cost ws) bs cs ((above i j bs cs e k).0 h)

    -- "exactly when fewer than K plans of the book come before it": every listed policy comes before every policy that is not listed
    pub rest-after : (bs cs : Policy) → In bs (ranking ws K) → T (is_policy ws cs) → (In cs (ranking ws K) → ⊥) → T (comes_before ws bs cs)
    rest-after bs cs i u n = go (dec_lt (count (λ q. comes_before ws q cs) (policies ws)) K)
      where
        go : Dec (count (λ q. comes_before ws q cs) (policies ws) < K) → T (comes_before ws bs cs)
        go (yes l) = absurd (n ((in_list cs).1 (u, l)))
        go (no l) = let h = (in_list bs).0 i in (by_count bs cs h.0 u).1 (omega arith)

    -- so there is a last listed one, and every policy that is not listed comes after it
    pub rest-after-last : has_policy ws ≡ true → 0 < K → (bs : Policy) × (get_elem? (ranking ws K) (length (ranking ws K) - 1) ≡ some bs)
        × ((cs : Policy) → T (is_policy ws cs) → (In cs (ranking ws K) → ⊥) → T (comes_before ws bs cs))
    rest-after-last has h =
        let e = some_at (ranking ws K) (length (ranking ws K) - 1) (omega (arith, list_length_lem, policies_some has)) in
        (e.0, e.1, λ cs u n. rest-after e.0 cs (at_in (ranking ws K) (length (ranking ws K) - 1) e.0 e.1) u n)

    -- "fewer than K": a list that is shorter than K holds every policy
    pub none-missing : (bs : Policy) → length (ranking ws K) < K → T (is_policy ws bs) → In bs (ranking ws K)
    none-missing bs h t = (in_list bs).1 (t, omega (arith, list_length_lem, count_most (λ q. comes_before ws q bs) (policies ws)))

  -- ---- the first policy

  none_before : has_policy ws ≡ true → (bs : Policy) → T (is_policy ws bs) → comes_before ws bs (best_policy ws) ≡ false
  unfolding comes_before
  none_before has bs t = go (comes_before ws bs (best_policy ws)) refl
    where
      G : Policy
      G = best_policy ws

      never : T (comes_before ws G G) → ⊥
      never h = subst T (order_irreflexive G) h

      cheap : T (comes_before ws bs G) → cost_from0 (scale ws) (action ws) (togo ws) bs ≤ℤ cost_from0 (scale ws) (action ws) (togo ws) G
      cheap h = rw (← cost_from bs t, ← cost_from G (best-policy has)) (before-cost (policy_cost ws) bs G h)

      ahead : T (lower G bs) → T (comes_before ws G bs)
      ahead l = (before_is (policy_cost ws) G bs).1 (inr (rw (best-cost has) (least-all bs t), (lower_is G bs).0 l))

      clash : T (comes_before ws bs G) → (G ≡ bs) ⊎ T (lower G bs) → ⊥
      clash h (inl e) = never (subst (λ (x : Policy). T (comes_before ws x G)) (sym e) h)
      clash h (inr l) = never (order_transitive G bs G (ahead l) h)

      go : (b : Bool) → comes_before ws bs G ≡ b → comes_before ws bs G ≡ false
      go true e =
          absurd (clash (true-T e)
          (comes_first (scale ws) (state_count ws) (action ws) (togo ws) (shape ws ok) (Alive ws) (feasible ws) (lists ws ok (has_alive ws ok has)) bs
          ((policy-feasible ws ok bs).0 t) (cheap (true-T e))))
      go false e = e

  -- the first policy takes the lowest best action at each state that it reaches
  pub first-policy : has_policy ws ≡ true → ranking ws 1 ≡ best_policy ws ∷ []
  unfolding ranking
  first-policy has =
      take_one (sorted (comes_before ws) (policies ws)) (best_policy ws)
      ((listed 1 0 (best_policy ws)).1 (
        best-policy has,
        count_none (λ q. comes_before ws q (best_policy ws)) (policies ws)
            (λ bs i. none_before has bs ((policies_are bs).0 i)),
        omega arith,
      ))

  best-least : has_policy ws ≡ true → least_at ws 0 ≡ some (policy_cost ws (best_policy ws))
  best-least has = least_exists 0 (has_alive ws ok has) ∙ ap (λ (z : ℤ). some z) (sym (best-cost has))

  -- the least cost is that of the first policy, and agrees with equation (5) times D^H
  pub least_first : has_policy ws ≡ true → (bs : Policy) × (ranking ws 1 ≡ bs ∷ []) × (least_at ws 0 ≡ some (policy_cost ws bs))
  least_first has = (best_policy ws, first-policy has, best-least has)

  -- "the least cost that of the first plan"
  pub least_value : has_policy ws ≡ true → least_cost ws ≡ least_to_go (scale ws) (action ws) (feasible ws) (togo ws 0) 0
  unfolding least_cost least_number ranking_costs
  least_value has = rw (ok, passes_28 has, first-policy has) (best-cost has)

  pub least_call : has_policy ws ≡ true → least_at ws 0 ≡ some (least_cost ws)
  least_call has = least_exists 0 (has_alive ws ok has) ∙ ap (λ (z : ℤ). some z) (sym (least_value has))

  -- ---- bounds

  pub most-fits : (m : ℕ) → m ≤ horizon ws → scale ws ^ m * (m + 1) * largest_cost ws ≤ 4000000000000000000
  most-fits m h =
      le_trans (mul-le-mul_right (largest_cost ws) (mul-le-mul (pow-le-pow_right (accepted ws ok).sizes.d_low h) (omega arith)))
      (accepted ws ok).product_bounded

  -- what a policy takes at any state is an option, or none
  pub policy_takes : (bs : Policy) → T (is_policy ws bs) → (q : ℕ) → (byte_at bs q ≡ 255) ⊎ Option ws q (byte_at bs q)
  policy_takes bs t q = go (dec_lt q (state_count ws)) (is_in q (reached ws bs)) refl
    where
      is : PolicyBytes ws bs
      is = (policy-bytes bs).0 t

      go : Dec (q < state_count ws) → (b : Bool) → is_in q (reached ws bs) ≡ b → (byte_at bs q ≡ 255) ⊎ Option ws q (byte_at bs q)
      go (yes l) true e = inr (is.at_reached q l (is_in_in q (reached ws bs) (true-T e)))
      go (yes l) false e = inl (is.at_other q l (λ i. T_not (is_in q (reached ws bs)) (false-T e) (in_is_in q (reached ws bs) i)))
      go (no n) b e = inl (get_or-eq_default bs 255 {n = q} (omega (arith, is.long)))

  pub to_go_most : (bs : Policy) → T (is_policy ws bs) → (m p : ℕ) → nat_abs (cost_to_go (scale ws) (taken ws bs) m p) ≤ scale ws ^ m * (m + 1) * largest_cost ws
  unfolding taken
  to_go_most bs t =
      to_go_bound (scale ws) (largest_cost ws) (taken ws bs) (λ q. cost_bound ws ok q (byte_at bs q) (policy_takes bs t q))
      (λ q. weights_bound ws ok q (byte_at bs q))

  pub through-most : (m p c : ℕ) → (c ≡ 255) ⊎ Feasible ws p c
      → nat_abs (through (scale ws) (action ws) (feasible ws) m p c) ≤ scale ws ^ m * (m + 1) * largest_cost ws
  through-most = through_bound (scale ws) (largest_cost ws) (action ws) (feasible ws) (cost-feasible ws ok) (weights_bound ws ok)

  pub least-most : (m p : ℕ) → nat_abs (least_to_go (scale ws) (action ws) (feasible ws) m p) ≤ scale ws ^ m * (m + 1) * largest_cost ws
  least-most = least_bound (scale ws) (largest_cost ws) (action ws) (feasible ws) (cost-feasible ws ok) (weights_bound ws ok)

  -- "Is D^H × (H + 1) × (largest cost without its sign) at most 4 × 10^18?": no figure of the recursions is larger, of the actions of a policy or of
  -- those from which one goes on, with at most H stages still to come, and no policy's cost is
  pub to_go_fits : (bs : Policy) → T (is_policy ws bs) → (m p : ℕ) → m ≤ horizon ws → nat_abs (cost_to_go (scale ws) (taken ws bs) m p) ≤ 4000000000000000000
  to_go_fits bs t m p h = le_trans (to_go_most bs t m p) (most-fits m h)

  pub through-fits : (m p c : ℕ) → (c ≡ 255) ⊎ Feasible ws p c → m ≤ horizon ws
      → nat_abs (through (scale ws) (action ws) (feasible ws) m p c) ≤ 4000000000000000000
  through-fits m p c t h = le_trans (through-most m p c t) (most-fits m h)

  pub least_fits : (m p : ℕ) → m ≤ horizon ws → nat_abs (least_to_go (scale ws) (action ws) (feasible ws) m p) ≤ 4000000000000000000
  least_fits m p h = le_trans (least-most m p) (most-fits m h)

  pub cost-fits : (bs : Policy) → T (is_policy ws bs) → nat_abs (policy_cost ws bs) ≤ 4000000000000000000
  cost-fits bs t = rw (cost_recursion bs t) (to_go_fits bs t (horizon ws) 0 (omega arith))
