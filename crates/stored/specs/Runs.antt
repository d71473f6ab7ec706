-- The search over stored candidates lists what the search over lists of actions does: the ranking of the model, with its costs.
-- Assumes nothing.
use Rattle.std.specs.Prelude.{◌≡◌, Bool, true, false, not, ◌&&◌, ◌||◌, ℤ}
use Rattle.std.proofs.Math.Path.{refl, sym, ap, ap₂, subst}
use Rattle.std.proofs.Common.{◌∙◌, inl, inr}
use mathlib.Core.List.{List, [], ◌∷◌, map}
use Prim.Native.Nat.{ℕ, zero, suc}
use Rattle.std.specs.Int.Signed.{lt_z}
use Rattle.std.proofs.Math.ListN.{take}
use Rattle.model.specs.Lists.{insert, sorted}
use Rattle.model.specs.Model.{Words, scale, state_count, togo, action}
use Rattle.model.specs.Questions.{book_number}
use Rattle.model.specs.Recursion.{feasible}
use Rattle.model.specs.Policy.{Policy, policies}
use Rattle.model.specs.Path.{policy_cost}
use Rattle.model.specs.Order.{lower, before, comes_before, ranking, ranking_costs}
use Rattle.laws.specs.Members.{In, Every}
use Rattle.laws.specs.Sorting.{sorted-same}
use Rattle.laws.specs.Policies.{IsPolicy}
use Rattle.laws.specs.First.{Lists}
use Rattle.accepted.specs.Options.{Alive}
use Rattle.accepted.specs.Shape.{shape, lists, policies-feasible}
use Rattle.accepted.specs.Demands.{cost_from, policies_are, best_policy, in_list}
use Rattle.splits.specs.Search.{earlier, admit, run}
use Rattle.splits.specs.Kbest.{children, the_best}
use Rattle.stored.specs.Entry.{Entry, earlier_entry}
use Rattle.stored.specs.Lists.{lists_of, lists_start}
use Rattle.stored.specs.Children.{first_of, cost_of, Right, child_entries, children_are, children-right}

abbrev pub itself : Entry → Entry
itself e = e

-- all children of a stored candidate
abbrev pub children_of : Words → Entry → List Entry
children_of ws e = child_entries ws e 0 (state_count ws)

-- the search over stored candidates
abbrev pub run_entries : Words → ℕ → ℕ → List Entry → List Entry
run_entries ws K n es = run earlier_entry itself (children_of ws) K n es

abbrev pub plan_of : Entry → Policy
plan_of e = e.plan

abbrev pub cost_in : Entry → ℤ
cost_in e = e.cost

module _ (ws : Words) (ok : book_number ws ≡ 0) where
  abbrev lt : Policy → Policy → Bool
  lt = before (cost_of ws)

  -- stored candidates compare as their first policies do
  compare : (a b : Entry) → Right ws a → Right ws b → earlier_entry a b ≡ earlier lt (first_of ws) (lists_of ws a) (lists_of ws b)
  compare a b x y =
      rw (x.cost_is, y.cost_is) (ap₂ lt x.plan_is y.plan_is)

  insert-map : (a : Entry) (es : List Entry) → Right ws a → Every (Right ws) es
      → map (lists_of ws) (insert earlier_entry a es) ≡ insert (earlier lt (first_of ws)) (lists_of ws a) (map (lists_of ws) es)
  insert-map a [] x h = refl
  insert-map a (b ∷ bs) x h =
      step (earlier_entry a b) (insert earlier_entry a bs)
      ∙ ap₂ (λ (t : Bool) (r : List (ℕ → List ℕ)). elim t as (λ (_ : Bool). List (ℕ → List ℕ)) [ true ↦ lists_of ws a ∷ (lists_of ws b ∷ map (lists_of ws) bs) | false ↦ lists_of ws b ∷ r ])
      (compare a b x h.0) (insert-map a bs x h.1)
    where
      step : (t : Bool) (r : List Entry) → map (lists_of ws) (elim t as (λ (_ : Bool). List Entry) [ true ↦ a ∷ (b ∷ bs) | false ↦ b ∷ r ])
          ≡ elim t as (λ (_ : Bool). List (ℕ → List ℕ)) [ true ↦ lists_of ws a ∷ (lists_of ws b ∷ map (lists_of ws) bs) | false ↦ lists_of ws b ∷ map (lists_of ws) r ]
      step true r = refl
      step false r = refl

  insert-right : (a : Entry) (es : List Entry) → Right ws a → Every (Right ws) es → Every (Right ws) (insert earlier_entry a es)
  insert-right a [] x h = (x, tt)
  insert-right a (b ∷ bs) x h = go (earlier_entry a b) (insert-right a bs x h.1)
    where
      go : (t : Bool) → Every (Right ws) (insert earlier_entry a bs)
          → Every (Right ws) (elim t as (λ (_ : Bool). List Entry) [ true ↦ a ∷ (b ∷ bs) | false ↦ b ∷ insert earlier_entry a bs ])
      go true ih = (x, h)
      go false ih = (h.0, ih)

  take-map : (K : ℕ) (es : List Entry) → map (lists_of ws) (take K es) ≡ take K (map (lists_of ws) es)
  take-map zero es = refl
  take-map (suc K) [] = refl
  take-map (suc K) (e ∷ es) = ap (λ (xs : List (ℕ → List ℕ)). lists_of ws e ∷ xs) (take-map K es)

  take-right : (K : ℕ) (es : List Entry) → Every (Right ws) es → Every (Right ws) (take K es)
  take-right zero es h = tt
  take-right (suc K) [] h = tt
  take-right (suc K) (e ∷ es) h = (h.0, take-right K es h.1)

  pub admit-map : (K : ℕ) (cs es : List Entry) → Every (Right ws) cs → Every (Right ws) es
      → (map (lists_of ws) (admit earlier_entry itself K cs es) ≡ admit lt (first_of ws) K (map (lists_of ws) cs) (map (lists_of ws) es))
      × Every (Right ws) (admit earlier_entry itself K cs es)
  admit-map K [] es h k = (refl, k)
  admit-map K (c ∷ cs) es h k =
      let i = insert-right c es h.0 k in
      let r = admit-map K cs (take K (insert earlier_entry c es)) h.1 (take-right K (insert earlier_entry c es) i) in (
        r.0
            ∙ ap (λ (xs : List (ℕ → List ℕ)). admit lt (first_of ws) K (map (lists_of ws) cs) xs)
            (take-map K (insert earlier_entry c es) ∙ ap (take K) (insert-map c es h.0 k)),
        r.1,
      )

  -- one search is the image of the other
  pub runs_are : (K n : ℕ) (es : List Entry) → Every (Right ws) es
      → (map plan_of (run_entries ws K n es) ≡ run lt (first_of ws) (children (scale ws) (state_count ws) (action ws) (togo ws)) K n (map (lists_of ws) es))
      × Every (Right ws) (run_entries ws K n es)
  runs_are K zero es h = (refl, tt)
  runs_are K (suc n) [] h = (refl, tt)
  runs_are K (suc n) (e ∷ es) h =
      let a = admit-map K (children_of ws e) es (children-right ws ok e h.0) h.1 in
      let r = runs_are K n (admit earlier_entry itself K (children_of ws e) es) a.1 in (
        ap₂ (λ (x : Policy) (xs : List Policy). x ∷ xs) h.0.plan_is
            (r.0
            ∙ ap (run lt (first_of ws) (children (scale ws) (state_count ws) (action ws) (togo ws)) K n)
            (a.0 ∙ ap (λ (cs : List (ℕ → List ℕ)). admit lt (first_of ws) K cs (map (lists_of ws) es)) (children_are ws ok e h.0))),
        (h.0, r.1),
      )

  -- ---- from the first candidate on

  -- all policies of the model, with the first of them
  unfoldable pub start_entry : Entry
  start_entry = record { cost = cost_of ws (best_policy ws); plan = best_policy ws; split = 0; mask = 0 }

  start_lists : lists_of ws start_entry ≡ feasible ws
  unfolding start_entry
  start_lists = lists_start ws start_entry refl refl

  pub start_right : Alive ws 0 → Right ws start_entry
  unfolding start_entry
  start_right a =
      record {
        lists = subst (Lists (Alive ws) (action ws)) (sym start_lists) (lists ws ok a);
        plan_is = ap (first_of ws) (sym start_lists);
        cost_is = refl;
        split_state = (shape ws ok).some_state;
        among = λ u h. subst (λ (os : ℕ → List ℕ). IsPolicy (action ws) os (state_count ws) 0 (0 ∷ []) u) start_lists h;
      }

  -- a policy of the model costs what the recursion says
  cost-same : (bs : Policy) → In bs (policies ws) → policy_cost ws bs ≡ cost_of ws bs
  cost-same bs i = cost_from ws ok bs ((policies_are ws ok bs).0 i)

  pub lists_ranking : Alive ws 0 → (K : ℕ) → map plan_of (run_entries ws K K (start_entry ∷ [])) ≡ ranking ws K
  unfolding ranking comes_before
  lists_ranking a K =
      (runs_are K K (start_entry ∷ []) (start_right a, tt)).0
      ∙ ap (λ (os : ℕ → List ℕ). run lt (first_of ws) (children (scale ws) (state_count ws) (action ws) (togo ws)) K K (os ∷ [])) start_lists
      ∙ the_best (scale ws) (state_count ws) (action ws) (togo ws) (shape ws ok) (Alive ws) (feasible ws) (lists ws ok a) K
      ∙ ap (λ (us : List Policy). take K (sorted lt us)) (sym (policies-feasible ws ok))
      ∙ sym (ap (take K) (sorted-same (before (policy_cost ws)) lt (policies ws)
      (λ x y i j. ap₂ (λ (u v : ℤ). lt_z u v || (not (lt_z v u) && lower x y)) (cost-same x i) (cost-same y j))))

  pub lists_costs : Alive ws 0 → (K : ℕ) → map cost_in (run_entries ws K K (start_entry ∷ [])) ≡ ranking_costs ws K
  unfolding ranking_costs
  lists_costs a K =
      cost-map (run_entries ws K K (start_entry ∷ [])) (runs_are K K (start_entry ∷ []) (start_right a, tt)).1
      (λ bs i. subst (In bs) (lists_ranking a K) i)
      ∙ ap (map (policy_cost ws)) (lists_ranking a K)
    where
      cost-map : (es : List Entry) → Every (Right ws) es → ((bs : Policy) → In bs (map plan_of es) → In bs (ranking ws K))
          → map cost_in es ≡ map (policy_cost ws) (map plan_of es)
      cost-map [] h m = refl
      cost-map (e ∷ es) h m =
          ap₂ (λ (z : ℤ) (zs : List ℤ). z ∷ zs)
          (h.0.cost_is ∙ sym (cost_from ws ok e.plan ((in_list ws ok K e.plan).0 (m e.plan (inl refl))).0))
          (cost-map es h.1 (λ bs i. m bs (inr i)))
