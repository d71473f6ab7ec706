-- The search, step by step: what is still to be listed, written over what stands there now, gives the result.
-- Assumes nothing.
use mathlib.Core.Path.{◌≡◌, refl, sym, ap, ◌∙◌, subst}
use mathlib.Core.List.{List, [], ◌∷◌, ◌++◌, map}
use Prim.Native.Nat.{ℕ, zero, suc, ◌+◌, ◌*◌, ◌-◌, ◌≤◌, ◌<◌}
use native.Mathlib.Nat.{zero-add, mul-le-mul_right}
use native.Mathlib.Omega.{arith}
use lib.IntN.{ℤ}
use lib.ListN.{length, set, get_or, take, length-set, length-append, length-map}
use Rattle.model.specs.Model.{Words, state_count}
use Rattle.model.specs.Questions.{book_number}
use Rattle.model.specs.Calls.{over}
use Rattle.laws.specs.Members.{Every}
use Rattle.accepted.specs.Bytes.{policy_long}
use Rattle.bytes_io.specs.Slices.{written}
use Rattle.bytes_io.proofs.Parts.{written_none, set-written, written-front, length-written, written_join}
use Rattle.stored.specs.Entry.{Entry}
use Rattle.stored.specs.Children.{Right, plan_model, children-right}
use Rattle.stored.specs.Runs.{children_of, run_entries, cost_in, runs_are, admit-map}
use Rattle.pool.specs.declared.Pool.{Pool}
use Rattle.pool.specs.Entries.{Formed, entry_at, first_entry, entries}
use Rattle.engine.specs.Engine.{split_pool, plans_in, Found}

-- ---- the pool as a list

first_of : (f : ℕ → Entry) (n : ℕ) (o : List ℕ) → 1 ≤ n → 1 ≤ length o → (r : List Entry) × (map f (take n o) ≡ f (get_or o 0 0) ∷ r)
first_of f zero o h k = absurd (omega arith)
first_of f (suc n) [] h k = absurd (omega arith)
first_of f (suc n) (x ∷ o) h k = (map f (take n o), refl)

pub pool_first : (s : ℕ) (p : Pool) → Formed p → 1 ≤ p.count → (r : List Entry) × (entries s p ≡ first_entry s p ∷ r)
pool_first s p f h = first_of (entry_at s p) p.count p.order h (omega (arith, f.slots.long))

pub pool_empty : (s : ℕ) (p : Pool) → p.count ≡ 0 → entries s p ≡ []
pool_empty s p h = ap (λ (n : ℕ). map (entry_at s p) (take n p.order)) h

-- ---- the listing

-- j policies are listed, the entries es wait
pub record Listing (ws : Words) (k : ℕ) (first : List Entry) (costs₀ : List ℤ) (plans₀ : List ℕ) (j : ℕ) (es : List Entry) (costs : List ℤ) (plans : List ℕ) : Type 0 where
  pub right : Every (Right ws) es
  pub count_is : j + length (run_entries ws k (k - j) es) ≡ length (run_entries ws k k first)
  pub costs_are : written costs j (length (run_entries ws k (k - j) es)) (map cost_in (run_entries ws k (k - j) es)) ≡ over (map cost_in (run_entries ws k k first)) costs₀
  pub plans_are : written plans (j * state_count ws) (length (run_entries ws k (k - j) es) * state_count ws) (plans_in (run_entries ws k (k - j) es)) ≡ over (plans_in (run_entries ws k k first)) plans₀
  pub costs_long : length costs ≡ length costs₀
  pub plans_long' : length plans ≡ length plans₀

module _ (ws : Words) (ok : book_number ws ≡ 0) (k : ℕ) where
  abbrev S : ℕ
  S = state_count ws

  one_long : (e : Entry) → Right ws e → length e.plan ≡ S
  one_long e r = policy_long ws ok e.plan (plan_model ws ok e r)

  plans_long : (es : List Entry) → Every (Right ws) es → length (plans_in es) ≡ length es * S
  plans_long [] h = omega arith
  plans_long (e ∷ es) h = omega (arith, length-append e.plan (plans_in es), one_long e h.0, plans_long es h.1)

  module _ (first : List Entry) (costs₀ : List ℤ) (plans₀ : List ℕ) where
    abbrev L : List Entry
    L = run_entries ws k k first

    pub begin : Every (Right ws) first → Listing ws k first costs₀ plans₀ 0 first costs₀ plans₀
    begin h =
        record {
          right = h;
          count_is = zero-add (length (run_entries ws k (k - 0) first)) ∙ ap length all;
          costs_are =
              ap (λ (r : List Entry). written costs₀ 0 (length r) (map cost_in r)) all ∙ written-front costs₀ (length L) (map cost_in L) (length-map L cost_in);
          plans_are =
              ap (λ (r : List Entry). written plans₀ (0 * S) (length r * S) (plans_in r)) all
              ∙ ap (λ (n : ℕ). written plans₀ n (length L * S) (plans_in L)) none
              ∙ written-front plans₀ (length L * S) (plans_in L) (plans_long L (runs_are ws ok k k first h).1);
          costs_long = refl;
          plans_long' = refl;
        }
      where
        whole : k - 0 ≡ k
        whole = omega arith

        none : 0 * S ≡ 0
        none = omega arith

        all : run_entries ws k (k - 0) first ≡ run_entries ws k k first
        all = ap (λ (n : ℕ). run_entries ws k n first) whole

    -- nothing is left to list
    pub finish : (j : ℕ) (es : List Entry) (costs : List ℤ) (plans : List ℕ) → Listing ws k first costs₀ plans₀ j es costs plans
        → run_entries ws k (k - j) es ≡ []
        → Found (run_entries ws k k first) j costs₀ costs plans₀ plans
    finish j es costs plans l none =
        let nothing : 0 ≡ 0 * S = omega arith in
        record {
          count = omega (arith, l.count_is, ap length none);
          costs_are = sym (written_none costs j) ∙ ap (λ (r : List Entry). written costs j (length r) (map cost_in r)) (sym none) ∙ l.costs_are;
          plans_are = sym (written_none plans (j * S)) ∙ ap (λ (n : ℕ). written plans (j * S) n []) nothing ∙ ap (λ (r : List Entry). written plans (j * S) (length r * S) (plans_in r)) (sym none) ∙ l.plans_are;
        }

    pub done : (j : ℕ) (es : List Entry) → k ≤ j → run_entries ws k (k - j) es ≡ []
    done j es h =
        let z : k - j ≡ 0 = omega arith in
        ap (λ (n : ℕ). run_entries ws k n es) z

    -- other entries of which the same is listed
    swapped : (j : ℕ) (es es' : List Entry) (costs : List ℤ) (plans : List ℕ) → run_entries ws k (k - j) es ≡ run_entries ws k (k - j) es' → Every
        (Right ws) es'
        → Listing ws k first costs₀ plans₀ j es costs plans → Listing ws k first costs₀ plans₀ j es' costs plans
    swapped j es es' costs plans e h l =
        record {
          right = h;
          count_is = subst (λ (r : List Entry). j + length r ≡ length L) e l.count_is;
          costs_are = subst (λ (r : List Entry). written costs j (length r) (map cost_in r) ≡ over (map cost_in L) costs₀) e l.costs_are;
          plans_are = subst (λ (r : List Entry). written plans (j * S) (length r * S) (plans_in r) ≡ over (plans_in L) plans₀) e l.plans_are;
          costs_long = l.costs_long;
          plans_long' = l.plans_long';
        }

    pub none_waits : (n : ℕ) (es : List Entry) → es ≡ [] → run_entries ws k n es ≡ []
    none_waits n es h = ap (run_entries ws k n) h ∙ empty n
      where
        empty : (n : ℕ) → run_entries ws k n [] ≡ []
        empty zero = refl
        empty (suc n) = refl

    module _ (j : ℕ) (e : Entry) (rest : List Entry) (costs : List ℤ) (plans : List ℕ) (l : Listing ws k first costs₀ plans₀ j (e ∷ rest) costs plans) (more : j < k)
        (c-room : k ≤ length costs) (p-room : k * S ≤ length plans) where
      abbrev R : List Entry
      R = run_entries ws k (k - (j + 1)) (split_pool ws k (e ∷ rest))

      now_is : run_entries ws k (k - j) (e ∷ rest) ≡ e ∷ R
      now_is =
          let n : k - j ≡ suc (k - (j + 1)) = omega arith in
          ap (λ (n : ℕ). run_entries ws k n (e ∷ rest)) n

      pub next : (es : List Entry) (cs : List ℤ) (ps : List ℕ) → es ≡ split_pool ws k (e ∷ rest) → cs ≡ set costs j e.cost
          → ps ≡ written plans (j * S) S e.plan → Listing ws k first costs₀ plans₀ (j + 1) es cs ps
      next es cs ps he hc hp =
          let in-costs : j < length costs = omega arith in
          let in_plans : j * S + S ≤ length plans = omega (arith, mul-le-mul_right S more) in
          let wide : length e.plan ≡ S = one_long e l.right.0 in
          subst (λ (es : List Entry). Listing ws k first costs₀ plans₀ (j + 1) es cs ps) (sym he)
          record {
            right = (admit-map ws ok k (children_of ws e) rest (children-right ws ok e l.right.0) l.right.1).1;
            count_is = omega (arith, l.count_is, ap length now_is);
            costs_are =
                ap (λ (o : List ℤ). written o (j + 1) (length R) (map cost_in R)) (hc ∙ set-written costs j e.cost in-costs)
                ∙ written_join costs j 1 (e.cost ∷ []) refl (omega arith) (length R) (map cost_in R)
                ∙ ap (λ (n : ℕ). written costs j n (e.cost ∷ map cost_in R)) one_more
                ∙ ap (λ (r : List Entry). written costs j (length r) (map cost_in r)) (sym now_is) ∙ l.costs_are;
            plans_are =
                ap (λ (n : ℕ). written ps n (length R * S) (plans_in R)) at_next
                ∙ ap (λ (o : List ℕ). written o (j * S + S) (length R * S) (plans_in R)) hp
                ∙ written_join plans (j * S) S e.plan wide in_plans (length R * S) (plans_in R)
                ∙ ap (λ (n : ℕ). written plans (j * S) n (e.plan ++ plans_in R)) size
                ∙ ap (λ (r : List Entry). written plans (j * S) (length r * S) (plans_in r)) (sym now_is) ∙ l.plans_are;
            costs_long = ap length hc ∙ length-set costs j e.cost ∙ l.costs_long;
            plans_long' = ap length hp ∙ length-written plans (j * S) S e.plan wide in_plans ∙ l.plans_long';
          }
        where
          one_more : 1 + length R ≡ length (e ∷ R)
          one_more = omega arith

          at_next : (j + 1) * S ≡ j * S + S
          at_next = omega arith

          size : S + length R * S ≡ length (e ∷ R) * S
          size = omega arith

    -- the same of a pool of which one is counted
    module _ (j : ℕ) (pool : Pool) (costs : List ℤ) (plans : List ℕ) (l : Listing ws k first costs₀ plans₀ j (entries S pool) costs plans) (formed : Formed pool)
        (some : 1 ≤ pool.count) where
      pub first-right : Right ws (first_entry S pool)
      first-right = (subst (Every (Right ws)) (pool_first S pool formed some).1 l.right).0

      module _ {cs : List ℤ} {ps : List ℕ} (more : j < k) (c-room : k ≤ length costs₀) (p-room : k * S ≤ length plans₀)
          (hc : cs ≡ set costs j (first_entry S pool).cost) (hp : ps ≡ written plans (j * S) S (first_entry S pool).plan) where
        pub pool_next : {es : List Entry} → es ≡ split_pool ws k (entries S pool) → Listing ws k first costs₀ plans₀ (j + 1) es cs ps
        pool_next {es} he =
            let f = pool_first S pool formed some in
            next j (first_entry S pool) f.0 costs plans (subst (λ (es : List Entry). Listing ws k first costs₀ plans₀ j es costs plans) f.1 l) more
            (omega (arith, l.costs_long)) (omega (arith, l.plans_long')) es cs ps (he ∙ ap (split_pool ws k) f.1) hc hp

        -- after the last none is split: whatever waits then, nothing more is listed
        pub pool_last : {es : List Entry} → k ≤ j + 1 → Every (Right ws) es → Listing ws k first costs₀ plans₀ (j + 1) es cs ps
        pool_last {es} last rights =
            swapped (j + 1) (split_pool ws k (entries S pool)) es cs ps
            (done (j + 1) (split_pool ws k (entries S pool)) last ∙ sym (done (j + 1) es last)) rights (pool_next refl)
