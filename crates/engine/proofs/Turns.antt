-- The turns of the search: what is listed, and what waits. A listed candidate is split state by state.
-- Assumes nothing.
use mathlib.Core.Path.{◌≡◌, sym, ap, ◌∙◌, subst}
use mathlib.Core.List.{List, [], ◌∷◌}
use Prim.Native.Nat.{ℕ, ◌+◌, ◌*◌, ◌-◌, ◌≤◌, ◌<◌}
use native.Mathlib.Nat.{mul-le-mul_right}
use native.Mathlib.Omega.{arith}
use borrow.Rule.Slice.PartMut.{put_mid}
use lib.IntN.{ℤ}
use lib.ListN.{length, set, take, drop}
use Rattle.std.specs.Prelude.{Option}
use Rattle.model.specs.Model.{Words, state_count}
use Rattle.model.specs.Questions.{book_number}
use Rattle.laws.specs.Members.{Every}
use Rattle.accepted.specs.Bytes.{policy_long}
use Rattle.book.specs.declared.Sizes.{Sizes}
use Rattle.index.specs.Index.{Checked}
use Rattle.bytes_io.specs.Slices.{written}
use Rattle.build.specs.Walk.{Passed}
use Rattle.splits.specs.Search.{admit}
use Rattle.stored.specs.Entry.{Entry, earlier_entry}
use Rattle.stored.specs.Children.{Right, plan_model}
use Rattle.stored.specs.Runs.{itself, children_of, run_entries}
use Rattle.pool.specs.declared.Pool.{Pool}
use Rattle.pool.specs.Entries.{entries, first_entry, Formed, Holding, Popped}
use Rattle.child.specs.declared.Child.{Child}
use Rattle.child.specs.declared.Parent.{Parent}
use Rattle.child.specs.Children.{entry_of, joined_if, ChildIs}
use Rattle.engine.specs.Engine.{admitted_from, split_pool, Taken, Roomy, Found, first_candidate}
use Rattle.engine.proofs.Parts.{part_long, put_is}
use Rattle.engine.proofs.States.{from_split, state_more, states-end}
use Rattle.engine.proofs.Listing.{pool_empty, Listing, begin, finish, done, none_waits, first-right, pool_next, pool_last}

-- ---- a candidate is split

-- the pool p₀ has become p by the children at the states before s, which are passed
pub record Splitting (ws : Words) (e : Entry) (p₀ : Pool) (s : ℕ) (p : Pool) (reach : ℕ) : Type 0 where
  pub formed : Formed p
  pub same-most : p.most ≡ p₀.most
  pub waits : admitted_from ws p₀.most e s (state_count ws - s) (entries (state_count ws) p)
      ≡ admitted_from ws p₀.most e e.split (state_count ws - e.split) (entries (state_count ws) p₀)
  pub passed : Passed ws e.plan s reach

module _ (ws : Words) (e : Entry) (p₀ : Pool) where
  abbrev S : ℕ
  S = state_count ws

  module _ {s : ℕ} {p : Pool} {reach : ℕ} (t : Splitting ws e p₀ s p reach) where
    -- the child at state s, if there is one, joined
    pub split_more : {r : Pool} {next : ℕ} (d : Option Child) → s < S → ChildIs ws e s d
        → Holding S (joined_if p.most ws e.plan s d (entries S p)) p r → Passed ws e.plan (s + 1) next → Splitting ws e p₀ (s + 1) r next
    split_more {r} d l c o passed =
        record {
          formed = o.formed;
          same-most = o.same-most ∙ t.same-most;
          waits = ap (admitted_from ws p₀.most e (s + 1) (S - (s + 1)))
              (o.waits ∙ ap (λ (m : ℕ). joined_if m ws e.plan s d (entries S p)) t.same-most ∙ c.joins p₀.most (entries S p))
              ∙ sym (state_more ws e p₀.most s S (entries S p) l) ∙ t.waits;
          passed = passed;
        }

    pub split_end : S ≤ s → Holding S (admit earlier_entry itself p₀.most (children_of ws e) (entries S p₀)) p₀ p
    split_end l =
        record {
          formed = t.formed;
          same-most = t.same-most;
          waits = sym (states-end ws e p₀.most s S (entries S p) l) ∙ t.waits ∙ from_split ws e p₀.most S (entries S p₀);
        }

-- ---- policies are listed

-- j policies are listed, and what waits is what is still to be listed from
pub record Turn (ws : Words) (k : ℕ) (costs₀ : List ℤ) (plans₀ : List ℕ) (j : ℕ) (pool : Pool) (costs : List ℤ) (plans : List ℕ) : Type 0 where
  pub formed : Formed pool
  pub most_is : pool.most ≡ k
  pub lists : Listing ws k (first_candidate ws ∷ []) costs₀ plans₀ j (entries (state_count ws) pool) costs plans

module _ (ws : Words) (ok : book_number ws ≡ 0) (k : ℕ) (costs₀ : List ℤ) (plans₀ : List ℕ) where
  abbrev S' : ℕ
  S' = state_count ws

  abbrev first : List Entry
  first = first_candidate ws ∷ []

  -- before the first turn
  pub turns_start : (pool : Pool) → Formed pool → pool.most ≡ k → entries S' pool ≡ first → Every (Right ws) first → Turn ws k costs₀ plans₀ 0 pool costs₀ plans₀
  turns_start pool formed most_is waits rights =
      record {
        formed = formed;
        most_is = most_is;
        lists = subst (λ (es : List Entry). Listing ws k first costs₀ plans₀ 0 es costs₀ plans₀) (sym waits) (begin ws ok k first costs₀ plans₀ rights);
      }

  module _ {j : ℕ} {pool : Pool} {costs : List ℤ} {plans : List ℕ} (t : Turn ws k costs₀ plans₀ j pool costs plans) where
    pub costs_long : length costs ≡ length costs₀
    costs_long = t.lists.costs_long

    pub plans_long : length plans ≡ length plans₀
    plans_long = t.lists.plans_long'

    pub turns_empty : pool.count ≡ 0 → Found (run_entries ws k k first) j costs₀ costs plans₀ plans
    turns_empty none =
        finish ws ok k first costs₀ plans₀ j (entries S' pool) costs plans t.lists
        (none_waits ws ok k first costs₀ plans₀ (k - j) (entries S' pool) (pool_empty S' pool none))

    pub turns_end : k ≤ j → Found (run_entries ws k k first) j costs₀ costs plans₀ plans
    turns_end h = finish ws ok k first costs₀ plans₀ j _ costs plans t.lists (done ws ok k first costs₀ plans₀ j _ h)

    module _ (some : 1 ≤ pool.count) where
      pub waiting_right : Right ws (first_entry S' pool)
      waiting_right = first-right ws ok k first costs₀ plans₀ j pool costs plans t.lists t.formed some

      -- the first that waits is listed and taken away
      module _ {left : Pool} {cs : List ℤ} {ps : List ℕ} (more : j < k) (room : Roomy k S' costs₀ plans₀) (o : Popped pool left) (same : left.most ≡ pool.most)
          (hc : cs ≡ set costs j (first_entry S' pool).cost) (hp : ps ≡ written plans (j * S') S' (first_entry S' pool).plan) where
        -- and split
        pub turns_split : {r : Pool} → Holding S' (admit earlier_entry itself left.most (children_of ws (first_entry S' pool)) (entries S' left)) left r
            → Turn ws k costs₀ plans₀ (j + 1) r cs ps
        turns_split {r} h =
            record {
              formed = h.formed;
              most_is = h.same-most ∙ same ∙ t.most_is;
              lists = pool_next ws ok k first costs₀ plans₀ j pool costs plans t.lists t.formed some more room.costs_room room.plans_room hc hp
                  (h.waits
                  ∙ ap (λ (m : ℕ). admit earlier_entry itself m (children_of ws (first_entry S' pool)) (entries S' left)) (same ∙ t.most_is)
                  ∙ sym (ap (split_pool ws k) (o.rest S')));
            }

        -- the last is not split
        pub turns_last : k ≤ j + 1 → Turn ws k costs₀ plans₀ (j + 1) left cs ps
        turns_last last =
            record {
              formed = o.formed;
              most_is = same ∙ t.most_is;
              lists = pool_last ws ok k first costs₀ plans₀ j pool costs plans t.lists t.formed some more room.costs_room room.plans_room hc hp last
                  (subst (Every (Right ws)) (o.rest S') t.lists.right).1;
            }

-- ---- a turn of the code

module _ {ws : Words} {z : Sizes} (known : Checked ws z) {k : ℕ} {costs₀ : List ℤ} {plans₀ : List ℕ} {j : ℕ} {pool : Pool} {costs : List ℤ} {plans : List ℕ}
    (turn : Turn ws k costs₀ plans₀ j pool costs plans) (none : ¬ (pool.count ≡ 0)) (more : j < k) (room : Roomy k (state_count ws) costs₀ plans₀) where
  abbrev n : ℕ
  n = z.s

  all : n ≡ state_count ws
  all = known.sizes.s_is

  pub some : 1 ≤ pool.count
  some = omega (arith, none)

  -- the bytes of the first that waits have their part
  part_room : j * n + n ≤ length plans
  part_room =
      let up_to : j + 1 ≤ k = omega (arith, more) in
      subst (λ (m : ℕ). j * m + m ≤ length plans) (sym all)
      (omega (arith, plans_long ws known.ok k costs₀ plans₀ turn, room.plans_room, mul-le-mul_right (state_count ws) up_to))

  abbrev part : List ℕ
  part = take (j * n + n - j * n) (drop (j * n) plans)

  pub part_size : length part ≡ state_count ws
  part_size = part_long plans (j * n) n (state_count ws) all part_room ∙ all

  module _ {left : Pool} {d : Parent} {bs : List ℕ} (taken : Taken (length part) pool left d bs) where
    first_is : entry_of d bs ≡ first_entry (state_count ws) pool
    first_is = taken.first ∙ ap (λ (m : ℕ). first_entry m pool) part_size

    pub taken_right : Right ws (entry_of d bs)
    taken_right = subst (Right ws) (sym first_is) (waiting_right ws known.ok k costs₀ plans₀ turn some)

    abbrev put : List ℕ
    put = put_mid (j * n) (j * n + n - j * n) plans bs

    rows_are : put ≡ written plans (j * state_count ws) (state_count ws) (first_entry (state_count ws) pool).plan
    rows_are =
        let wide = policy_long ws known.ok _ (plan_model ws known.ok _ (waiting_right ws known.ok k costs₀ plans₀ turn some)) in
        put_is plans (j * n) n (state_count ws) all part_room _ (ap (λ (e : Entry). e.plan) first_is) wide
        ∙ ap (λ (m : ℕ). written plans (j * m) (state_count ws) (first_entry (state_count ws) pool).plan) all

    cost_is : set costs j d.cost ≡ set costs j (first_entry (state_count ws) pool).cost
    cost_is = ap (λ (e : Entry). set costs j e.cost) first_is

    pub listed_split : {r : Pool} → Holding (state_count ws) (admit earlier_entry itself left.most (children_of ws (entry_of d bs)) (entries (state_count ws) left)) left r
        → Turn ws k costs₀ plans₀ (j + 1) r (set costs j d.cost) put
    listed_split {r} h =
        turns_split ws known.ok k costs₀ plans₀ turn some more room taken.popped taken.same-most cost_is rows_are
        (subst (λ (e : Entry). Holding (state_count ws) (admit earlier_entry itself left.most (children_of ws e) (entries (state_count ws) left)) left r) first_is h)

    pub listed_last : k ≤ j + 1 → Turn ws k costs₀ plans₀ (j + 1) left (set costs j d.cost) put
    listed_last last = turns_last ws known.ok k costs₀ plans₀ turn some more room taken.popped taken.same-most cost_is rows_are last
