-- The largest list fits the arrays, and the ranking that stands at their fronts is the list.
-- Assumes nothing.
use mathlib.Core.Path.{◌≡◌, sym, ap, ◌∙◌, subst}
use mathlib.Core.List.{List}
use Prim.Native.Nat.{ℕ, ◌*◌, ◌≤◌}
use native.Mathlib.Nat.{mul-le-mul}
use native.Mathlib.Omega.{arith}
use lib.IntN.{ℤ}
use lib.ListN.{length, take, drop, length-append}
use lib.Seq.{take_at}
use Rattle.model.specs.Lists.{for_each}
use Rattle.model.specs.Model.{Words, state_count}
use Rattle.model.specs.Policy.{Policy}
use Rattle.model.specs.Order.{ranking, ranking_costs}
use Rattle.accepted.specs.Facts.{accepted}
use Rattle.asked.specs.Asked.{Counted}
use Rattle.record.specs.declared.Listing.{Listing}
use Rattle.record.specs.Lengths.{costs-length, flat_length, count_most}
use Rattle.record.specs.Listed.{Listed}
use Rattle.engine.specs.Engine.{Roomy, Ranked}

module _ (ws : Words) (k : ℕ) (a : Counted ws k) where
  -- at most 64 policies of 64 bytes
  most : (n : ℕ) → n ≤ 64 → n * state_count ws ≤ 4096
  most n h = mul-le-mul {n₁ = n} {m₁ = state_count ws} {n₂ = 64} {m₂ = 64} h (accepted ws a.ok).sizes.s_high

  abbrev flat : List ℕ
  flat = for_each (λ (p : Policy). p) (ranking ws k)

  pub listed : (l : Listing) {costs : List ℤ} {plans : List ℕ} → l.s ≡ state_count ws → Ranked ws k l.n costs l.costs plans l.plans → Listed ws k l
  listed l {costs} {plans} e f =
      let few : l.n ≤ 64 = omega (arith, f.count, count_most ws k a.ok, a.high) in
      let all : l.n * l.s ≡ l.n * state_count ws = ap (λ (s : ℕ). l.n * s) e in
      let c-long : length (ranking_costs ws k) ≡ l.n = costs-length ws k ∙ sym f.count in
      let p-long : length flat ≡ l.n * l.s = flat_length ws k a.ok ∙ ap (λ (n : ℕ). n * state_count ws) (sym f.count) ∙ sym all in
      record {
        held = record {
          few = few;
          small = omega (arith, all, most l.n few);
          costs_long = omega (arith, ap length f.costs_are, length-append (ranking_costs ws k) (drop (length (ranking_costs ws k)) costs), c-long);
          plans_long = omega (arith, ap length f.plans_are, length-append flat (drop (length flat) plans), p-long);
        };
        count = f.count;
        states = e;
        costs_are = ap (take l.n) f.costs_are ∙ take_at (ranking_costs ws k) (drop (length (ranking_costs ws k)) costs) l.n c-long;
        plans_are = ap (take (l.n * l.s)) f.plans_are ∙ take_at flat (drop (length flat) plans) (l.n * l.s) p-long;
      }

  -- there is room for the first k
  pub room : {costs : List ℤ} {plans : List ℕ} → length costs ≡ 64 → length plans ≡ 4096 → Roomy k (state_count ws) costs plans
  room c p = record { costs_room = omega (arith, c, a.high); plans_room = omega (arith, p, most k a.high) }

-- the number of states as a call has read it
pub by_states : {ws : Words} {k n s : ℕ} {costs : List ℤ} {plans : List ℕ} → s ≡ state_count ws
    → Listed ws k (record { n = n; s = state_count ws; costs = costs; plans = plans }) → Listed ws k (record { n = n; s = s; costs = costs; plans = plans })
by_states {ws} {k} {n} {s} {costs} {plans} e h = subst (λ (m : ℕ). Listed ws k (record { n = n; s = m; costs = costs; plans = plans })) (sym e) h
