-- The questions in order, then the list of all policies that were gone through.
-- Assumes nothing.
use mathlib.Core.Path.{◌≡◌, sym, ap, ◌∙◌}
use mathlib.Core.Bool.{Bool, true, not}
use mathlib.Core.List.{List}
use Prim.Native.Nat.{ℕ, ◌*◌, ◌≤◌, ◌<◌}
use native.Mathlib.Nat.{mul-le-mul}
use native.Mathlib.Omega.{arith}
use borrow.Author.Tests.{le-leb, lt-leb, leb-true}
use lib.IntN.{ℤ}
use lib.ListN.{length-replicate, replicate, length}
use lib.Seq.{length-take-le}
use Rattle.model.specs.Model.{Words, state_count}
use Rattle.model.specs.Questions.{book_number}
use Rattle.model.specs.Policy.{policies, has_policy}
use Rattle.model.specs.Calls.{Room, room_of, is_small, most_small, small_number}
use Rattle.accepted.specs.Facts.{accepted}
use Rattle.accepted.specs.Shape.{shape, has_is}
use Rattle.questions.specs.Answers.{stops}
use Rattle.asked.specs.Asked.{counted_number, counted_says, counted_stops}
use Rattle.feasible.specs.Barred.{BarredFrom, all_barred}
use Rattle.sets.specs.Sets.{has}
use Rattle.rank_small.specs.Numbers.{small_none, small_many, small_costs_lem, small_plans_lem, small_fits, refused, listed}
use Rattle.rank_small.specs.Small.{SmallRanked}
use Rattle.std.proofs.lemmas.Result.{err_from_is_err_and}
use Rattle.refusal.specs.declared.Refusal.{Refusal}
use Rattle.refusal.specs.Refusal.{number_of, some_number}
use Rattle.rank_small.proofs.rank_small.Goals as goal

-- an array of zeros
abbrev row : List ℕ
row = replicate 64 0

row_long : length row ≡ 64
row_long = length-replicate {A = ℕ} 64 0

-- the figures of a refusal, by the number of its question
told : (ws : Words) (k : ℕ) (costs : List ℤ) (plans : List ℕ) (q : Refusal) → number_of q ≡ small_number ws (room_of k costs plans)
    → SmallRanked ws k (number_of q) 0 costs costs plans plans
told ws k costs plans q e = refused ws k costs plans e (some_number q)

stopped : (ws : Words) (room : Room) (q : Refusal) → number_of q ≡ counted_number ws room.k → number_of q ≡ small_number ws room
unfolding small_number
stopped ws room q n = stops (n ∙ counted_stops _ _ (λ z. some_number q (n ∙ z))) _ (some_number q)

pub returns-in_err-counted_number : goal.returns-in_err-counted_number
returns-in_err-counted_number c =
    let p = err_from_is_err_and c.from_residual.result c.from_residual.ensures.1 in
    let q = c.in_err-counted_number.field-0.0 in
    let room = room_of c.args.k c.args.costs.now c.args.plans.now in
    let t = told c.args.b.now c.args.k c.args.costs.now c.args.plans.now q (stopped c.args.b.now room q c.in_err-counted_number.ensures) in
    rw (p.1, p.2) record { number = t.number_is; count = tt; costs = t.costs_are; plans = t.plans_are }

pub sizes-z-requires : goal.sizes-z-requires
sizes-z-requires c = (counted_says c.args.b.now c.args.k (sym c.in_ok-counted_number.ensures)).ok

-- 28 was asked
has_by : (ws : Words) → book_number ws ≡ 0 → (off : List ℕ) (dead : ℕ) → BarredFrom ws 0 off dead → (r : Bool) → r ≡ has dead 0 → has_policy ws ≡ not r
has_by ws ok off dead b r e =
    let l : 0 < state_count ws = (shape ws ok).some_state in
    has_is ws ok ∙ sym (ap not (e ∙ b.dead_is 0 (omega arith) l))

pub returns-then-has : goal.returns-then-has
returns-then-has c =
    let d = counted_says c.args.b.now c.args.k (sym c.in_ok-counted_number.ensures) in
    let h = has_by c.args.b.now d.ok c.find_barred-m.result.off c.find_barred-m.result.dead c.find_barred-m.ensures c.has.result c.has.ensures in
    let t = refused c.args.b.now c.args.k c.args.costs.now c.args.plans.now (small_none c.args.b.now (room_of c.args.k c.args.costs.now c.args.plans.now) d (h ∙ ap not c.if-has.true)) (λ z. omega arith) in
    record { number = t.number_is; count = tt; costs = t.costs_are; plans = t.plans_are }

-- the book has a policy
pub is_small-requires : goal.is_small-requires
is_small-requires c =
    let d = counted_says c.args.b.now c.args.k (sym c.in_ok-counted_number.ensures) in
    (c.fill_index.ensures, all_barred _ _ _ c.find_barred-m.ensures, has_by c.args.b.now d.ok c.find_barred-m.result.off c.find_barred-m.result.dead c.find_barred-m.ensures c.has.result c.has.ensures ∙ ap not c.if-has.false)

-- 30 was asked
pub returns-then-not-is_small : goal.returns-then-not-is_small
returns-then-not-is_small c =
    let d = counted_says c.args.b.now c.args.k (sym c.in_ok-counted_number.ensures) in
    let t = refused c.args.b.now c.args.k c.args.costs.now c.args.plans.now
    (small_many c.args.b.now (room_of c.args.k c.args.costs.now c.args.plans.now) d (has_by c.args.b.now d.ok c.find_barred-m.result.off c.find_barred-m.result.dead c.find_barred-m.ensures c.has.result c.has.ensures ∙ ap not c.if-has.false) (sym c.is_small.ensures ∙ c.if-not-is_small.true)) (λ z. omega arith) in
    record { number = t.number_is; count = tt; costs = t.costs_are; plans = t.plans_are }

-- there are not too many
pub returns-then-costs-k : goal.returns-then-costs-k
returns-then-costs-k c =
    let d = counted_says c.args.b.now c.args.k (sym c.in_ok-counted_number.ensures) in
    let t = refused c.args.b.now c.args.k c.args.costs.now c.args.plans.now
    (small_costs_lem c.args.b.now (room_of c.args.k c.args.costs.now c.args.plans.now) d (has_by c.args.b.now d.ok c.find_barred-m.result.off c.find_barred-m.result.dead c.find_barred-m.ensures c.has.result c.has.ensures ∙ ap not c.if-has.false) (sym c.is_small.ensures ∙ c.if-not-is_small.false) (lt-leb c.args.k (length c.args.costs.now) c.if-costs-k.true)) (λ z. omega arith) in
    record { number = t.number_is; count = tt; costs = t.costs_are; plans = t.plans_are }

pub overflow_mul-k : goal.overflow_mul-k
overflow_mul-k c =
    let d = counted_says c.args.b.now c.args.k (sym c.in_ok-counted_number.ensures) in
    let few = (accepted c.args.b.now d.ok).sizes.s_high in
    omega (
      arith,
      mul-le-mul {n₁ = c.args.k} {m₁ = state_count c.args.b.now} {n₂ = 64} {m₂ = 64} d.high few,
      ap (λ (m : ℕ). c.args.k * m) c.sizes-z.ensures.sizes.s_is,
    )

-- the costs have room
pub returns-then-plans-k : goal.returns-then-plans-k
returns-then-plans-k c =
    let d = counted_says c.args.b.now c.args.k (sym c.in_ok-counted_number.ensures) in
    let t = refused c.args.b.now c.args.k c.args.costs.now c.args.plans.now
    (small_plans_lem c.args.b.now (room_of c.args.k c.args.costs.now c.args.plans.now) d (has_by c.args.b.now d.ok c.find_barred-m.result.off c.find_barred-m.result.dead c.find_barred-m.ensures c.has.result c.has.ensures ∙ ap not c.if-has.false) (sym c.is_small.ensures ∙ c.if-not-is_small.false) (le-leb c.args.k (length c.args.costs.now) (omega arith))
    (lt-leb (c.args.k * state_count c.args.b.now) (length c.args.plans.now) (omega (arith, ap (λ (m : ℕ). c.args.k * m) c.sizes-z.ensures.sizes.s_is))))
    (λ z. omega arith) in
    record { number = t.number_is; count = tt; costs = t.costs_are; plans = t.plans_are }

-- the plans have room too
pub slice_bounds-row-end : goal.slice_bounds-row-end
slice_bounds-row-end c =
    let d = counted_says c.args.b.now c.args.k (sym c.in_ok-counted_number.ensures) in
    omega (arith, c.sizes-z.ensures.sizes.s_is, (accepted c.args.b.now d.ok).sizes.s_high, row_long)

pub slice_bounds-go_through-end : goal.slice_bounds-go_through-end
slice_bounds-go_through-end c =
    let d = counted_says c.args.b.now c.args.k (sym c.in_ok-counted_number.ensures) in
    let l : c.sizes-z.result.s ≤ length row
    = omega (arith, c.sizes-z.ensures.sizes.s_is, (accepted c.args.b.now d.ok).sizes.s_high, row_long) in
    sym (length-take-le c.sizes-z.result.s row l)

few_policies : (ws : Words) → is_small ws ≡ true → length (policies ws) ≤ most_small
unfolding is_small
few_policies ws e = leb-true (length (policies ws)) most_small e

pub go_through-requires : goal.go_through-requires
go_through-requires c =
    let d = counted_says c.args.b.now c.args.k (sym c.in_ok-counted_number.ensures) in
    let l : c.sizes-z.result.s ≤ length row
    = omega (arith, c.sizes-z.ensures.sizes.s_is, (accepted c.args.b.now d.ok).sizes.s_high, row_long) in (
      c.fill_index.ensures,
      all_barred _ _ _ c.find_barred-m.ensures,
      has_by c.args.b.now d.ok c.find_barred-m.result.off c.find_barred-m.result.dead c.find_barred-m.ensures c.has.result c.has.ensures ∙ ap not c.if-has.false,
      few_policies c.args.b.now (sym c.is_small.ensures ∙ c.if-not-is_small.false),
      length-take-le c.sizes-z.result.s row l ∙ c.sizes-z.ensures.sizes.s_is,
      record {
        low = d.low;
        high = d.high;
        costs_room = omega arith;
        plans_room = omega (arith, ap (λ (m : ℕ). c.args.k * m) c.sizes-z.ensures.sizes.s_is);
      },
    )

pub returns : goal.returns
returns c =
    let d = counted_says c.args.b.now c.args.k (sym c.in_ok-counted_number.ensures) in
    let t = listed c.args.b.now c.args.k c.args.costs.now c.args.plans.now
    (small_fits c.args.b.now (room_of c.args.k c.args.costs.now c.args.plans.now) d (has_by c.args.b.now d.ok c.find_barred-m.result.off c.find_barred-m.result.dead c.find_barred-m.ensures c.has.result c.has.ensures ∙ ap not c.if-has.false) (sym c.is_small.ensures ∙ c.if-not-is_small.false) (le-leb c.args.k (length c.args.costs.now) (omega arith))
    (le-leb (c.args.k * state_count c.args.b.now) (length c.args.plans.now) (omega (arith, ap (λ (m : ℕ). c.args.k * m) c.sizes-z.ensures.sizes.s_is))))
    c.go_through.ensures in
    record { number = t.number_is; count = t.count_is; costs = t.costs_are; plans = t.plans_are }
