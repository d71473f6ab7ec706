-- A refusal carries its number and leaves both slices; any other call the list. A list of no policy is question 28.
-- Assumes nothing.
use mathlib.Core.Path.{◌≡◌, sym, ap, ◌∙◌}
use Prim.Native.Nat.{ℕ}
use mathlib.Core.List.{List, map}
use native.Mathlib.Omega.{arith}
use Rattle.model.specs.Lists.{for_each}
use Rattle.model.specs.Model.{Words}
use Rattle.model.specs.Policy.{Policy}
use Rattle.model.specs.Path.{policy_cost}
use Rattle.model.specs.Order.{ranking_costs}
use Rattle.model.specs.Calls.{Room, over, room_of, rank_number, rank_count, rank_costs, rank_plans}
use Rattle.accepted.specs.Empty.{none_listed_lem, listed_none}
use Rattle.questions.specs.Answers.{stops, leaves, gives}
use Rattle.asked.specs.Asked.{counted_number, counted_says, counted_stops, list_some}
use Rattle.rank.specs.Short.{short_none, short_is, rank_none, rank_some}
use Rattle.std.proofs.lemmas.Result.{err_from_is_err_and}
use Rattle.refusal.specs.declared.Refusal.{Refusal}
use Rattle.refusal.specs.Refusal.{number_of, some_number}
use Rattle.rank.proofs.rank.Goals as goal

-- a question before 28 is that of the call
stopped : (ws : Words) (r : Room) (q : Refusal) → number_of q ≡ counted_number ws r.k → number_of q ≡ rank_number ws r
unfolding rank_number
stopped ws r q e = stops (e ∙ counted_stops _ _ (λ z. some_number q (e ∙ z))) _ (some_number q)

pub returns-in_err-counted_number : goal.returns-in_err-counted_number
unfolding rank_costs rank_plans
returns-in_err-counted_number c =
    let p = err_from_is_err_and c.from_residual.result c.from_residual.ensures.1 in
    let q = c.in_err-counted_number.field-0.0 in
    let e = stopped c.args.b.now (room_of c.args.k c.args.costs.now c.args.plans.now) q c.in_err-counted_number.ensures in
    rw (p.1, p.2) record { number = e; count = tt; costs = leaves e (some_number q) _ _; plans = leaves e (some_number q) _ _ }

pub short_number-requires : goal.short_number-requires
short_number-requires c = counted_says _ _ (sym c.in_ok-counted_number.ensures)

pub returns-in_err-short_number : goal.returns-in_err-short_number
unfolding rank_costs rank_plans
returns-in_err-short_number c =
    let p = err_from_is_err_and c.from_residual-in_err-short_number.result c.from_residual-in_err-short_number.ensures.1 in
    let q = c.in_err-short_number.field-0.0 in
    let n = c.in_err-short_number.ensures in
    let room = room_of c.args.k c.args.costs.now c.args.plans.now in
    let e = n ∙ short_is c.args.b.now room (counted_says _ _ (sym c.in_ok-counted_number.ensures)) (λ z. some_number q (n ∙ z)) in
    rw (p.1, p.2) record { number = e; count = tt; costs = leaves e (some_number q) _ _; plans = leaves e (some_number q) _ _ }

pub list-n-requires : goal.list-n-requires
list-n-requires c =
    let d = counted_says _ _ (sym c.in_ok-counted_number.ensures) in
    let f = short_none c.args.b.now (room_of c.args.k c.args.costs.now c.args.plans.now) (sym c.in_ok-short_number.ensures) in
    (d.ok, d.low, d.high, record { costs_room = f.costs; plans_room = f.plans })

-- the list is made: of no policy
pub returns-then-n-eq0 : goal.returns-then-n-eq0
unfolding rank_count rank_costs rank_plans ranking_costs
returns-then-n-eq0 c =
    let w = c.args.b.now in
    let r = room_of c.args.k c.args.costs.now c.args.plans.now in
    let d = counted_says _ _ (sym c.in_ok-counted_number.ensures) in
    let f = c.list-n.ensures in
    let h = (listed_none w d.ok c.args.k d.low).0 (sym f.count ∙ c.if-n-eq0.true) in
    let nothing = none_listed_lem w r.k h in
    let e = sym (rank_none w r d h) in
    record {
      number = e;
      count = tt;
      costs = f.costs_are ∙ ap (λ (ps : List Policy). over (map (policy_cost w) ps) c.args.costs.now) nothing ∙ leaves e (omega arith) _ _;
      plans = f.plans_are ∙ ap (λ (ps : List Policy). over (for_each (λ (bs : Policy). bs) ps) c.args.plans.now) nothing ∙ leaves e (omega arith) _ _;
    }

pub returns : goal.returns
unfolding rank_count rank_costs rank_plans
returns c =
    let w = c.args.b.now in
    let r = room_of c.args.k c.args.costs.now c.args.plans.now in
    let d = counted_says _ _ (sym c.in_ok-counted_number.ensures) in
    let f = c.list-n.ensures in
    let e = rank_some w r d (list_some w c.args.k d f.count c.if-n-eq0.false).has (short_none w r (sym c.in_ok-short_number.ensures)) in
    record { number = sym e; count = gives e _ f.count; costs = gives e _ f.costs_are; plans = gives e _ f.plans_are }
