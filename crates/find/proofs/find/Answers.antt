-- The questions in order, then the answer by the list in the arrays. A list of no policy is question 28.
-- Assumes nothing.
use mathlib.Core.Path.{◌≡◌, refl, sym, ap, ap₂, ◌∙◌}
use mathlib.Core.Bool.{true, false}
use mathlib.Core.List.{List}
use Prim.Native.Nat.{ℕ, suc, ◌+◌, ◌-◌, ◌*◌, ◌≤◌, ◌<◌}
use native.Mathlib.Numerals.{add-one}
use native.Mathlib.Omega.{arith}
use lib.Dec.{T, lit<}
use lib.IntN.{ℤ, pos, nat_abs}
use lib.ListN.{length, get_or, take, drop}
use mir.Syntax.{w64}
use mir.Val.{to_z, of_z}
use mir.Facts.{to_z-of_z}
use Rattle.std.specs.Prelude.{Option, Some, None, is_some, IfSome}
use Rattle.std.proofs.Common.{rules}
use Rattle.std.proofs.lemmas.Result.{err_from_is_err_and}
use Rattle.refusal.specs.Refusal.{some_number}
use Rattle.refusal.specs.declared.Refusal.TheVariants.{Plan}
use Rattle.model.specs.Model.{Words, state_count}
use Rattle.model.specs.Questions.{book_number}
use Rattle.model.specs.Policy.{Policy, is_policy}
use Rattle.model.specs.Path.{policy_cost}
use Rattle.model.specs.Standing.{is_rank, place_in, beside_last, standing}
use Rattle.model.specs.Calls.{find_number}
use Rattle.laws.specs.Members.{true-T}
use Rattle.questions.specs.FirstNo.{fails, passes, none}
use Rattle.questions.specs.Answers.{stops, goes_on}
use Rattle.accepted.specs.Demands.{cost-fits}
use Rattle.asked.specs.Asked.{Asked, Counted, counted_says, counted_stops, list_none, list_some, asked_passed}
use Rattle.book.proofs.Words.{fits64}
use Rattle.record.specs.declared.Listing.{Listing}
use Rattle.record.specs.Parts.{parts}
use Rattle.find.proofs.Says.{plan_short, plans_fit, rank_says, last-inside, last_fits, beside_says}
use Rattle.find.proofs.find.Goals as goal
use Rattle.find.proofs.find.Goals.{In_ok-counted_number, Else-n-eq0, In_ok-cost}

pub returns-in_err-counted_number-clause-number : goal.returns-in_err-counted_number-clause-number
unfolding find_number
returns-in_err-counted_number-clause-number c =
    let p = err_from_is_err_and c.from_residual.result c.from_residual.ensures.1 in
    let q = c.in_err-counted_number.field-0.0 in
    let e = c.in_err-counted_number.ensures in
    rw (p.1, p.2) (stops (e ∙ counted_stops _ _ (λ z. some_number q (e ∙ z))) _ (some_number q))

-- the questions 1 to 14 are answered yes
counted : (c : In_ok-counted_number) → Counted c.args.b.now c.args.k
counted c = counted_says _ _ (sym c.in_ok-counted_number.ensures)

pub fill-n-requires : goal.fill-n-requires
fill-n-requires c = (counted (goal.at.fill-n-requires c).In_ok-counted_number, refl, refl)

pub returns-then-n-eq0-clause-number : goal.returns-then-n-eq0-clause-number
unfolding find_number
returns-then-n-eq0-clause-number c =
    let d = counted (goal.at.returns-then-n-eq0-clause-number c).In_ok-counted_number in
    stops (sym (list_none _ _ d c.fill-n.ensures.count c.if-n-eq0.true)) _ (omega arith)

-- some policy is listed
asked : (c : Else-n-eq0) → Asked c.args.b.now c.args.k
asked c = list_some _ _ (counted_says _ _ (sym c.in_ok-counted_number.ensures)) c.fill-n.ensures.count c.if-n-eq0.false

pub sizes-z-requires : goal.sizes-z-requires
sizes-z-requires c = (asked (goal.at.sizes-z-requires c).Else-n-eq0).ok

-- a slice that is no plan, and one that is
no_plan : (ws : Words) (bs : Policy) (r : Option ℤ) → is_some r ≡ is_policy ws bs → r ≡ None → is_policy ws bs ≡ false
no_plan ws bs r is e = sym is ∙ ap is_some e

a_plan : (ws : Words) (bs : Policy) (r : Option ℤ) (x : ℤ) → is_some r ≡ is_policy ws bs → IfSome r (λ c. c ≡ policy_cost ws bs) → r ≡ Some x
    → (is_policy ws bs ≡ true) × (x ≡ policy_cost ws bs)
a_plan ws bs r x is cost e = (sym is ∙ ap is_some e, rw e at cost)

module _ (ws : Words) (k : ℕ) (bs : Policy) (d : Asked ws k) where
  refused : is_policy ws bs ≡ false → 17 ≡ find_number ws k bs
  unfolding find_number
  refused f = goes_on (asked_passed ws k d) (sym (fails _ _ _ f))

  accepted : is_policy ws bs ≡ true → 0 ≡ find_number ws k bs
  unfolding find_number
  accepted is = goes_on (asked_passed ws k d) (sym (passes _ _ _ is ∙ none _))

pub returns-in_err-cost-clause-number : goal.returns-in_err-cost-clause-number
returns-in_err-cost-clause-number c =
    let p = err_from_is_err_and c.from_residual-in_err-cost.result c.from_residual-in_err-cost.ensures.1 in
    let d = asked (goal.at.returns-in_err-cost-clause-number c).Else-n-eq0 in
    let r = refused _ _ _ d (no_plan _ _ c.judge.result c.judge.ensures.is (grind arith)) in
    rw (p.1, p.2, plan_is) r
  where
    plan_is : c.in_err-cost.field-0.0 ≡ Plan
    plan_is = grind arith

-- a number as the machine holds it
read : (z : ℤ) → nat_abs z ≤ 4000000000000000000 → to_z w64 (of_z w64 z) ≡ z
read z h = to_z-of_z {w = w64} (fits64 4000000000000000000 z h (lit< tt))

-- the slice is a plan
module _ (c : In_ok-cost) where
  abbrev ws : Words
  ws = c.args.b.now

  abbrev bs : Policy
  bs = c.args.plan.now

  -- the list as it stands in the arrays
  abbrev listing : Listing
  listing = record { n = c.fill-n.result; s = state_count ws; costs = c.fill-n.new.costs; plans = c.fill-n.new.plans }

  all_asked : Asked ws c.args.k
  all_asked = list_some ws c.args.k (counted_says _ _ (sym c.in_ok-counted_number.ensures)) c.fill-n.ensures.count c.if-n-eq0.false

  judged : (is_policy ws bs ≡ true) × (c.in_ok-cost.cost ≡ policy_cost ws bs)
  judged = a_plan ws bs c.judge.result c.in_ok-cost.cost c.judge.ensures.is c.judge.ensures.cost (grind arith)

  number_0 : 0 ≡ find_number ws c.args.k bs
  number_0 = accepted ws c.args.k bs all_asked judged.0

  some : 0 < listing.n
  some = omega (arith, c.if-n-eq0.false)

  t : T (is_policy ws bs)
  t = true-T judged.0

  fit : listing.n * length bs ≤ length listing.plans
  fit = plans_fit ws all_asked.ok c.args.k listing c.fill-n.ensures bs t

  is_listed : (j : ℕ) → j ≡ place_in (parts listing.plans (length bs) 0 listing.n) bs → j < listing.n → is_rank (j + 1) ≡ standing ws c.args.k bs
  is_listed j e l = rw add-one (sym (rank_says ws all_asked.ok c.args.k listing c.fill-n.ensures bs t j e l))

  -- the last listed ends within the array
  inside : ((listing.n - 1) * length bs + length bs ≤ length listing.plans) × ((listing.n - 1) * length bs ≤ 4096)
  inside = last-inside ws all_asked.ok c.args.k listing c.fill-n.ensures bs t some

  -- both costs are in range, so that the machine holds them
  abbrev last : ℤ
  last = get_or listing.costs (listing.n - 1) (pos 0)

  last-size : nat_abs last ≤ 4000000000000000000
  last-size = last_fits ws all_asked.ok c.args.k listing c.fill-n.ensures bs t some

  cost-size : nat_abs c.in_ok-cost.cost ≤ 4000000000000000000
  cost-size = rw judged.1 (cost-fits ws all_asked.ok bs t)

  asks : ((listing.n - 1) * length bs + length bs ≤ length listing.plans) × (length bs ≤ 64)
      × (nat_abs (to_z w64 (of_z w64 last)) ≤ 4000000000000000000) × (nat_abs (to_z w64 (of_z w64 c.in_ok-cost.cost)) ≤ 4000000000000000000)
  asks = (
    inside.0,
    plan_short ws all_asked.ok c.args.k listing c.fill-n.ensures bs t,
    rw (read last last-size) last-size,
    rw (read c.in_ok-cost.cost cost-size) cost-size,
  )

  not_listed : place_in (parts listing.plans (length bs) 0 listing.n) bs ≡ listing.n
      → beside_last (take (length bs) (drop ((listing.n - 1) * length bs) listing.plans)) (to_z w64 (of_z w64 last)) bs (to_z w64 (of_z w64 c.in_ok-cost.cost))
      ≡ standing ws c.args.k bs
  not_listed e =
      ap₂ (λ (x y : ℤ). beside_last (take (length bs) (drop ((listing.n - 1) * length bs) listing.plans)) x bs y)
      (read last last-size) (read c.in_ok-cost.cost cost-size ∙ judged.1)
      ∙ sym (beside_says ws all_asked.ok c.args.k listing c.fill-n.ensures bs t some (omega (arith, e)))

pub place_in-requires : goal.place_in-requires
place_in-requires c = fit (goal.at.place_in-requires c).In_ok-cost

pub returns-in-Some-clause-number : goal.returns-in-Some-clause-number
returns-in-Some-clause-number c = number_0 (goal.at.returns-in-Some-clause-number c).In_ok-cost

pub returns-in-Some-clause-answer : goal.returns-in-Some-clause-answer
returns-in-Some-clause-answer c = is_listed (goal.at.returns-in-Some-clause-answer c).In_ok-cost c.in-Some.j c.in-Some.ensures.0 c.in-Some.ensures.1

pub overflow_mul-n : goal.overflow_mul-n
overflow_mul-n c = omega (arith, (inside (goal.at.overflow_mul-n c).In_ok-cost).1)

pub beside_last-requires : goal.beside_last-requires
beside_last-requires c = asks (goal.at.beside_last-requires c).In_ok-cost

pub returns-clause-number : goal.returns-clause-number
returns-clause-number c = number_0 (goal.at.returns-clause-number c).In_ok-cost

pub returns-clause-answer : goal.returns-clause-answer
returns-clause-answer c = c.beside_last.ensures ∙ not_listed (goal.at.returns-clause-answer c).In_ok-cost c.in_default.ensures
