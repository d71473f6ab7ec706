-- The questions in order, then the answer by the list in the arrays. A list of no policy is question 28.
-- Assumes nothing.
use mathlib.Core.Path.{◌≡◌, refl, sym, ◌∙◌}
use mathlib.Core.Bool.{true, false}
use Prim.Native.Nat.{ℕ, ◌+◌, ◌<◌}
use native.Mathlib.Numerals.{add-one}
use native.Mathlib.Omega.{arith}
use Rattle.std.proofs.lemmas.Result.{err_from_is_err_and}
use Rattle.refusal.specs.Refusal.{some_number}
use Rattle.model.specs.Lists.{first_where}
use Rattle.model.specs.Model.{Words, state_count}
use Rattle.model.specs.Limit.{Limit, limit_of, limit_allowed, keeps_limit, kept_at, first_kept}
use Rattle.model.specs.Calls.{limit_number}
use Rattle.laws.specs.Members.{true-T}
use Rattle.questions.specs.FirstNo.{fails, passes, none}
use Rattle.questions.specs.Answers.{stops, goes_on}
use Rattle.asked.specs.Asked.{Asked, Counted, counted_says, counted_stops, list_none, list_some, asked_passed}
use Rattle.record.specs.declared.Listing.{Listing}
use Rattle.record.specs.Parts.{parts}
use Rattle.marks.specs.Allowed.{allowed_is}
use Rattle.limit.specs.Says.{none_of}
use Rattle.limit.proofs.Says.{rank_says, none_says}
use Rattle.limit.proofs.limit.Goals as goal
use Rattle.limit.proofs.limit.Goals.{In_ok-counted_number, Else-n-eq0, Else-not-allowed}

pub returns-in_err-counted_number-clause-number : goal.returns-in_err-counted_number-clause-number
unfolding limit_number
returns-in_err-counted_number-clause-number c =
    let p = err_from_is_err_and c.from_residual.result c.from_residual.ensures.1 in
    let q = c.in_err-counted_number.field-0.0 in
    let e = c.in_err-counted_number.ensures in
    rw (p.1, p.2) (stops (e ∙ counted_stops _ _ (λ z. some_number q (e ∙ z))) _ (some_number q))

-- the questions 1 to 14 are answered yes
counted : (c : In_ok-counted_number) → Counted c.args.b.now c.args.k
counted c = counted_says _ _ (sym c.in_ok-counted_number.ensures)

pub sizes-z-requires : goal.sizes-z-requires
sizes-z-requires c = (counted (goal.at.sizes-z-requires c).In_ok-counted_number).ok

pub fill_by-n-requires : goal.fill_by-n-requires
fill_by-n-requires c = (counted (goal.at.fill_by-n-requires c).In_ok-counted_number, c.index-x.ensures, refl, refl)

pub returns-then-n-eq0-clause-number : goal.returns-then-n-eq0-clause-number
unfolding limit_number
returns-then-n-eq0-clause-number c =
    let d = counted (goal.at.returns-then-n-eq0-clause-number c).In_ok-counted_number in
    stops (sym (list_none _ _ d c.fill_by-n.ensures.count c.if-n-eq0.true)) _ (omega arith)

-- some policy is listed
asked : (c : Else-n-eq0) → Asked c.args.b.now c.args.k
asked c = list_some _ _ (counted_says _ _ (sym c.in_ok-counted_number.ensures)) c.fill_by-n.ensures.count c.if-n-eq0.false

-- 29 by whether the marks and m are allowed
module _ (ws : Words) (k : ℕ) (limit : Limit) (d : Asked ws k) where
  refused : limit_allowed ws limit ≡ false → 29 ≡ limit_number ws k limit
  unfolding limit_number
  refused f = goes_on (asked_passed ws k d) (sym (fails _ _ _ f))

  accepted : limit_allowed ws limit ≡ true → 0 ≡ limit_number ws k limit
  unfolding limit_number
  accepted is = goes_on (asked_passed ws k d) (sym (passes _ _ _ is ∙ none _))

pub returns-then-not-allowed-clause-number : goal.returns-then-not-allowed-clause-number
returns-then-not-allowed-clause-number c =
    refused _ _ _ (asked (goal.at.returns-then-not-allowed-clause-number c).Else-n-eq0) (sym c.allowed.ensures ∙ c.if-not-allowed.true)

-- the marks and m are allowed
module _ (c : Else-not-allowed) where
  abbrev ws : Words
  ws = c.args.b.now

  abbrev limit : Limit
  limit = limit_of c.args.marks.now c.args.m

  -- the list as it stands in the arrays
  abbrev listing : Listing
  listing = record { n = c.fill_by-n.result; s = state_count ws; costs = c.fill_by-n.new.costs; plans = c.fill_by-n.new.plans }

  all_asked : Asked ws c.args.k
  all_asked = list_some ws c.args.k (counted_says _ _ (sym c.in_ok-counted_number.ensures)) c.fill_by-n.ensures.count c.if-n-eq0.false

  is_allowed : limit_allowed ws limit ≡ true
  is_allowed = sym c.allowed.ensures ∙ c.if-not-allowed.false

  number_0 : 0 ≡ limit_number ws c.args.k limit
  number_0 = accepted ws c.args.k limit all_asked is_allowed

  abbrev above : ℕ
  above = first_where (keeps_limit ws limit) (parts listing.plans (state_count ws) 0 listing.n)

  is_kept : (j : ℕ) → j ≡ above → j < listing.n → kept_at (j + 1) ≡ first_kept ws c.args.k limit
  is_kept j e l = rw add-one (sym (rank_says ws all_asked.ok c.args.k listing c.fill_by-n.ensures limit j e l))

  none_is : above ≡ listing.n → none_of listing.n c.args.k ≡ first_kept ws c.args.k limit
  none_is e = none_says ws all_asked.ok c.args.k listing c.fill_by-n.ensures limit (omega (arith, e))

pub above_kept-requires : goal.above_kept-requires
above_kept-requires c =
    let is = is_allowed (goal.at.above_kept-requires c).Else-not-allowed in
    (c.index-x.ensures, ((allowed_is _ (limit_of c.args.marks.now c.args.m)).0 (true-T is)).marks_are, c.fill_by-n.ensures.held.plans_long)

pub returns-in-Some-clause-number : goal.returns-in-Some-clause-number
returns-in-Some-clause-number c = number_0 (goal.at.returns-in-Some-clause-number c).Else-not-allowed

pub returns-in-Some-clause-answer : goal.returns-in-Some-clause-answer
returns-in-Some-clause-answer c =
    is_kept (goal.at.returns-in-Some-clause-answer c).Else-not-allowed c.in-Some.j c.in-Some.ensures.0 c.in-Some.ensures.1

pub returns-clause-number : goal.returns-clause-number
returns-clause-number c = number_0 (goal.at.returns-clause-number c).Else-not-allowed

pub returns-clause-answer : goal.returns-clause-answer
returns-clause-answer c = c.none_kept.ensures ∙ none_is (goal.at.returns-clause-answer c).Else-not-allowed c.in_default.ensures
