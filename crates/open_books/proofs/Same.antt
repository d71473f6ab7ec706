-- A book without the mark gives the same numbers, list and record by the rules before request 2.7; what they accept is accepted, with the same answers.
-- Assumes nothing.
use Rattle.std.specs.Prelude.{◌≡◌, Bool, true, false, ◌&&◌, ◌||◌, ◌↔◌, List, [], ◌∷◌, map, eqb, ℤ, pos, negsuc, nat_abs, length, drop}
use Rattle.std.proofs.Math.Path.{refl, sym, ap₂}
use Rattle.std.proofs.Common.{ap, ◌∙◌, subst, arith, leb-true, ne_eqb}
use Rattle.std.proofs.Math.Bool.{cond}
use Prim.Native.Nat.{ℕ, zero, suc, ◌<◌, max}
use Rattle.model.specs.Lists.{max_to, same}
use Rattle.model.specs.Model.{Words, state_count, action_count, right, action_line, read_action, action, closed_mark, closed, options}
use Rattle.model.specs.Questions.{first_no, and_then, inside, every_action, cost_allowed, largest_cost, costs_bounded}
use Rattle.model.specs.Questions.{size_questions, action_questions, book_number}
use Rattle.model.specs.Policy.{Policy, is_policy, policies, has_policy}
use Rattle.model.specs.Order.{ranking, ranking_costs}
use Rattle.model.specs.Record.{list_bytes, record_bytes, carried_k, carried_count, carried_book, list_start, count_questions, plan_questions}
use Rattle.model.specs.Record.{head_questions, tail_questions, asked_number, accept_number}
use Rattle.model.specs.Calls.{policy_questions, value_number, least_number, least_cost}
use Rattle.laws.specs.Members.{In, same_test}
use Rattle.laws.specs.Policies.{fits_is, policy_in, in_policy, policies-same as same-policies}
use Rattle.questions.specs.FirstNo.{AllYes, passed, both_zero, rest-same, answers_same, then_zero}
use Rattle.accepted.specs.Facts.{each_action, every-same}
use Rattle.accepted.specs.Shape.{action_is, policy_is}
use Rattle.accepted.specs.Demands.{passes_28}
use Rattle.open_books.specs.Open.{AllOpen}
use Rattle.open_books.proofs.Open.{options-all, open_policy}
use Rattle.open_books.specs.Former.{former_cost, former_largest, former_bounded, former_question, former_number, former_asked, former_options}
use Rattle.open_books.specs.Former.{former_plan, former_policies, former_value_number, former_ranking, former_costs, former_least, former_list}
use Rattle.open_books.specs.Former.{former_record, former_tail, former_accept_number}
use Rattle.open_books.specs.Same.{Unchanged}

max-same : (n : ℕ) (f g : ℕ → ℕ) → ((i : ℕ) → i < n → f i ≡ g i) → max_to n f ≡ max_to n g
max-same zero f g h = refl
max-same (suc n) f g h = ap₂ max (max-same n f g (λ i l. h i (omega arith))) (h n (omega arith))

cost_is : (ws : Words) (p c : ℕ) → p < state_count ws → c < action_count ws p → (action ws p c).cost ≡ right ws (action_line ws p c)
unfolding read_action
cost_is ws p c l k = rw (action_is ws p c l k)

-- ---- a book without the mark

module _ (ws : Words) (opened : AllOpen ws) where
  line_open : (p c : ℕ) → p < state_count ws → c < action_count ws p → closed (right ws (action_line ws p c)) ≡ false
  line_open p c l k = rw (← cost_is ws p c l k) (opened p c l k)

  -- 10 and 13
  costs-same : every_action former_cost ws ≡ every_action cost_allowed ws
  unfolding former_cost cost_allowed
  costs-same =
      every-same ws former_cost cost_allowed
      (λ p c l k. sym (ap (λ (b : Bool). b || inside (negsuc 99999) (pos 100000) (right ws (action_line ws p c))) (line_open p c l k)))

  largest_same : former_largest ws ≡ largest_cost ws
  unfolding former_largest largest_cost
  largest_same =
      max-same (state_count ws) _ _
      (λ p l. max-same (action_count ws p) _ _
      (λ c k. sym (ap (λ (b : Bool). cond b 0 (nat_abs (right ws (action_line ws p c)))) (line_open p c l k))))

  bounded_same : former_bounded ws ≡ costs_bounded ws
  unfolding former_bounded costs_bounded
  bounded_same = rw largest_same

  number_same : former_number ws ≡ book_number ws
  unfolding former_number book_number
  number_same =
      rest-same ws size_questions (omega arith) (map former_question action_questions) action_questions
      (λ passed. answers_same ws former_question action_questions
      (refl, refl, (refl, refl, (refl, costs-same, (refl, refl, (refl, refl, (refl, bounded_same, tt)))))))

  -- ---- the policies

  policies-same : former_policies ws ≡ policies ws
  unfolding former_policies policies
  policies-same =
      same-policies (action ws) (action ws) (λ p c. refl) (options ws) (former_options ws) (state_count ws) 0 (0 ∷ [])
      (λ q l. sym (options-all ws opened q (omega arith)))

  plan_same : (bs : Policy) → former_plan ws bs ≡ is_policy ws bs
  unfolding former_plan former_policies policies
  plan_same bs =
      same_test (former_plan ws bs) (is_policy ws bs)
      (λ t. (policy_is ws bs).1
      (in_policy (action ws) (options ws) S 0 (0 ∷ []) bs
      (subst (In bs) policies-same
      (policy_in (action ws) (former_options ws) S 0 (0 ∷ []) bs ((fits_is (action ws) (former_options ws) S 0 (0 ∷ []) bs).0 t)))))
      (λ t. (fits_is (action ws) (former_options ws) S 0 (0 ∷ []) bs).1
      (in_policy (action ws) (former_options ws) S 0 (0 ∷ []) bs
      (subst (In bs) (sym policies-same)
      (policy_in (action ws) (options ws) S 0 (0 ∷ []) bs ((policy_is ws bs).0 t)))))
    where
      S : ℕ
      S = state_count ws

  -- ---- the numbers

  -- 28 is passed where it is asked
  plan_passed : book_number ws ≡ 0 → first_no plan_questions ws ≡ 0
  plan_passed ok = passes_28 ws ok (open_policy ws ok opened)

  asked-same : (k : ℕ) → former_asked ws k ≡ asked_number ws k
  unfolding former_asked asked_number
  asked-same k = rw number_same (go (book_number ws) refl (first_no count_questions k))
    where
      last : (m : ℕ) → m ≡ and_then m 0
      last zero = refl
      last (suc m) = refl

      go : (n : ℕ) → book_number ws ≡ n → (m : ℕ) → and_then n m ≡ and_then n (and_then m (first_no plan_questions ws))
      go zero e m = rw (plan_passed e) (last m)
      go (suc n) e m = refl

  least-number-same : former_number ws ≡ least_number ws
  unfolding least_number
  least-number-same = rw number_same (go (book_number ws) refl)
    where
      go : (n : ℕ) → book_number ws ≡ n → n ≡ and_then n (first_no plan_questions ws)
      go zero e = sym (plan_passed e)
      go (suc n) e = refl

  value_same : (bs : Policy) → former_value_number ws bs ≡ value_number ws bs
  unfolding former_value_number value_number
  value_same bs =
      ap₂ and_then number_same
      (answers_same bs (λ q. record { number = 17; asks = former_plan ws }) (policy_questions ws) (refl, plan_same bs, tt))

  -- ---- the list and the record

  list_same : (k : ℕ) → former_ranking ws k ≡ ranking ws k
  unfolding former_ranking ranking
  list_same k = rw policies-same

  list_costs-same : (k : ℕ) → former_costs ws k ≡ ranking_costs ws k
  unfolding former_costs ranking_costs
  list_costs-same k = rw (list_same k)

  least-same : former_least ws ≡ least_cost ws
  unfolding former_least least_cost
  least-same = rw (least-number-same, list_costs-same 1)

  list_bytes-same : (k : ℕ) → former_list ws k ≡ list_bytes ws k
  unfolding former_list list_bytes
  list_bytes-same k = rw (list_same k, list_costs-same k)

  record_same : (k : ℕ) → former_record ws k ≡ record_bytes ws k
  unfolding former_record record_bytes
  record_same k = rw (list_same k, list_bytes-same k)

-- ---- filed records

module _ (bs : List ℕ) where
  pub accept_same : AllOpen (carried_book bs) → former_accept_number bs ≡ accept_number bs
  unfolding former_accept_number accept_number
  accept_same opened =
      ap₂ (λ (n m : ℕ). and_then (first_no head_questions bs) (and_then n m)) (asked-same ws opened k)
      (answers_same bs former_tail tail_questions (refl, refl, (refl, ranked, tt)))
    where
      ws : Words
      ws = carried_book bs

      k : ℕ
      k = carried_k bs

      ranked : (eqb (carried_count bs) (length (former_ranking ws k)) && same (drop (list_start bs) bs) (former_list ws k))
          ≡ (eqb (carried_count bs) (length (ranking ws k)) && same (drop (list_start bs) bs) (list_bytes ws k))
      ranked = rw (list_same ws opened k, list_bytes-same ws opened k)

-- ---- what the rules before the request accept

-- a cost within their limits is not the mark
within_open : (z : ℤ) → inside (negsuc 99999) (pos 100000) z ≡ true → closed z ≡ false
within_open (pos n) e = ne_eqb n closed_mark (λ h. omega (arith, leb-true n 100000 e))
within_open (negsuc n) e = refl

-- "costs from -100,000 to 100,000": a book that they accept has no mark
pub former_open : (ws : Words) → former_number ws ≡ 0 → AllOpen ws
unfolding former_number former_cost
former_open ws ok p c l k =
    rw (cost_is ws p c l k) (within_open (right ws (action_line ws p c)) (each_action former_cost ws answers.1.1.0 p c l k))
  where
    answers : AllYes (map former_question action_questions) ws
    answers =
        passed ws (map former_question action_questions) (omega arith)
        (both_zero ws size_questions (omega arith) (map former_question action_questions) ok).1

-- so the books that they accept are the accepted ones without the mark
pub accepts_exactly : (ws : Words) → (former_number ws ≡ 0) ↔ ((book_number ws ≡ 0) × AllOpen ws)
accepts_exactly ws = (
  λ ok. let opened = former_open ws ok in (sym (number_same ws opened) ∙ ok, opened),
  λ h. number_same ws h.1 ∙ h.0,
)

-- a book without the mark gives the same numbers, list and record; that it has a plan is `open_policy`
pub unchanged : (ws : Words) → AllOpen ws → Unchanged ws
unchanged ws opened = record {
  number = number_same ws opened;
  asked = asked-same ws opened;
  value_number_lem = value_same ws opened;
  least-number = least-number-same ws opened;
  least = least-same ws opened;
  plans = policies-same ws opened;
  list = list_same ws opened;
  costs = list_costs-same ws opened;
  bytes = record_same ws opened;
}

-- each is accepted, with a policy and the same answers
pub still_accepted : (ws : Words) → former_number ws ≡ 0 → (book_number ws ≡ 0) × (has_policy ws ≡ true) × Unchanged ws
still_accepted ws before =
    let h = (accepts_exactly ws).0 before in
    (h.0, open_policy ws h.0 h.1, unchanged ws h.1)

-- and so is every record
pub record_accepted : (bs : List ℕ) → former_accept_number bs ≡ 0 → accept_number bs ≡ 0
unfolding former_accept_number former_asked
record_accepted bs before =
    let a = then_zero (first_no head_questions bs) _ before in
    let b = then_zero (former_asked (carried_book bs) (carried_k bs)) _ a.1 in
    let c = then_zero (former_number (carried_book bs)) _ b.0 in
    sym (accept_same bs (former_open (carried_book bs) c.0)) ∙ before
