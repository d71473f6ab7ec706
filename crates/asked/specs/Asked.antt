-- What the questions 1 to 14 and 28 say of a book and a count.
-- Assumes nothing.
use Rattle.std.specs.Prelude.{◌≡◌, Bool, true, false, ◌↔◌, leb, length}
use Rattle.std.proofs.Math.Path.{refl}
use Rattle.std.proofs.Common.{sym, ap, ◌∙◌, arith}
use mathlib.Core.List.{List, []}
use Prim.Native.Nat.{ℕ, zero, suc, ◌≤◌}
use borrow.Author.Tests.{leb-true, le-leb}
use Rattle.model.specs.Model.{Words}
use Rattle.model.specs.Questions.{Question, first_no, and_then, book_number}
use Rattle.model.specs.Policy.{has_policy}
use Rattle.model.specs.Order.{ranking}
use Rattle.model.specs.Record.{count_questions, plan_questions, asked_number}
use Rattle.model.specs.Calls.{room_questions, rank_number, write_questions, write_number}
use Rattle.accepted.specs.Empty.{listed_none}
use Rattle.accepted.specs.Demands.{NoPolicy, no_policy, passes_28, refused_28}
use Rattle.questions.specs.Ranges.{and-true}
use Rattle.questions.specs.FirstNo.{Without, passed, passes, none, never, then_yes, then_zero}

module _ (ws : Words) (k : ℕ) where
  -- all of them are passed
  pub record Asked : Type 0 where
    pub ok : book_number ws ≡ 0
    pub low : 1 ≤ k
    pub high : k ≤ 64
    pub has : has_policy ws ≡ true

  pub asked_says : asked_number ws k ≡ 0 → Asked
  unfolding asked_number
  asked_says e =
      let t = then_zero (book_number ws) _ e in
      let u = then_zero (first_no count_questions k) _ t.1 in
      let y = and-true (leb 1 k) (leb k 64) (passed k count_questions (omega arith) u.0).0 in
      record { ok = t.0; low = leb-true 1 k y.0; high = leb-true k 64 y.1; has = (passed ws plan_questions (omega arith) u.1).0 }

  -- the number by the questions 1 to 14 alone
  unfoldable pub counted_number : ℕ
  counted_number = and_then (book_number ws) (first_no count_questions k)

  -- these are passed
  pub record Counted : Type 0 where
    pub ok : book_number ws ≡ 0
    pub low : 1 ≤ k
    pub high : k ≤ 64

  pub counted_says : counted_number ≡ 0 → Counted
  unfolding counted_number
  counted_says e =
      let t = then_zero (book_number ws) _ e in
      let y = and-true (leb 1 k) (leb k 64) (passed k count_questions (omega arith) t.1).0 in
      record { ok = t.0; low = leb-true 1 k y.0; high = leb-true k 64 y.1 }

  -- where one of them gives a number, 28 is not asked
  pub counted_stops : (counted_number ≡ 0 → ⊥) → counted_number ≡ asked_number ws k
  unfolding counted_number asked_number
  counted_stops = go (book_number ws) (first_no count_questions k) (first_no plan_questions ws)
    where
      go : (a b c : ℕ) → (and_then a b ≡ 0 → ⊥) → and_then a b ≡ and_then a (and_then b c)
      go zero zero c h = absurd (h refl)
      go zero (suc b) c h = refl
      go (suc a) b c h = refl

  -- the questions before 28 are passed: it alone decides
  pub asked-last : book_number ws ≡ 0 → 1 ≤ k → k ≤ 64 → asked_number ws k ≡ first_no plan_questions ws
  unfolding asked_number
  asked-last ok low high =
      then_yes (book_number ws) _ ok
      ∙ then_yes (first_no count_questions k) _ (passes k _ [] (rw (le-leb 1 k low, le-leb k 64 high)) ∙ none k)

  pub asked-none : Counted → has_policy ws ≡ false → asked_number ws k ≡ 28
  asked-none c e = asked-last c.ok c.low c.high ∙ (refused_28 ws c.ok).1 ((no_policy ws c.ok).0 e)

  -- 28 by the length of the list
  module _ (c : Counted) {n : ℕ} (e : n ≡ length (ranking ws k)) where
    pub list_none : n ≡ 0 → asked_number ws k ≡ 28
    list_none z = asked-none c ((listed_none ws c.ok k c.low).0 (sym e ∙ z))

    pub list_some : (n ≡ 0 → ⊥) → Asked
    list_some h = record { ok = c.ok; low = c.low; high = c.high; has = go (has_policy ws) refl }
      where
        go : (b : Bool) → has_policy ws ≡ b → has_policy ws ≡ true
        go true has = has
        go false has = absurd (h (e ∙ (listed_none ws c.ok k c.low).1 has))

  pub asked_passed : Asked → asked_number ws k ≡ 0
  asked_passed a = asked-last a.ok a.low a.high ∙ passes_28 ws a.ok a.has

  -- 28: "earlier questions passed, exactly if the book has no plan"
  module _ (ok : book_number ws ≡ 0) (low : 1 ≤ k) (high : k ≤ 64) where
    pub asked_28 : (asked_number ws k ≡ 28) ↔ NoPolicy ws
    asked_28 = rw (asked-last ok low high) (refused_28 ws ok)

    -- "before any slice or question 20": whatever questions come after it
    pub before_28 : {A : Type 0} (x : A) (qs : List (Question A)) → Without 28 qs → (and_then (asked_number ws k) (first_no qs x) ≡ 28) ↔ NoPolicy ws
    before_28 x qs others =
        (λ e. asked_28.0 (first (asked_number ws k) e), λ none. ap (λ (n : ℕ). and_then n (first_no qs x)) (asked_28.1 none))
      where
        first : (n : ℕ) → and_then n (first_no qs x) ≡ 28 → n ≡ 28
        first zero e = absurd (never x 28 (omega arith) qs others e)
        first (suc n) e = e

    pub rank_28 : (costs plans : ℕ) → (rank_number ws (record { k = k; costs = costs; plans = plans }) ≡ 28) ↔ NoPolicy ws
    unfolding rank_number
    rank_28 costs plans = before_28 (record { k = k; costs = costs; plans = plans }) (room_questions ws) (refl, (refl, tt))

    pub write_28 : (room : ℕ) → (write_number ws k room ≡ 28) ↔ NoPolicy ws
    unfolding write_number
    write_28 room = before_28 room (write_questions ws k) (refl, tt)
