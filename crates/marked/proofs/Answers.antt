-- Request 2.10 in its reader's words: what each of the three answers says, that the answer given is true, and that no other is.
-- Assumes nothing.
use Rattle.std.specs.Prelude.{◌≡◌, Bool, true, false, ◌⊎◌, ◌↔◌, List, T}
use Rattle.std.proofs.Common.{sym, ap, ◌∙◌, subst, inl, inr, arith}
use Prim.Native.Nat.{ℕ, suc, ◌-◌, ◌≤◌, ◌<◌}
use Rattle.std.proofs.Math.Decide.{dec_lt}
use Rattle.std.proofs.Math.Numerals.{unary_clauses}
use borrow.Author.Tests.{lt-ltb, le-ltb}
use Rattle.std.proofs.Math.ListN.{length}
use Rattle.model.specs.Lists.{count}
use Rattle.model.specs.Model.{Words}
use Rattle.model.specs.Questions.{book_number}
use Rattle.model.specs.Policy.{Policy, is_policy, policies}
use Rattle.model.specs.Path.{Path, paths}
use Rattle.model.specs.Order.{comes_before, ranking}
use Rattle.model.specs.Limit.{Limit, marked_on, keeps_limit, Kept, kept_at, none_listed, none_in_book, above_kept, first_kept}
use Rattle.laws.specs.Members.{In, T_true, true-T}
use Rattle.laws.specs.Sorting.{at_in}
use Rattle.laws.specs.Entries.{where_at, where_above, where_inside}
use Rattle.accepted.specs.Demands.{in_list, above_all, list_length_lem, order_total, none-missing}
use Rattle.marked.specs.Kept.{Keeps, keeps_is, most_marked, within, one_has}
use Rattle.marked.specs.Answers.{KeptAt, NoneListed, Fits}

-- "makes more than m": a plan that does not keep the limit has a day that breaks it
pub breaks : (ws : Words) → book_number ws ≡ 0 → (limit : Limit) (bs : Policy) → (Keeps ws limit bs → ⊥)
    → (x : Path) × In x (paths ws bs) × (limit.most < marked_on ws limit.marks bs x)
breaks ws ok limit bs n = go (dec_lt limit.most (most_marked ws limit bs))
  where
    Breaks : Type 0
    Breaks = (x : Path) × In x (paths ws bs) × (limit.most < marked_on ws limit.marks bs x)

    go : Dec (limit.most < most_marked ws limit bs) → Breaks
    go (yes l) = let h = one_has ws limit bs ok in (h.0, h.1, omega (arith, h.2))
    go (no l) = absurd (n ((within ws limit bs).0 (omega arith)))

module _ (ws : Words) (ok : book_number ws ≡ 0) (K : ℕ) (limit : Limit) where
  abbrev R : List Policy
  R = ranking ws K

  abbrev test : Policy → Bool
  test = keeps_limit ws limit

  passes : (bs : Policy) → Keeps ws limit bs → test bs ≡ true
  passes bs h = T_true (test bs) ((keeps_is ws limit bs).1 h)

  fails : (bs : Policy) → test bs ≡ false → Keeps ws limit bs → ⊥
  fails bs e h = absurd (subst T e ((keeps_is ws limit bs).1 h))

  abbrev place : ℕ
  place = above_kept ws K limit

  -- the answer by the place of the first that keeps the limit
  rank_answer : place < length R → first_kept ws K limit ≡ kept_at (suc place)
  unfolding first_kept
  rank_answer l = rw (lt-ltb place (length R) l)

  list_answer : length R ≤ place → K ≤ length R → first_kept ws K limit ≡ none_listed
  unfolding first_kept
  list_answer l f = rw (le-ltb place (length R) l, le-ltb (length R) K f)

  book-answer : length R ≤ place → length R < K → first_kept ws K limit ≡ none_in_book
  unfolding first_kept
  book-answer l f = rw (le-ltb place (length R) l, lt-ltb (length R) K f)

  -- it stands there, and none above it does
  stands : place < length R → KeptAt ws K limit (suc place)
  unfolding above_kept
  stands l =
      let w = where_at test R l in
      record {
        plan = w.0;
        from_1 = omega arith;
        entry = simp unary_clauses w.1;
        keeps = (keeps_is ws limit w.0).0 (true-T w.2);
        first = λ i q h e. fails q (where_above test R i q (omega arith) e);
      }

  none_of_list : length R ≤ place → (q : Policy) → In q R → Keeps ws limit q → ⊥
  unfolding above_kept
  none_of_list l q i h = omega (arith, where_inside test R q i (passes q h))

  -- the answer that is given fits
  pub answer-true : Fits ws K limit (first_kept ws K limit)
  answer-true = go (dec_lt place (length R)) (dec_lt (length R) K)
    where
      go : Dec (place < length R) → Dec (length R < K) → Fits ws K limit (first_kept ws K limit)
      go (yes l) d = subst (Fits ws K limit) (sym (rank_answer l)) (stands l)
      go (no n) (yes f) =
          subst (Fits ws K limit) (sym (book-answer (omega arith) f))
          (record { short = omega (arith, f); none = λ q t. none_of_list (omega arith) q (none-missing ws ok K q f t) })
      go (no n) (no f) =
          subst (Fits ws K limit) (sym (list_answer (omega arith) (omega arith)))
          (record { full = omega (arith, list_length_lem ws ok K); none = none_of_list (omega arith) })

  -- where none of the list keeps the limit the place is after its end
  after-end : ((q : Policy) → In q R → Keeps ws limit q → ⊥) → length R ≤ place
  after-end n = go (dec_lt place (length R))
    where
      go : Dec (place < length R) → length R ≤ place
      go (yes l) = let s = stands l in absurd (n s.plan (at_in R (suc place - 1) s.plan s.entry) s.keeps)
      go (no m) = omega arith

  same_place : (j : ℕ) → KeptAt ws K limit j → (place < length R) × (suc place ≡ j)
  unfolding above_kept
  same_place j h =
      let l = where_inside test R h.plan (at_in R (j - 1) h.plan h.entry) (passes h.plan h.keeps) in
      (l, go l (dec_lt place (j - 1)) (dec_lt (j - 1) place))
    where
      go : place < length R → Dec (place < j - 1) → Dec (j - 1 < place) → suc place ≡ j
      go l (yes a) d = let s = stands l in absurd (h.first (suc place - 1) s.plan (omega arith) s.entry s.keeps)
      go l (no a) (yes b) = absurd (fails h.plan (where_above test R (j - 1) h.plan b h.entry) h.keeps)
      go l (no a) (no b) = omega (arith, h.from_1)

  no_other : (a : Kept) → Fits ws K limit a → a ≡ first_kept ws K limit
  no_other (kept_at j) h = let s = same_place j h in ap (λ (n : ℕ). kept_at n) (sym s.1) ∙ sym (rank_answer s.0)
  no_other none_listed h = sym (list_answer (after-end h.none) (omega (arith, h.full)))
  no_other none_in_book h = sym (book-answer (after-end (λ q i. h.none q ((in_list ws ok K q).0 i).0)) (omega (arith, h.short)))

  -- an answer is true exactly if it is the one given
  pub exactly_one : (a : Kept) → Fits ws K limit a ↔ (a ≡ first_kept ws K limit)
  exactly_one a = (no_other a, λ e. subst (Fits ws K limit) (sym e) answer-true)

  -- the plan of rank j is the best of all plans of the book that keep the limit, listed or not
  pub best_kept : (j : ℕ) (h : KeptAt ws K limit j) (q : Policy) → T (is_policy ws q) → Keeps ws limit q → (h.plan ≡ q → ⊥) → T (comes_before ws h.plan q)
  best_kept j h q t k n =
      let p = ((in_list ws ok K h.plan).0 (at_in R (j - 1) h.plan h.entry)).0 in
      go (order_total ws ok h.plan q p t n)
    where
      go : T (comes_before ws h.plan q) ⊎ T (comes_before ws q h.plan) → T (comes_before ws h.plan q)
      go (inl b) = b
      go (inr b) = let a = above_all ws ok K (j - 1) h.plan q h.entry t b in absurd (h.first a.0 q a.1 a.2 k)

  -- after "none in the list" a plan that keeps the limit has K plans or more before it
  pub none_before : NoneListed ws K limit → (q : Policy) → T (is_policy ws q) → Keeps ws limit q → K ≤ count (λ p. comes_before ws p q) (policies ws)
  none_before h q t k = go (dec_lt (count (λ p. comes_before ws p q) (policies ws)) K)
    where
      go : Dec (count (λ p. comes_before ws p q) (policies ws) < K) → K ≤ count (λ p. comes_before ws p q) (policies ws)
      go (yes l) = absurd (h.none q ((in_list ws ok K q).1 (t, l)) k)
      go (no n) = omega arith
