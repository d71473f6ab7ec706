-- When each call of the desk is refused, and when it is granted.
-- Assumes nothing.
use Rattle.std.specs.Prelude.{◌≡◌, refl, true, false, List, [], ◌∷◌, ℕ, ◌<◌, ◌≤◌, leb}
use Rattle.std.proofs.Common.{sym, ◌∙◌, arith, lt-ltb, le-ltb, le-leb, ne_eqb, ltb-true, leb-true, eqb-true}
use Rattle.std.proofs.lemmas.Bool.{lt-leb}
use Rattle.model.specs.Questions.{Question, first_no}
use Rattle.questions.specs.FirstNo.{fails, passes, none, passed, after}
use Rattle.questions.specs.Answers.{stops, leaves, gives}
use Rattle.questions.specs.Ranges.{and-true, and_right}
use Rattle.reservation.specs.declared.Desk.{Desk}
use Rattle.reservation.specs.Reservations.{riders, held_by, committed_by, free, is_rider, may_have, ask_questions, commit_questions, cancel_questions, reply, answer}

pub no_rider : (rider : ℕ) (qs : List (Question ℕ)) → riders ≤ rider → first_no (is_rider ∷ qs) rider ≡ 22
no_rider rider qs h = fails rider is_rider qs (le-ltb rider riders h)

-- the first number that each call asks for is its number, unless it is 0
pub stops_at_rider : (rider : ℕ) (qs : List (Question ℕ)) {n : ℕ} → n ≡ first_no cancel_questions rider → (n ≡ 0 → ⊥) → n ≡ first_no (is_rider ∷ qs) rider
stops_at_rider rider qs e h = stops e _ h ∙ sym (after rider cancel_questions qs (omega arith, tt))

module _ (rider : ℕ) (is : rider < riders) where
  a_rider : (qs : List (Question ℕ)) → first_no (is_rider ∷ qs) rider ≡ first_no qs rider
  a_rider qs = passes rider is_rider qs (lt-ltb rider riders is)

  pub may_cancel : first_no cancel_questions rider ≡ 0
  may_cancel = a_rider [] ∙ none rider

  module _ (d : Desk) where
    pub no_hold : held_by d rider ≡ 0 → first_no (commit_questions d) rider ≡ 24
    no_hold e = a_rider _ ∙ fails rider _ [] (rw e)

    pub may_commit : 1 ≤ held_by d rider → first_no (commit_questions d) rider ≡ 0
    may_commit h = a_rider _ ∙ passes rider _ [] (le-leb 1 _ h) ∙ none rider

    module _ (rank : ℕ) where
      pub no_rank : rank < 1 → first_no (ask_questions d rank) rider ≡ 23
      no_rank h = a_rider _ ∙ fails rider _ _ (rw (lt-leb 1 rank h))

      pub beyond_list : d.k < rank → first_no (ask_questions d rank) rider ≡ 23
      beyond_list h = a_rider _ ∙ fails rider _ _ (rw (lt-leb rank d.k h) (and_right (leb 1 rank)))

      module _ (first : 1 ≤ rank) (last : rank ≤ d.k) where
        a_rank : first_no (ask_questions d rank) rider ≡ first_no (may_have d rank ∷ []) rider
        a_rank = a_rider _ ∙ passes rider _ _ (rw (le-leb 1 rank first, le-leb rank d.k last))

        pub not_free : free d rider rank ≡ false → first_no (ask_questions d rank) rider ≡ 24
        not_free e = a_rank ∙ fails rider _ [] (rw e)

        pub has_committed : (committed_by d rider ≡ 0 → ⊥) → first_no (ask_questions d rank) rider ≡ 24
        has_committed h = a_rank ∙ fails rider _ [] (rw (ne_eqb (committed_by d rider) 0 h) (and_right (free d rider rank)))

        pub may_ask : free d rider rank ≡ true → committed_by d rider ≡ 0 → first_no (ask_questions d rank) rider ≡ 0
        may_ask e z = a_rank ∙ passes rider _ [] (rw (e, z)) ∙ none rider

-- ---- the answer of a call whose number n is `no`

module _ (d next : Desk) {n no : ℕ} (e : n ≡ no) where
  pub refused : (n ≡ 0 → ⊥) → reply n d ≡ answer no next d
  refused h i = reply (e i) (leaves e h next d i)

  pub granted : n ≡ 0 → reply n next ≡ answer no next d
  granted z i = reply (e i) (gives (sym e ∙ z) {x = next} d refl i)

-- ---- what a granted call says

-- of asking
pub record MayAsk (d : Desk) (rider rank : ℕ) : Type 0 where
  pub is : rider < riders
  pub first : 1 ≤ rank
  pub last : rank ≤ d.k
  pub free_of : free d rider rank ≡ true
  pub uncommitted : committed_by d rider ≡ 0

module _ (d : Desk) (rider : ℕ) where
  pub ask_says : (rank : ℕ) → first_no (ask_questions d rank) rider ≡ 0 → MayAsk d rider rank
  ask_says rank e =
      let yes = passed rider (ask_questions d rank) (omega arith, (omega arith, (omega arith, tt))) e in
      let l = and-true _ _ yes.1.0 in
      let f = and-true _ _ yes.1.1.0 in
      record {
        is = ltb-true rider riders yes.0;
        first = leb-true 1 rank l.0;
        last = leb-true rank d.k l.1;
        free_of = f.0;
        uncommitted = eqb-true (committed_by d rider) 0 f.1;
      }

  pub commit_says : first_no (commit_questions d) rider ≡ 0 → (rider < riders) × (1 ≤ held_by d rider)
  commit_says e =
      let yes = passed rider (commit_questions d) (omega arith, (omega arith, tt)) e in
      (ltb-true rider riders yes.0, leb-true 1 (held_by d rider) yes.1.0)

pub cancel_says : (rider : ℕ) → first_no cancel_questions rider ≡ 0 → rider < riders
cancel_says rider e = ltb-true rider riders (passed rider cancel_questions (omega arith, tt) e).0
