-- Request 2.4 in the reader's words. A desk that is opened with an accepted record is `open_for k` with that record's k; a fresh one is `open_for 0`.
-- The laws are about that desk after any calls.
-- Assumes nothing.
use Rattle.std.specs.Prelude.{◌≡◌, refl, Bool, true, false, not, ◌||◌, List, ◌∷◌, ℕ, ◌<◌, ◌≤◌, T, eqb}
use Rattle.std.proofs.Common.{sym, subst, ◌∙◌, inl, inr, arith, eq-eqb, ne_eqb}
use Rattle.std.proofs.Math.Path.{ap}
use Rattle.std.proofs.Math.Decide.{dec_lt, ℕ_discrete}
use Rattle.std.proofs.Math.Dec.{eqb_refl}
use Rattle.questions.specs.Ranges.{all_yes}
use Rattle.model.specs.Questions.{first_no}
use Rattle.model.specs.Record.{accept_number}
use Rattle.model.specs.Calls.{accept_count}
use Rattle.reservation.specs.declared.Desk.{Desk}
use Rattle.reservation.specs.Reservations.{riders, held_by, committed_by, has, leaves, free, ask_questions, open_for, holding, taking, asking, committing, cancelling, opening}
use Rattle.reservation.specs.Numbers.{ask_says, commit_says, no_hold, may_cancel, may_ask, may_commit, no_rank, beyond_list}
use Rattle.desk_calls.specs.Calls.{Call, asks, commits, cancels, opens, answer_to, after, Granted, NoneGranted, is_opening, ends_hold, next}
use Rattle.desk_calls.proofs.Calls.{granted_next, one_call, every_call, every_other_call}
use Rattle.desk_calls.specs.Order.{With, Orderly, opened, stays_orderly, is_rider_lem, holds, others_hold, takes, others_take, with_no_other}

-- "The desk [..] opens with that record's k and nothing held or committed"
pub opens_with : (d : Desk) (bytes : List ℕ) → accept_number bytes ≡ 0 → (answer_to d (opens bytes)).desk ≡ open_for (accept_count bytes)
unfolding opening
opens_with d bytes e = granted_next d (opens bytes) e

-- so whatever desk it was, the laws below hold from there on
pub from_any_desk : (d : Desk) (bytes : List ℕ) → accept_number bytes ≡ 0 → (cs : List Call)
    → after d (opens bytes ∷ cs) ≡ after (open_for (accept_count bytes)) cs
from_any_desk d bytes e cs = ap (λ (x : Desk). after x cs) (opens_with d bytes e)

-- a rank that no other rider has is free
free_when : (d : Desk) (i rank : ℕ) → ((j : ℕ) → (j ≡ i → ⊥) → With d j rank → ⊥) → free d i rank ≡ true
unfolding free
free_when d i rank h = all_yes riders (leaves d i rank) (λ j l. go j (ℕ_discrete j i))
  where
    or-true : (b : Bool) {t : Bool} → t ≡ true → (b || t) ≡ true
    or-true true e = refl
    or-true false e = e

    go : (j : ℕ) → Dec (j ≡ i) → leaves d i rank j ≡ true
    go j (yes q) = or-true (not (has d j rank)) (eq-eqb j i q)
    go j (no ne) = rw (ne_eqb (held_by d j) rank (λ e. h j ne (inl e)), ne_eqb (committed_by d j) rank (λ e. h j ne (inr e)))

module _ (k : ℕ) (cs : List Call) where
  abbrev d : Desk
  d = after (open_for k) cs

  pub orderly : Orderly d
  orderly = every_call Orderly stays_orderly (open_for k) cs (opened k)

  -- "After any calls on an opened desk, no rank is held or committed for two riders."
  pub not_twice : (i j rank : ℕ) → 1 ≤ rank → With d i rank → With d j rank → i ≡ j
  not_twice = orderly.once

  -- "Asking holds a rank, 1 to k, for a rider"; "sixteen riders (0 to 15)"
  pub listed : (i rank : ℕ) → 1 ≤ rank → With d i rank → (i < riders) × (rank ≤ d.k)
  listed i rank h w = (is_rider_lem orderly i rank h w, orderly.within i rank h w)

  -- "committing makes it theirs and ends the hold": who has committed holds nothing, and cannot commit again
  pub commits_once : (i : ℕ) → 1 ≤ committed_by d i → (held_by d i ≡ 0) × ((answer_to d (commits i)).no ≡ 24)
  unfolding committing
  commits_once i h = let e = orderly.either i h in (e, no_hold i (is_rider_lem orderly i (committed_by d i) h (inr refl)) d e)

  -- an ask is granted exactly if rider and rank are there, no other rider has the rank, and the asker has not committed
  pub record May (i rank : ℕ) : Type 0 where
    pub is : i < riders
    pub first : 1 ≤ rank
    pub last : rank ≤ d.k
    pub with_none : (j : ℕ) → (j ≡ i → ⊥) → With d j rank → ⊥
    pub uncommitted : committed_by d i ≡ 0

  pub granted : (i rank : ℕ) → May i rank → Granted d (asks i rank)
  unfolding asking
  granted i rank m = may_ask i m.is d rank m.first m.last (free_when d i rank m.with_none) m.uncommitted

  pub granted_only : (i rank : ℕ) → Granted d (asks i rank) → May i rank
  unfolding asking
  granted_only i rank g =
      let m = ask_says d i rank g in
      record {
        is = m.is;
        first = m.first;
        last = m.last;
        with_none = with_no_other orderly i rank m.first m.free_of;
        uncommitted = m.uncommitted;
      }

  -- who holds a rank has not committed
  holder : (i : ℕ) → 1 ≤ held_by d i → committed_by d i ≡ 0
  holder i h = go (dec_lt 0 (committed_by d i))
    where
      go : Dec (0 < committed_by d i) → committed_by d i ≡ 0
      go (yes l) = absurd (omega (arith, orderly.either i l))
      go (no l) = omega arith

  -- a rider may ask again for the rank that they hold
  pub again : (i : ℕ) → 1 ≤ held_by d i → Granted d (asks i (held_by d i))
  again i h =
      let l = listed i (held_by d i) h (inl refl) in
      granted i (held_by d i) record {
        is = l.0;
        first = h;
        last = l.1;
        with_none = λ j ne w. ne (not_twice j i (held_by d i) h w (inl refl));
        uncommitted = holder i h;
      }

  -- "A rider whose ask was granted, and who hasn't cancelled, committed or been granted another since, can commit, whatever others did, until the desk is
  -- opened anew": and the rank asked for is then theirs
  module _ (i rank : ℕ) (g : Granted d (asks i rank)) (more : List Call) (none : NoneGranted (ends_hold i) (answer_to d (asks i rank)).desk more) where
    abbrev e : Desk
    e = after d (asks i rank ∷ more)

    still_orderly : Orderly e
    still_orderly = every_call Orderly stays_orderly d (asks i rank ∷ more) orderly

    still_held : held_by e i ≡ rank
    still_held =
        every_other_call (λ (x : Desk). held_by x i ≡ rank) (ends_hold i) keeps (answer_to d (asks i rank)).desk more none
        (ap (λ (x : Desk). held_by x i) (granted_next d (asks i rank) g) ∙ holds orderly i (granted_only i rank g).is rank i refl)
      where
        another : (j : ℕ) → (T (eqb j i) → ⊥) → i ≡ j → ⊥
        another j h q = h (subst (λ (x : ℕ). T (eqb x i)) q (eqb_refl i))

        keeps : (x : Desk) (c : Call) → (T (ends_hold i c) → ⊥) → held_by x i ≡ rank → Granted x c → held_by (next x c) i ≡ rank
        keeps x (asks j r) h p q = others_hold x j i (another j h) r ∙ p
        keeps x (commits j) h p q = others_hold x j i (another j h) 0 ∙ p
        keeps x (cancels j) h p q = others_hold x j i (another j h) 0 ∙ p
        keeps x (opens bytes) h p q = absurd (h tt)

    pub can_commit : Granted e (commits i)
    unfolding committing
    can_commit = may_commit i (granted_only i rank g).is e (omega (arith, still_held, (granted_only i rank g).first))

    pub theirs : committed_by (answer_to e (commits i)).desk i ≡ rank
    theirs =
        ap (λ (x : Desk). committed_by x i) (granted_next e (commits i) can_commit) ∙ takes still_orderly i (granted_only i rank g).is i refl
        ∙ still_held

  -- a commitment never goes, "until the desk is opened anew"
  pub commitment_stays : (i : ℕ) → 1 ≤ committed_by d i → (more : List Call) → NoneGranted is_opening d more
      → committed_by (after d more) i ≡ committed_by d i
  unfolding committing
  commitment_stays i h more none =
      (every_other_call (λ (x : Desk). Orderly x × (committed_by x i ≡ committed_by d i)) is_opening keeps d more none (orderly, refl)).1
    where
      take : (x : Desk) (j : ℕ) → Orderly x → committed_by x i ≡ committed_by d i → Granted x (commits j) → Dec (i ≡ j)
          → committed_by (taking x j) i ≡ committed_by d i
      take x j o p g (yes q) = absurd (omega (arith, (commit_says x j g).1, o.either i (omega (arith, p)), ap (held_by x) q))
      take x j o p g (no ne) = others_take x j i ne ∙ p

      keeps : (x : Desk) (c : Call) → (T (is_opening c) → ⊥) → Orderly x × (committed_by x i ≡ committed_by d i) → Granted x c
          → Orderly (next x c) × (committed_by (next x c) i ≡ committed_by d i)
      keeps x (asks j r) n p g = (stays_orderly x (asks j r) p.0 g, p.1)
      keeps x (commits j) n p g = (stays_orderly x (commits j) p.0 g, take x j p.0 p.1 g (ℕ_discrete i j))
      keeps x (cancels j) n p g = (stays_orderly x (cancels j) p.0 g, p.1)
      keeps x (opens bytes) n p g = absurd (n tt)

  -- "a dropped rank is free again": whoever has not committed may have it
  module _ (i j : ℕ) (h : 1 ≤ held_by d i) (is : j < riders) (uncommitted : committed_by d j ≡ 0) where
    freed : (r : ℕ) → (held_by d i ≡ r → ⊥) → first_no (ask_questions (holding d i r) (held_by d i)) j ≡ 0
    freed r ne =
        may_ask j is (holding d i r) (held_by d i) h (listed i (held_by d i) h (inl refl)).1
        (free_when (holding d i r) j (held_by d i) (λ a _. gone a (ℕ_discrete a i))) uncommitted
      where
        gone : (a : ℕ) → Dec (a ≡ i) → With (holding d i r) a (held_by d i) → ⊥
        gone a (yes q) (inl e) = ne (sym e ∙ holds orderly i (listed i (held_by d i) h (inl refl)).0 r a q)
        gone a (yes q) (inr e) = omega (arith, e, ap (committed_by d) q, holder i h)
        gone a (no n) (inl e) = n (not_twice a i (held_by d i) h (inl (sym (others_hold d i a n r) ∙ e)) (inl refl))
        gone a (no n) (inr e) = n (not_twice a i (held_by d i) h (inr e) (inl refl))

    pub free-after_cancel : Granted (answer_to d (cancels i)).desk (asks j (held_by d i))
    unfolding asking cancelling
    free-after_cancel =
        ap (λ (x : Desk). first_no (ask_questions x (held_by d i)) j) (granted_next d (cancels i) (may_cancel i (listed i (held_by d i) h (inl refl)).0))
        ∙ freed 0 (λ e. omega arith)

    pub free-after_ask : (rank : ℕ) → (held_by d i ≡ rank → ⊥) → Granted d (asks i rank)
        → Granted (answer_to d (asks i rank)).desk (asks j (held_by d i))
    unfolding asking
    free-after_ask rank ne g = ap (λ (x : Desk). first_no (ask_questions x (held_by d i)) j) (granted_next d (asks i rank) g) ∙ freed rank ne

-- "Cancelling drops a hold, if any, and never a commitment": of any desk
pub cancel_keeps : (d : Desk) (i : ℕ) → (answer_to d (cancels i)).desk.committed ≡ d.committed
cancel_keeps d i = one_call (λ (x : Desk). x.committed ≡ d.committed) d (cancels i) refl (λ g. refl)

-- a desk keeps its k until it is opened anew
pub k_stays : (d : Desk) (cs : List Call) → NoneGranted is_opening d cs → (after d cs).k ≡ d.k
k_stays d cs none = every_other_call (λ (x : Desk). x.k ≡ d.k) is_opening keeps d cs none refl
  where
    keeps : (x : Desk) (c : Call) → (T (is_opening c) → ⊥) → x.k ≡ d.k → Granted x c → (next x c).k ≡ d.k
    keeps x (asks j r) n p g = p
    keeps x (commits j) n p g = p
    keeps x (cancels j) n p g = p
    keeps x (opens bytes) n p g = absurd (n tt)

-- at a desk that was never opened nothing is listed
pub never_opened : (cs : List Call) → NoneGranted is_opening (open_for 0) cs → (i rank : ℕ) → i < riders
    → (answer_to (after (open_for 0) cs) (asks i rank)).no ≡ 23
unfolding asking
never_opened cs none i rank is = go (dec_lt rank 1)
  where
    go : Dec (rank < 1) → first_no (ask_questions (after (open_for 0) cs) rank) i ≡ 23
    go (yes l) = no_rank i is (after (open_for 0) cs) rank l
    go (no l) = beyond_list i is (after (open_for 0) cs) rank (omega (arith, k_stays (open_for 0) cs none))
