-- Sequences of calls at a desk, granted and refused, openings among them.
-- Assumes nothing.
use Rattle.std.specs.Prelude.{◌≡◌, refl, Bool, List, [], ◌∷◌, ℕ, zero, suc, T}
use Rattle.std.proofs.Common.{sym}
use Rattle.model.specs.Calls.{if_accepted}
use Rattle.questions.specs.Answers.{gives}
use Rattle.reservation.specs.declared.Desk.{Desk}
use Rattle.reservation.specs.Reservations.{asking, committing, cancelling, opening}
use Rattle.desk_calls.specs.Calls.{Call, asks, commits, cancels, opens, answer_to, after, Granted, NoneGranted, next}

-- ---- one call

-- the desk afterwards is the next one or the same
pub one_call : (P : Desk → Type 0) (d : Desk) (c : Call) → P d → (Granted d c → P (next d c)) → P (answer_to d c).desk
unfolding asking committing cancelling opening
one_call P d c p granted = go c granted
  where
    by_number : (n : ℕ) (e : Desk) → (n ≡ 0 → P e) → P (if_accepted n e d)
    by_number zero e q = q refl
    by_number (suc n) e q = p

    go : (c : Call) → (Granted d c → P (next d c)) → P (answer_to d c).desk
    go (asks rider rank) q = by_number _ _ q
    go (commits rider) q = by_number _ _ q
    go (cancels rider) q = by_number _ _ q
    go (opens bytes) q = by_number _ _ q

pub granted_next : (d : Desk) (c : Call) → Granted d c → (answer_to d c).desk ≡ next d c
unfolding asking committing cancelling opening
granted_next d (asks rider rank) g = sym (gives g d refl)
granted_next d (commits rider) g = sym (gives g d refl)
granted_next d (cancels rider) g = sym (gives g d refl)
granted_next d (opens bytes) g = sym (gives g d refl)

-- "a refused one changes nothing", whichever call it is
pub refused_same : (d : Desk) (c : Call) → (Granted d c → ⊥) → (answer_to d c).desk ≡ d
refused_same d c h = one_call (λ (e : Desk). e ≡ d) d c refl (λ g. absurd (h g))

-- what holds of a desk and is kept by each granted call holds after any calls
pub every_call : (P : Desk → Type 0) → ((d : Desk) (c : Call) → P d → Granted d c → P (next d c)) → (d : Desk) (cs : List Call) → P d → P (after d cs)
every_call P keeps d [] p = p
every_call P keeps d (c ∷ cs) p = every_call P keeps (answer_to d c).desk cs (one_call P d c p (keeps d c p))

-- the same where no call of a kind is granted
pub every_other_call : (P : Desk → Type 0) (kind : Call → Bool) → ((d : Desk) (c : Call) → (T (kind c) → ⊥) → P d → Granted d c → P (next d c))
    → (d : Desk) (cs : List Call) → NoneGranted kind d cs → P d → P (after d cs)
every_other_call P kind keeps d [] none p = p
every_other_call P kind keeps d (c ∷ cs) none p =
    every_other_call P kind keeps (answer_to d c).desk cs none.1 (one_call P d c p (λ g. keeps d c (λ k. none.0 k g) p g))
