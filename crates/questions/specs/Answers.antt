-- The answer of a call: its number, and what goes with it. "A refusal carries its number and 0 for every other figure, and writes no byte."
-- In each law n is the number that the code gives, and `no` the one that the questions give. A figure may be of any type, a lent slice's list too.
-- Assumes nothing.
use Rattle.std.specs.Prelude.{◌≡◌, refl, ℕ, zero, suc}
use Rattle.std.proofs.Common.{sym, ◌∙◌}
use Rattle.model.specs.Questions.{and_then}
use Rattle.model.specs.Calls.{if_accepted}
use Rattle.questions.specs.FirstNo.{then_no}

module _ {n no : ℕ} (e : n ≡ no) where
  -- a run of questions that gives a number is the last that is asked
  pub stops : (m : ℕ) → (n ≡ 0 → ⊥) → n ≡ and_then no m
  stops m h = e ∙ sym (then_no no m (λ z. h (e ∙ z)))

  -- a refusal: a figure is 0, and a slice is as before
  pub leaves : (n ≡ 0 → ⊥) → {A : Type 0} (a b : A) → b ≡ if_accepted no a b
  leaves h a b = go no (λ z. h (e ∙ z))
    where
      go : (m : ℕ) → (m ≡ 0 → ⊥) → b ≡ if_accepted m a b
      go zero r = absurd (r refl)
      go (suc m) r = refl

module _ {no : ℕ} (ok : no ≡ 0) where
  -- a run that gives none leads to the next
  pub goes_on : {n m : ℕ} → n ≡ m → n ≡ and_then no m
  goes_on e = rw (ok, e)

  -- success: a figure is the one that is asked for, and a slice has its front written
  pub gives : {A : Type 0} {x a : A} (b : A) → x ≡ a → x ≡ if_accepted no a b
  gives b e = rw (ok, e)
