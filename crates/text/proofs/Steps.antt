-- What each function adds to the text.
-- Assumes nothing.
use mathlib.Core.Path.{◌≡◌, refl, sym, ap, ◌∙◌, subst}
use mathlib.Core.Bool.{true}
use mathlib.Core.List.{List, [], ◌∷◌, ◌++◌, append-nil}
use Prim.Native.Nat.{ℕ, ◌+◌, ◌≤◌, ◌<◌}
use native.Mathlib.Numerals.{add-one}
use native.Mathlib.Omega.{arith}
use borrow.Author.Tests.{ltb-true}
use lib.IntN.{ℤ, pos, negsuc, nat_abs}
use lib.Signed.{lt_z}
use lib.ListN.{length, take, get_or}
use lib.Seq.{take-suc}
use Rattle.model.specs.Lists.{for_each}
use Rattle.model.specs.Page.{decimal, signed_decimal, choice_text}
use Rattle.laws.specs.Joined.{for_each_++}
use Rattle.io.specs.Digits.{last_digits as spelt, IsDigitCount}
use Rattle.bytes_io.proofs.Parts.{written_none}
use Rattle.text.proofs.Digits.{spelled}
use Rattle.text.specs.Text.{Appended}

pub nothing : (o : List ℕ) (at : ℕ) → at ≤ length o → Appended o at [] o at
nothing o at h = record { end = omega arith; room = h; text = sym (written_none o at) }

pub below-zero : (x : ℤ) → lt_z x (pos 0) ≡ true → signed_decimal x ≡ (45 ∷ []) ++ decimal (nat_abs x)
below-zero (pos n) e = absurd (omega (arith, ltb-true n 0 e))
below-zero (negsuc n) e = refl

-- the digits that were spelt are the number's
pub number : {o o' : List ℕ} {at r : ℕ} (x n : ℕ) (buf : List ℕ) → n ≤ 20 → IsDigitCount 10 1 x n → take n buf ≡ spelt 10 n x
    → Appended o at (take n buf) o' r
    → Appended o at (decimal x) o' r
unfolding decimal
number {o} {o'} {at} {r} x n buf h few e a = subst (λ (t : List ℕ). Appended o at t o' r) (e ∙ sym (spelled n 20 x h few)) a

-- the choices up to the next state
pub one_more : (xs : List ℕ) (i : ℕ) → i < length xs → for_each choice_text (take (i + 1) xs)
    ≡ for_each choice_text (take i xs) ++ choice_text (get_or xs i 0)
one_more xs i h =
    ap (for_each choice_text) (ap (λ (n : ℕ). take n xs) (add-one i) ∙ take-suc xs i 0 h)
    ∙ for_each_++ choice_text (take i xs) (get_or xs i 0 ∷ []) ∙ ap (λ (t : List ℕ). for_each choice_text (take i xs) ++ t)
    (append-nil (choice_text (get_or xs i 0)))

-- a text that is another's
pub spoken : {o o' : List ℕ} {at r : ℕ} {t u : List ℕ} → t ≡ u → Appended o at t o' r → Appended o at u o' r
spoken {o} {o'} {at} {r} e a = subst (λ (t : List ℕ). Appended o at t o' r) e a
