-- Text that is written at an index of a slice.
-- Assumes nothing.
use Rattle.std.specs.Prelude.{◌≡◌, refl, List, [], ◌∷◌, ◌++◌, ℕ, ◌+◌, ◌≤◌, ℤ, length}
use Rattle.std.proofs.Common.{ap, ◌∙◌, arith, length-append}
use Rattle.model.specs.Lists.{for_each}
use Rattle.model.specs.Policy.{Policy}
use Rattle.model.specs.Page.{decimal, signed_decimal, choice_text}
use Rattle.bytes_io.specs.Slices.{written}
use Rattle.bytes_io.proofs.Parts.{length-written, written_join}

-- the slice o' is o with the text t from index `at` on, which lies in it, and r is the index after the text
pub record Appended (o : List ℕ) (at : ℕ) (t o' : List ℕ) (r : ℕ) : Type 0 where
  pub end : r ≡ at + length t
  pub room : r ≤ length o
  pub text : o' ≡ written o at (length t) t

-- one text after another
pub joined : {o o' o'' : List ℕ} {at m r : ℕ} {t u : List ℕ} → Appended o at t o' m → Appended o' m u o'' r → Appended o at (t ++ u) o'' r
joined {o} {o'} {o''} {at} {m} {r} {t} {u} a b =
    let h : at + length t ≤ length o = omega (arith, a.end, a.room) in
    record {
      end = rw length-append (omega (arith, a.end, b.end));
      room = omega (arith, b.room, ap length a.text, length-written o at (length t) t refl h);
      text = b.text ∙ rw (a.text, a.end, length-append) (written_join o at (length t) t refl h (length u) u);
    }

-- one line of the page, of any rank, cost and bytes
abbrev pub line_text : ℕ → ℤ → Policy → List ℕ
line_text rank cost p = decimal rank ++ (32 ∷ signed_decimal cost) ++ for_each choice_text p ++ (10 ∷ [])
