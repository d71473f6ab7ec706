-- A browser of the slice with the figures of accepting shows what is to be shown of it.
-- Assumes nothing.
use mathlib.Core.Path.{◌≡◌, ap, ◌∙◌}
use mathlib.Core.List.{List}
use Prim.Native.Nat.{ℕ}
use denote.Bor.{Bor}
use Rattle.model.specs.Calls.{accept_states, accept_count, shown}
use Rattle.place.specs.Place.{browsed, browsed-shown}
use Rattle.browse.proofs.browse.Goals as goal

as_shown : (x r : List ℕ) (s k j : ℕ) → x ≡ r → s ≡ accept_states r → k ≡ accept_count r → browsed x s k j ≡ shown r j
as_shown x r s k j ex es ek = rw ex (browsed-shown r j es ek)

pub returns : goal.returns
returns c =
    let o = c.open.ensures in
    c.plan.ensures ∙ as_shown _ _ _ _ _ (ap (λ (x : Bor (List ℕ)). x.now) o.0) o.1 o.2
