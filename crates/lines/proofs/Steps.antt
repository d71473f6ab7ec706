-- A loop over the transitions of an action: those from transition i on are left.
-- Assumes nothing.
use mathlib.Core.Path.{◌≡◌, sym, ap, ap₂, ◌∙◌}
use mathlib.Core.List.{List, [], ◌∷◌}
use Prim.Native.Nat.{ℕ, ◌+◌, ◌≤◌, ◌<◌}
use native.Mathlib.Numerals.{add-one}
use native.Mathlib.Omega.{arith}
use lib.ListN.{drop, drop_of_length-le}
use lib.Seq.{drop-cons}
use Rattle.model.specs.Model.{Words, Transition, action}
use Rattle.model.specs.Policy.{nexts}
use Rattle.lines.specs.Lines.{none, transition, LinesOf}
use Rattle.lines.specs.declared.Lines.{Lines}

module _ {ws : Words} {p c : ℕ} {t : Lines} (h : LinesOf ws p c t) (i : ℕ) where
  abbrev ts : List Transition
  ts = (action ws p c).transitions

  pub all_done : t.r ≤ i → drop i ts ≡ []
  all_done l = drop_of_length-le ts {i = i} (omega (arith, h.r_is))

  module _ (l : i < t.r) where
    first-left : drop i ts ≡ transition ws p c i ∷ drop (i + 1) ts
    first-left = rw (add-one i) (drop-cons ts i none (omega (arith, h.r_is)))

    -- the first of them, by its next state and its weight
    pub one_done : (q w : ℕ) → q ≡ (transition ws p c i).next → w ≡ (transition ws p c i).weight
        → drop i ts ≡ record { next = q; weight = w } ∷ drop (i + 1) ts
    one_done q w e f = first-left ∙ ap₂ (λ (n k : ℕ). record { next = n; weight = k } ∷ drop (i + 1) ts) (sym e) (sym f)

    -- and by its next state alone
    pub next_done : (q : ℕ) → q ≡ (transition ws p c i).next → nexts (drop i ts) ≡ q ∷ nexts (drop (i + 1) ts)
    next_done q e = ap nexts first-left ∙ ap (λ (n : ℕ). n ∷ nexts (drop (i + 1) ts)) (sym e)
