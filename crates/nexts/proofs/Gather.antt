-- States added to a set one after another.
-- Assumes nothing.
use mathlib.Core.Path.{◌≡◌, refl, sym, ap, ◌∙◌}
use mathlib.Core.Bool.{Bool, true, false, ◌||◌}
use mathlib.Core.List.{List, ◌∷◌}
use Prim.Native.Nat.{ℕ}
use lib.Dec.{eqb}
use Rattle.model.specs.Lists.{is_in}
use Rattle.sets.specs.Sets.{has, with, has-with}

or_turn : (a b c : Bool) → ((a || b) || c) ≡ (b || (a || c))
or_turn true true c = refl
or_turn true false c = refl
or_turn false b c = refl

-- of the states `all`, those of `left` are still to be added to the set m
abbrev pub ToAdd : List ℕ → List ℕ → ℕ → Type 0
ToAdd all left m = (q : ℕ) → (has m q || is_in q left) ≡ is_in q all

pub one_added : (all : List ℕ) {qs left : List ℕ} {q n : ℕ} (m : ℕ) → qs ≡ q ∷ left → n ≡ with m q → ToAdd all qs m → ToAdd all left n
one_added all {qs} {left} {q} m e f a k =
    rw f
    (ap (λ (b : Bool). b || is_in k left) (has-with m q k) ∙ or_turn (eqb k q) (has m k) (is_in k left)
    ∙ ap (λ (rs : List ℕ). has m k || is_in k rs) (sym e) ∙ a k)
