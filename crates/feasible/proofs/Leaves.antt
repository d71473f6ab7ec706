-- What the set of the barred actions of a state says of one of its actions.
-- Assumes nothing.
use mathlib.Core.Path.{◌≡◌, sym, ap, ◌∙◌, subst}
use mathlib.Core.Bool.{true, false, not}
use Prim.Native.Nat.{ℕ, ◌<◌}
use native.Mathlib.Omega.{arith}
use lib.Dec.{T}
use Rattle.model.specs.Lists.{up_from}
use Rattle.model.specs.Model.{Words, action_count}
use Rattle.laws.specs.Members.{In, in_up_from, false-T}
use Rattle.laws.specs.Kept.{keep_in, in_keep}
use Rattle.accepted.specs.Options.{Feasible}
use Rattle.sets.specs.Sets.{has, free-keep}
use Rattle.feasible.specs.Barred.{Leaves}

module _ (ws : Words) (p off c : ℕ) (lv : Leaves ws p off) (l : c < action_count ws p) where
  pub off_none : has off c ≡ true → Feasible ws p c → ⊥
  off_none e i =
      subst T (ap not e)
      (keep_in (λ (x : ℕ). not (has off x)) c (up_from 0 (action_count ws p)) (subst (In c) (sym lv ∙ free-keep off (up_from 0 (action_count ws p))) i)).1

  pub on_feasible : has off c ≡ false → Feasible ws p c
  on_feasible e =
      subst (In c) (sym (free-keep off (up_from 0 (action_count ws p))) ∙ lv)
      (in_keep (λ (x : ℕ). not (has off x)) c (up_from 0 (action_count ws p)) (in_up_from 0 (action_count ws p) c (omega arith) (omega arith)) (false-T e))
