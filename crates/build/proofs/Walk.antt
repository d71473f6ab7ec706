-- When two walks give the same bytes.
-- Assumes nothing.
use mathlib.Core.Path.{◌≡◌, refl, ap}
use mathlib.Core.List.{List, ◌∷◌}
use Prim.Native.Nat.{ℕ, zero, suc, ◌+◌, ◌≤◌, ◌<◌}
use native.Mathlib.Omega.{arith}
use Rattle.model.specs.Lists.{is_in}
use Rattle.model.specs.Model.{Action}
use Rattle.model.specs.Policy.{Policy, onward}
use Rattle.model.specs.Recursion.{best_of, through}
use Rattle.laws.specs.Greedy.{byte_of, best, greedy}
use Rattle.build.specs.Walk.{walk_by}

-- the bytes of the n states from p on depend only on the actions at these states
pub walk_same : (act : ℕ → ℕ → Action) (f g : ℕ → ℕ) (n p : ℕ) (reach : List ℕ) → ((s : ℕ) → p ≤ s → s < p + n → f s ≡ g s)
    → walk_by act f n p reach ≡ walk_by act g n p reach
walk_same act f g zero p reach h = refl
walk_same act f g (suc n) p reach h =
    rw (h p (omega arith) (omega arith))
    (ap (λ (bs : Policy). byte_of (is_in p reach) (g p) ∷ bs)
    (walk_same act f g n (suc p) (onward act p (byte_of (is_in p reach) (g p)) reach) (λ s k l. h s (omega arith) (omega arith))))

-- `greedy` is the walk by lowest best actions
pub walk-greedy : (D : ℕ) (act : ℕ → ℕ → Action) (opts : ℕ → List ℕ) (togo : ℕ → ℕ) (n p : ℕ) (reach : List ℕ)
    → greedy D act opts togo n p reach ≡ walk_by act (λ s. best_of (through D act opts (togo s) s) (opts s)) n p reach
unfolding best
walk-greedy D act opts togo zero p reach = refl
walk-greedy D act opts togo (suc n) p reach =
    let b = byte_of (is_in p reach) (best D act opts togo p) in
    ap (λ (bs : Policy). b ∷ bs) (walk-greedy D act opts togo n (suc p) (onward act p b reach))
