-- The first candidate: its first policy takes the first best action at each state that it reaches.
-- Assumes nothing.
use mathlib.Core.Path.{◌≡◌, sym, ap, ◌∙◌}
use mathlib.Core.Bool.{true}
use mathlib.Core.List.{List, [], ◌∷◌}
use Prim.Native.Nat.{ℕ, ◌<◌}
use native.Mathlib.Decide.{dec_lt}
use native.Mathlib.Omega.{arith}
use lib.IntN.{ℤ}
use lib.ListN.{length}
use Rattle.model.specs.Model.{Words, scale, state_count, togo, action}
use Rattle.model.specs.Questions.{book_number}
use Rattle.model.specs.Policy.{Policy, is_policy, has_policy}
use Rattle.model.specs.Path.{byte_at}
use Rattle.model.specs.Recursion.{feasible}
use Rattle.laws.specs.Members.{T_true}
use Rattle.accepted.specs.Demands.{best_policy, best-policy}
use Rattle.build.specs.Best.{best_at}
use Rattle.build.specs.Walk.{walk_by, chosen}
use Rattle.build.proofs.Split.{split_here, split_after}
use Rattle.build.proofs.Walk.{walk_same, walk-greedy}
use Rattle.accepted.specs.Bytes.{policy_long}
use Rattle.stored.specs.Entry.{Entry}
use Rattle.pool.specs.declared.Pool.{Pool}
use Rattle.pool.specs.Entries.{entries}

module _ (ws : Words) (ok : book_number ws ≡ 0) where
  pub first_walk : (bs : Policy) (c : ℕ) → c ≡ best_at ws 0 → walk_by (action ws) (chosen ws bs 0 c) (state_count ws) 0 (0 ∷ []) ≡ best_policy ws
  first_walk bs c h =
      walk_same (action ws) (chosen ws bs 0 c) (best_at ws) (state_count ws) 0 (0 ∷ []) (λ s a b. at s (dec_lt 0 s))
      ∙ sym (walk-greedy (scale ws) (action ws) (feasible ws) (togo ws) (state_count ws) 0 (0 ∷ []))
    where
      zero_is : (s : ℕ) → ¬ (0 < s) → s ≡ 0
      zero_is s n = omega arith

      at : (s : ℕ) → Dec (0 < s) → chosen ws bs 0 c s ≡ best_at ws s
      at s (yes l) = split_after (byte_at bs) 0 c (best_at ws) s l
      at s (no n) = split_here (byte_at bs) 0 c (best_at ws) s (zero_is s n) ∙ h ∙ ap (best_at ws) (sym (zero_is s n))

  pub best_long : has_policy ws ≡ true → length (best_policy ws) ≡ state_count ws
  best_long has = policy_long ws ok (best_policy ws) (T_true (is_policy ws (best_policy ws)) (best-policy ws ok has))

-- the one entry of a pool, by what is equal to its parts
pub first_alone : {s : ℕ} {x : ℤ} {bs : List ℕ} (P : Pool) (S : ℕ) (e : Entry) → s ≡ S → x ≡ e.cost → bs ≡ e.plan
    → entries s P ≡ record { cost = x; plan = bs; split = 0; mask = 0 } ∷ [] → entries S P ≡ record
    { cost = e.cost; plan = e.plan; split = 0; mask = 0 } ∷ []
first_alone {s} {x} {bs} P S e hs hx hb h =
    ap (λ (n : ℕ). entries n P) (sym hs) ∙ h ∙ λ t. record { cost = hx t; plan = hb t; split = 0; mask = 0 } ∷ []
