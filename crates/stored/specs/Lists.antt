-- The lists of actions that a stored candidate stands for: its own bytes before the split state, what is not barred there, and every feasible action after it.
-- Assumes nothing.
use Rattle.std.specs.Prelude.{◌≡◌, refl, Bool, true, false, ◌||◌, cond, List, [], ◌∷◌, ℕ, ◌<◌, eqb}
use Rattle.std.proofs.Common.{sym, ap, ◌∙◌, subst, arith, eqb-true, ne_eqb, eq-eqb}
use Rattle.std.proofs.Math.Path.{fun_ext}
use Rattle.std.proofs.Math.Decide.{dec_lt}
use Rattle.model.specs.Model.{Words}
use Rattle.model.specs.Path.{byte_at}
use Rattle.model.specs.Recursion.{feasible}
use Rattle.laws.specs.Members.{In}
use Rattle.accepted.specs.Options.{Feasible}
use Rattle.sets.specs.Sets.{has, with, free, has-with, free_all, free_in}
use Rattle.splits.specs.Parts.{without, split_at, split_lt, split_eq, split_gt}
use Rattle.stored.specs.Entry.{Entry}

-- the feasible actions that set `mask` leaves at state p
abbrev pub left : Words → ℕ → ℕ → List ℕ
left ws p mask = free mask (feasible ws p)

pub left-feasible : (ws : Words) (p mask c : ℕ) → In c (left ws p mask) → Feasible ws p c
left-feasible ws p mask c i = free_in mask c (feasible ws p) i

abbrev pub lists_of : Words → Entry → ℕ → List ℕ
lists_of ws e = split_at (byte_at e.plan) e.split (left ws e.split e.mask) (feasible ws)

-- the set with c leaves what the set leaves, without c
pub free-without : (m c : ℕ) (xs : List ℕ) → free (with m c) xs ≡ without c (free m xs)
free-without m c [] = refl
free-without m c (x ∷ xs) = rw (has-with m c x) (go (eqb x c) refl (has m x) (free-without m c xs))
  where
    swap : (b : Bool) → eqb x c ≡ b → eqb c x ≡ b
    swap true e = eq-eqb c x (sym (eqb-true x c e))
    swap false e = ne_eqb c x (λ q. let z : eqb x c ≡ true = eq-eqb x c (sym q) in let y : ◌≡◌ {A = ℕ} 0 1 = cc in omega arith)

    go : (b : Bool) → eqb x c ≡ b → (t : Bool) → free (with m c) xs ≡ without c (free m xs)
        → cond (b || t) (free (with m c) xs) (x ∷ free (with m c) xs) ≡ without c (cond t (free m xs) (x ∷ free m xs))
    go true e true ih = ih
    go true e false ih = ih ∙ sym (rw (swap true e))
    go false e true ih = ih
    go false e false ih = ap (λ (ys : List ℕ). x ∷ ys) ih ∙ sym (rw (swap false e))

-- lists are the same if they are so before, at and after a state
pub by_place : (r : ℕ) (x y : ℕ → List ℕ) → ((s : ℕ) → s < r → x s ≡ y s) → x r ≡ y r → ((s : ℕ) → r < s → x s ≡ y s) → x ≡ y
by_place r x y a b c = fun_ext (λ s. go s (dec_lt s r) (dec_lt r s))
  where
    same : (s : ℕ) → ¬ (s < r) → ¬ (r < s) → r ≡ s
    same s h k = omega arith

    go : (s : ℕ) → Dec (s < r) → Dec (r < s) → x s ≡ y s
    go s (yes h) k = a s h
    go s (no h) (yes k) = c s k
    go s (no h) (no k) = subst (λ (n : ℕ). x n ≡ y n) (same s h k) b

module _ (ws : Words) (e : Entry) where
  pub lists_before : (s : ℕ) → s < e.split → lists_of ws e s ≡ byte_at e.plan s ∷ []
  lists_before s h = split_lt (byte_at e.plan) e.split (left ws e.split e.mask) (feasible ws) s h

  pub lists_here : lists_of ws e e.split ≡ left ws e.split e.mask
  lists_here = split_eq (byte_at e.plan) e.split (left ws e.split e.mask) (feasible ws)

  pub lists_after : (s : ℕ) → e.split < s → lists_of ws e s ≡ feasible ws s
  lists_after s h = split_gt (byte_at e.plan) e.split (left ws e.split e.mask) (feasible ws) s h

-- split at state 0 with nothing barred: every list of the model
pub lists_start : (ws : Words) (e : Entry) → e.split ≡ 0 → e.mask ≡ 0 → lists_of ws e ≡ feasible ws
lists_start ws e z m =
    by_place e.split (lists_of ws e) (feasible ws) (λ s h. absurd (omega (arith, z)))
    (lists_here ws e ∙ ap (left ws e.split) m ∙ free_all (feasible ws e.split))
    (lists_after ws e)
