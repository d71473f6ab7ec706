-- The first action that a set leaves of those from some number on, and the first feasible action above a byte.
-- Assumes nothing.
use mathlib.Core.Path.{◌≡◌, refl, ap, ◌∙◌}
use mathlib.Core.Bool.{Bool, true, false, cond}
use mathlib.Core.Logic.{inl}
use mathlib.Core.List.{List, [], ◌∷◌}
use mathlib.Core.Option.{none, some}
use Prim.Native.Nat.{ℕ, zero, suc, ◌+◌, ◌-◌, ◌≤◌, ◌<◌}
use native.Mathlib.Omega.{arith}
use borrow.Author.Tests.{ltb-true, ltb-false, lt-ltb, le-ltb}
use lib.Dec.{ltb}
use Rattle.model.specs.Lists.{up_from}
use Rattle.laws.specs.Members.{In, up_from_in}
use Rattle.sets.specs.Sets.{has, free, free_in}
use Rattle.next_policy.specs.Linked.{head_or}
use Rattle.next_policy.specs.Next.{first_of, first_above}

-- what the set leaves of the actions from c to n - 1
abbrev pub free_from : ℕ → ℕ → ℕ → List ℕ
free_from mask c n = free mask (up_from c (n - c))

module _ (mask c n : ℕ) where
  pub none_left : n ≤ c → free_from mask c n ≡ []
  none_left h = let e : n - c ≡ 0 = omega arith in rw e

  module _ (h : c < n) where
    step : free_from mask c n ≡ cond (has mask c) (free_from mask (c + 1) n) (c ∷ free_from mask (c + 1) n)
    step = let e : n - c ≡ suc (n - (c + 1)) = omega arith in let f : suc c ≡ c + 1 = omega arith in rw (e, f)

    pub free_more : has mask c ≡ false → free_from mask c n ≡ c ∷ free_from mask (c + 1) n
    free_more e = rw (step, e)

    pub free_here : has mask c ≡ false → first_of (free_from mask c n) ≡ c
    free_here e = ap first_of (free_more e)

    pub free-later : has mask c ≡ true → free_from mask c n ≡ free_from mask (c + 1) n
    free-later e = rw (step, e)

  pub free_low : (d : ℕ) → In d (free_from mask c n) → (c ≤ d) × (d < n)
  free_low d i = let u = up_from_in c (n - c) {c = d} (free_in mask d (up_from c (n - c)) i) in (u.0, omega (arith, u.0, u.1))

-- ---- above a byte

above_all : (b : ℕ) (xs : List ℕ) → ((c : ℕ) → In c xs → b < c) → first_above b xs ≡ head_or none xs
above_all b [] h = refl
above_all b (x ∷ xs) h = rw (lt-ltb b x (h x (inl refl)))

-- actions up to b are passed over
above_from : (mask b i k : ℕ) → i ≤ b + 1 → first_above b (free mask (up_from i k)) ≡ head_or none (free_from mask (b + 1) (i + k))
above_from mask b i zero h = rw (none_left mask (b + 1) (i + 0) (omega arith))
above_from mask b i (suc k) h = go (ltb b i) refl (above_from mask b (suc i) k)
  where
    tail : List ℕ
    tail = free mask (up_from (suc i) k)

    skip : i ≤ b → (t : Bool) → first_above b (cond t tail (i ∷ tail)) ≡ first_above b tail
    skip l true = refl
    skip l false = rw (le-ltb b i l)

    go : (t : Bool) → ltb b i ≡ t → (suc i ≤ b + 1 → first_above b tail ≡ head_or none (free_from mask (b + 1) (suc i + k)))
        → first_above b (free mask (up_from i (suc k))) ≡ head_or none (free_from mask (b + 1) (i + suc k))
    go true e ih =
        let q : i ≡ b + 1 = omega (arith, ltb-true b i e) in
        let m : i + suc k - (b + 1) ≡ suc k = omega arith in
        above_all b (free mask (up_from i (suc k)))
        (λ c j. omega (arith, (up_from_in i (suc k) {c = c} (free_in mask c (up_from i (suc k)) j)).0))
        ∙ ap (λ (n : ℕ). head_or none (free mask (up_from n (suc k)))) q ∙ rw m
    go false e ih =
        let m : suc i + k ≡ i + suc k = omega arith in
        skip (ltb-false b i e) (has mask i) ∙ rw m at (ih (omega (arith, ltb-false b i e)))

-- the first feasible action above b, by the first that is left from b + 1 on
module _ (mask b n : ℕ) where
  pub above_is : first_above b (free mask (up_from 0 n)) ≡ head_or none (free_from mask (b + 1) n)
  above_is = let e : 0 + n ≡ n = omega arith in rw e at (above_from mask b 0 n (omega arith))

  -- 255 stands for none
  pub above_none : n ≤ 8 → first_of (free_from mask (b + 1) n) ≡ 255 → first_above b (free mask (up_from 0 n)) ≡ none
  above_none few e = above_is ∙ go (free_from mask (b + 1) n) (λ d i. (free_low mask (b + 1) n d i).1) e
    where
      go : (xs : List ℕ) → ((d : ℕ) → In d xs → d < n) → first_of xs ≡ 255 → head_or none xs ≡ none
      go [] h e = refl
      go (x ∷ xs) h e = absurd (omega (arith, h x (inl refl)))

  pub above_some : (first_of (free_from mask (b + 1) n) ≡ 255 → ⊥)
      → first_above b (free mask (up_from 0 n)) ≡ some (first_of (free_from mask (b + 1) n))
  above_some e = above_is ∙ go (free_from mask (b + 1) n) e
    where
      go : (xs : List ℕ) → (first_of xs ≡ 255 → ⊥) → head_or none xs ≡ some (first_of xs)
      go [] h = absurd (h refl)
      go (x ∷ xs) h = refl
