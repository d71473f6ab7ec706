-- The sets of actions and states, made one action and one state at a time.
-- Assumes nothing.
use mathlib.Core.Path.{◌≡◌, refl, sym, ap, ap₂, ◌∙◌, subst}
use mathlib.Core.Bool.{Bool, true, false, not, ◌&&◌, ◌||◌}
use mathlib.Core.Logic.{◌⊎◌, inl, inr}
use mathlib.Core.List.{List, [], ◌∷◌}
use Prim.Native.Nat.{ℕ, zero, suc, ◌+◌, ◌≤◌, ◌<◌}
use native.Mathlib.Nat.{eq-or-lt_of_le}
use native.Mathlib.Omega.{arith}
use borrow.Author.Tests.{eq-eqb, ne_eqb}
use lib.Dec.{T, eqb}
use lib.ListN.{length, set, get_or, length-set}
use lib.Seq.{get_or-set_same, get_or-set_other}
use Rattle.model.specs.Lists.{is_empty, keep, every, up_from}
use Rattle.model.specs.Model.{Words, Transition, state_count, togo, action_count, action, closed, options}
use Rattle.model.specs.Questions.{book_number}
use Rattle.model.specs.Recursion.{feasible_from, feasible}
use Rattle.laws.specs.Members.{In, up_from_in, in_up_from, every_both, AtNexts, false-T}
use Rattle.laws.specs.Kept.{keep_in, in_keep, keep-keep, keep_same, in_some, none_in}
use Rattle.accepted.specs.Options.{options_are}
use Rattle.accepted.specs.Shape.{shape}
use Rattle.sets.specs.Sets.{has, with, free, has-none, has-with, free-keep}
use Rattle.feasible.specs.Barred.{avoids, goes_by, DeadFrom, Leaves, BarredFrom}

-- ---- one state

-- where no state is in the set every action avoids it
pub none_dead : (ts : List Transition) → avoids 0 ts ≡ true
none_dead [] = refl
none_dead (t ∷ ts) = ap₂ ◌&&◌ (ap not (has-none t.next)) (none_dead ts)

module _ (ws : Words) (ok : book_number ws ≡ 0) (p dead : ℕ) (state : p < state_count ws) (d : DeadFrom ws (p + 1) dead) where
  abbrev is_open : ℕ → Bool
  is_open c = not (closed (action ws p c).cost)

  abbrev goes : ℕ → ℕ → Bool
  goes m c = every (λ (t : Transition). not (is_empty (feasible_from (action ws) (options ws) m t.next))) (action ws p c).transitions

  -- the next states of an action are outside the set if a policy goes on from each
  avoids_is : (m : ℕ) (ts : List Transition) → AtNexts (λ q. (m ≡ togo ws q) × (has dead q ≡ is_empty (feasible ws q))) ts
      → every (λ (t : Transition). not (is_empty (feasible_from (action ws) (options ws) m t.next))) ts ≡ avoids dead ts
  unfolding feasible
  avoids_is m [] h = refl
  avoids_is m (t ∷ ts) h =
      ap₂ ◌&&◌
      (ap (λ (m : ℕ). not (is_empty (feasible_from (action ws) (options ws) m t.next))) h.0.0 ∙ ap not (sym h.0.1))
      (avoids_is m ts h.1)

  none-next : (ts : List Transition) → AtNexts (λ q. 0 ≡ suc (togo ws q)) ts → avoids dead ts ≡ true
  none-next [] h = refl
  none-next (t ∷ ts) h = absurd (omega (arith, h.0))

  known : (c : ℕ) → AtNexts (λ q. (togo ws p ≡ suc (togo ws q)) × (has dead q ≡ is_empty (feasible ws q))) (action ws p c).transitions
  known c =
      every_both (λ t x y. (x, d t.next (omega (arith, y.0)) y.1)) (action ws p c).transitions ((shape ws ok).step p c)
      (every_both {R = λ t. (p < t.next) × (t.next < state_count ws)} (λ t x y. (x, y)) (action ws p c).transitions ((shape ws ok).later p c)
      ((shape ws ok).inside p c))

  feasible-keep : feasible ws p ≡ keep (goes_by ws dead p) (up_from 0 (action_count ws p))
  unfolding feasible
  feasible-keep = go (togo ws p) refl
    where
      xs : List ℕ
      xs = up_from 0 (action_count ws p)

      go : (m : ℕ) → togo ws p ≡ m → feasible_from (action ws) (options ws) m p ≡ keep (goes_by ws dead p) xs
      go zero e =
          options_are ws p
          ∙ keep_same is_open (goes_by ws dead p) xs
          (λ c i. sym (ap (λ (b : Bool). is_open c && b) (none-next (action ws p c).transitions
          (every_both (λ t x y. sym e ∙ x.0) (action ws p c).transitions (known c) (known c))) ∙ and_yes (is_open c)))
        where
          and_yes : (b : Bool) → (b && true) ≡ b
          and_yes true = refl
          and_yes false = refl
      go (suc m) e =
          ap (keep (goes m)) (options_are ws p) ∙ keep-keep is_open (goes m) xs
          ∙ keep_same (λ (c : ℕ). is_open c && goes m c) (goes_by ws dead p) xs
          (λ c i. ap (λ (b : Bool). is_open c && b) (avoids_is m (action ws p c).transitions
          (every_both (λ t x y. (omega (arith, e, x.0), x.1)) (action ws p c).transitions (known c) (known c))))

-- ---- its set, one action at a time

module _ (ws : Words) (p dead : ℕ) where
  -- of the first n actions, the set has those from which no policy goes on
  pub record MaskTo (n mask : ℕ) : Type 0 where
    pub before : (c : ℕ) → c < n → has mask c ≡ not (goes_by ws dead p c)
    pub after : (c : ℕ) → n ≤ c → has mask c ≡ false

  pub mask_none : MaskTo 0 0
  mask_none = record { before = λ c l. absurd (omega arith); after = λ c l. has-none c }

  module _ (n mask : ℕ) (h : MaskTo n mask) where
    le : (c : ℕ) → c < n + 1 → c ≤ n
    le c l = omega arith

    pub mask_on : goes_by ws dead p n ≡ true → MaskTo (n + 1) mask
    mask_on e = record { before = λ c l. go c (eq-or-lt_of_le (le c l)); after = λ c l. h.after c (omega arith) }
      where
        go : (c : ℕ) → (c ≡ n) ⊎ (c < n) → has mask c ≡ not (goes_by ws dead p c)
        go c (inl k) = h.after c (omega arith) ∙ sym (ap (λ (c : ℕ). not (goes_by ws dead p c)) k ∙ ap not e)
        go c (inr l) = h.before c l

    pub mask_off : goes_by ws dead p n ≡ false → MaskTo (n + 1) (with mask n)
    mask_off e = record {
      before = λ c l. has-with mask n c ∙ go c (eq-or-lt_of_le (le c l));
      after = λ c l. has-with mask n c ∙ ap₂ ◌||◌ (ne_eqb c n (λ k. omega arith)) (h.after c (omega arith));
    }
      where
        go : (c : ℕ) → (c ≡ n) ⊎ (c < n) → (eqb c n || has mask c) ≡ not (goes_by ws dead p c)
        go c (inl k) = ap (λ (b : Bool). b || has mask c) (eq-eqb c n k) ∙ sym (ap (λ (c : ℕ). not (goes_by ws dead p c)) k ∙ ap not e)
        go c (inr l) = ap (λ (b : Bool). b || has mask c) (ne_eqb c n (λ k. omega arith)) ∙ h.before c l

    pub mask_leaves : (ok : book_number ws ≡ 0) → p < state_count ws → DeadFrom ws (p + 1) dead → n ≡ action_count ws p → Leaves ws p mask
    mask_leaves ok state d e =
        free-keep mask (up_from 0 (action_count ws p))
        ∙ keep_same (λ (c : ℕ). not (has mask c)) (goes_by ws dead p) (up_from 0 (action_count ws p))
        (λ c i. ap not (h.before c (omega (arith, e, up_from_in 0 (action_count ws p) i))) ∙ twice (goes_by ws dead p c))
        ∙ sym (feasible-keep ws ok p dead state d)
      where
        twice : (b : Bool) → not (not b) ≡ b
        twice true = refl
        twice false = refl

-- ---- whether a set leaves an action

pub one_left : (mask n c : ℕ) → c < n → has mask c ≡ false → is_empty (free mask (up_from 0 n)) ≡ false
one_left mask n c l e =
    in_some (free mask (up_from 0 n)) c
    (subst (In c) (sym (free-keep mask (up_from 0 n)))
    (in_keep (λ (x : ℕ). not (has mask x)) c (up_from 0 n) (in_up_from 0 n c (omega arith) (omega arith)) (false-T e)))

pub none_free : (mask n : ℕ) → ((c : ℕ) → c < n → has mask c ≡ true) → is_empty (free mask (up_from 0 n)) ≡ true
none_free mask n h =
    ap is_empty (free-keep mask (up_from 0 n)
    ∙ none_in (keep (λ (x : ℕ). not (has mask x)) (up_from 0 n))
    (λ c i. let k = keep_in (λ (x : ℕ). not (has mask x)) c (up_from 0 n) i in
    subst T (ap not (h c (omega (arith, up_from_in 0 n k.0)))) k.1))

-- ---- one state more

pub barred_none : (ws : Words) (off : List ℕ) → length off ≡ 64 → BarredFrom ws (state_count ws) off 0
barred_none ws off l =
    record { long = l; leaves = λ p a b. absurd (omega arith); dead_is = λ p a b. absurd (omega arith); fresh = λ p b. has-none p }

module _ (ws : Words) (n : ℕ) (l : n < 64) (off : List ℕ) (dead mask : ℕ) (h : BarredFrom ws (n + 1) off dead) (here : Leaves ws n mask) where
  leaves-more : (p : ℕ) → n ≤ p → p < state_count ws → Leaves ws p (get_or (set off n mask) p 0)
  leaves-more p a b = go (eq-or-lt_of_le a)
    where
      go : (n ≡ p) ⊎ (n < p) → Leaves ws p (get_or (set off n mask) p 0)
      go (inl e) =
          subst (λ (q : ℕ). Leaves ws q (get_or (set off n mask) q 0)) e
          (subst (Leaves ws n) (sym (get_or-set_same off n mask 0 (omega (arith, h.long)))) here)
      go (inr k) = subst (Leaves ws p) (sym (get_or-set_other off n p mask 0 (λ e. omega arith))) (h.leaves p (omega arith) b)

  pub barred_dead : is_empty (feasible ws n) ≡ true → BarredFrom ws n (set off n mask) (with dead n)
  barred_dead e = record {
    long = length-set off n mask ∙ h.long;
    leaves = leaves-more;
    dead_is = λ p a b. has-with dead n p ∙ go p b (eq-or-lt_of_le a);
    fresh = λ p k. has-with dead n p ∙ ap₂ ◌||◌ (ne_eqb p n (λ q. omega arith)) (h.fresh p (omega arith));
  }
    where
      go : (p : ℕ) → p < state_count ws → (n ≡ p) ⊎ (n < p) → (eqb p n || has dead p) ≡ is_empty (feasible ws p)
      go p b (inl k) =
          ap (λ (t : Bool). t || has dead p) (eq-eqb p n (sym k)) ∙ sym (ap (λ (q : ℕ). is_empty (feasible ws q)) (sym k) ∙ e)
      go p b (inr k) = ap (λ (t : Bool). t || has dead p) (ne_eqb p n (λ q. omega arith)) ∙ h.dead_is p (omega arith) b

-- one number more is in the set
pub one_more : (mask n : ℕ) → ((c : ℕ) → c < n → has mask c ≡ true) → has mask n ≡ true → (c : ℕ) → c < n + 1 → has mask c ≡ true
one_more mask n h e c l = go (eq-or-lt_of_le le)
  where
    le : c ≤ n
    le = omega arith

    go : (c ≡ n) ⊎ (c < n) → has mask c ≡ true
    go (inl k) = ap (has mask) k ∙ e
    go (inr k) = h c k
