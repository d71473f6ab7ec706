-- The policies of a set other than one of them, its first for example. `os` are lists of actions, one for each state, and f has the bytes gs of a
-- policy of these lists. The other policies of the lists fall into parts by the first state where they differ from gs, which is one that gs reaches.
-- The part of state r has the policies that take the actions of gs before r, another action than gs at r, and any actions of the lists after r: it
-- is again the policies of some lists. No policy is in two parts.
-- Assumes nothing.
use Rattle.std.specs.Prelude.{◌≡◌, refl, Bool, true, false, cond, ◌⊎◌, ◌↔◌, ℕ, zero, suc, ◌+◌, ◌≤◌, ◌<◌, eqb, ltb, length}
use Rattle.std.proofs.Common.{sym, ap₂, ◌∙◌, subst, inl, inr, eq-or-lt_of_le, arith}
use mathlib.Core.List.{List, [], ◌∷◌, head-eq_of_cons-eq, tail-eq_of_cons-eq}
use Rattle.std.proofs.Math.Decide.{ℕ_discrete}
use borrow.Author.Tests.{eqb-true, eqb-false, lt-ltb, le-ltb, eq-eqb, ne_eqb}
use Rattle.model.specs.Lists.{is_in}
use Rattle.model.specs.Model.{Action}
use Rattle.model.specs.Policy.{Policy, allowed, onward}
use Rattle.laws.specs.Members.{T_true, true-T, In, in_one, is_in_in, in_is_in, Below, Rising, AtNexts}
use Rattle.laws.specs.Policies.{IsPolicy, reached_from, reached_mono, reached_late, Reads}

-- ---- a list without one of its numbers

abbrev pub without : ℕ → List ℕ → List ℕ
without x [] = []
without x (y ∷ ys) = cond (eqb x y) (without x ys) (y ∷ without x ys)

-- it has the numbers of the list other than x
pub without_in : (x y : ℕ) (zs : List ℕ) → In y (without x zs) → In y zs × (x ≡ y → ⊥)
without_in x y [] i = absurd i
without_in x y (z ∷ zs) i = go (eqb x z) refl i (without_in x y zs)
  where
    go : (c : Bool) → eqb x z ≡ c → In y (cond c (without x zs) (z ∷ without x zs)) → (In y (without x zs) → In y zs × (x ≡ y → ⊥))
        → In y (z ∷ zs) × (x ≡ y → ⊥)
    go true e i ih = let h = ih i in (inr h.0, h.1)
    go false e (inl q) ih = (inl q, λ p. eqb-false x z e (p ∙ q))
    go false e (inr i) ih = let h = ih i in (inr h.0, h.1)

in_without : (x y : ℕ) (zs : List ℕ) → In y zs → (x ≡ y → ⊥) → In y (without x zs)
in_without x y [] i n = i
in_without x y (z ∷ zs) i n = go (eqb x z) refl i (λ j. in_without x y zs j n)
  where
    go : (c : Bool) → eqb x z ≡ c → In y (z ∷ zs) → (In y zs → In y (without x zs)) → In y (cond c (without x zs) (z ∷ without x zs))
    go true e (inl q) ih = absurd (n (eqb-true x z e ∙ sym q))
    go true e (inr i) ih = ih i
    go false e (inl q) ih = inl q
    go false e (inr i) ih = inr (ih i)

below_without : (x y : ℕ) (zs : List ℕ) → Below y zs → Below y (without x zs)
below_without x y [] b = tt
below_without x y (z ∷ zs) b = go (eqb x z) (below_without x y zs b.1)
  where
    go : (c : Bool) → Below y (without x zs) → Below y (cond c (without x zs) (z ∷ without x zs))
    go true ih = ih
    go false ih = (b.0, ih)

-- and rises if the list does
pub rising_without : (x : ℕ) (zs : List ℕ) → Rising zs → Rising (without x zs)
rising_without x [] r = tt
rising_without x (z ∷ zs) r = go (eqb x z) (rising_without x zs r.1)
  where
    go : (c : Bool) → Rising (without x zs) → Rising (cond c (without x zs) (z ∷ without x zs))
    go true ih = ih
    go false ih = (below_without x z zs r.0, ih)

-- ---- the lists of a part

-- lists of actions that are split at state r: before r the one action of f, at r the list xs, and after r the lists os
unfoldable pub split_at : (ℕ → ℕ) → ℕ → List ℕ → (ℕ → List ℕ) → ℕ → List ℕ
split_at f r xs os s = cond (ltb s r) (f s ∷ []) (cond (eqb s r) xs (os s))

module _ (f : ℕ → ℕ) (r : ℕ) (xs : List ℕ) (os : ℕ → List ℕ) where
  pub split_lt : (s : ℕ) → s < r → split_at f r xs os s ≡ f s ∷ []
  unfolding split_at
  split_lt s h = rw (lt-ltb s r h)

  pub split_eq : split_at f r xs os r ≡ xs
  unfolding split_at
  split_eq = rw (le-ltb r r (omega arith), eq-eqb r r refl)

  pub split_gt : (s : ℕ) → r < s → split_at f r xs os s ≡ os s
  unfolding split_at
  split_gt s h = rw (le-ltb s r (omega arith), ne_eqb s r (omega arith))

-- the part of state r: the action of f is barred there, and after r the lists stay as they are
abbrev pub part : (ℕ → List ℕ) → (ℕ → ℕ) → ℕ → ℕ → List ℕ
part os f r = split_at f r (without (f r) (os r)) os

-- ---- the states that a policy reaches

module _ (act : ℕ → ℕ → Action) where
  -- the bytes gs of the states from p on reach state r, one of these, where `reach` are the states known to be reached
  abbrev pub Reaches : ℕ → ℕ → List ℕ → Policy → Type 0
  Reaches r p reach [] = ⊥
  Reaches r p reach (g ∷ gs) = ((r ≡ p) × In p reach) ⊎ Reaches r (suc p) (onward act p g reach) gs

  pub reaches_late : (r p : ℕ) (reach : List ℕ) (gs : Policy) → Reaches r p reach gs → p ≤ r
  reaches_late r p reach [] h = absurd h
  reaches_late r p reach (g ∷ gs) (inl h) = omega arith
  reaches_late r p reach (g ∷ gs) (inr h) = omega (arith, reaches_late r (suc p) (onward act p g reach) gs h)

  -- the same by the list of all states that are reached
  pub reaches_is : ((p c : ℕ) → AtNexts (λ q. p < q) (act p c).transitions) → (r p : ℕ) (reach : List ℕ) (gs : Policy)
      → Reaches r p reach gs ↔ (In r (reached_from act p reach gs) × (p ≤ r) × (r < p + length gs))
  reaches_is later r p reach [] = (λ h. absurd h, λ h. absurd (omega arith))
  reaches_is later r p reach (g ∷ gs) =
      let ih = reaches_is later r (suc p) (onward act p g reach) gs in
      (to ih.0, λ h. from ih.1 h (eq-or-lt_of_le h.1))
    where
      after : List ℕ
      after = onward act p g reach

      to : (Reaches r (suc p) after gs → In r (reached_from act (suc p) after gs) × (suc p ≤ r) × (r < suc p + length gs))
          → Reaches r p reach (g ∷ gs) → In r (reached_from act p reach (g ∷ gs)) × (p ≤ r) × (r < p + length (g ∷ gs))
      to ih (inl h) = (reached_mono act p reach (g ∷ gs) r (rw h.0 h.1), omega arith, omega arith)
      to ih (inr h) = let k = ih h in (k.0, omega arith, omega arith)

      known : In p reach ⊎ (p < p) → In p reach
      known (inl i) = i
      known (inr l) = absurd (omega arith)

      from : (In r (reached_from act (suc p) after gs) × (suc p ≤ r) × (r < suc p + length gs) → Reaches r (suc p) after gs)
          → In r (reached_from act p reach (g ∷ gs)) × (p ≤ r) × (r < p + length (g ∷ gs)) → (p ≡ r) ⊎ (p < r) → Reaches r p reach (g ∷ gs)
      from ih h (inl e) =
          inl (sym e, known (reached_late act later p reach (g ∷ gs) p (subst (λ z. In z (reached_from act p reach (g ∷ gs))) (sym e) h.0)))
      from ih h (inr l) = inr (ih (h.0, l, omega arith))

-- ---- the parts

module _ (act : ℕ → ℕ → Action) where
  -- whether bytes are a policy from state p on depends only on the lists from p on
  same_lists : (os us : ℕ → List ℕ) (n p : ℕ) → ((s : ℕ) → p ≤ s → os s ≡ us s) → (reach : List ℕ) (bs : Policy)
      → IsPolicy act os n p reach bs → IsPolicy act us n p reach bs
  same_lists os us zero p e reach [] h = tt
  same_lists os us zero p e reach (b ∷ bs) h = h
  same_lists os us (suc n) p e reach [] h = h
  same_lists os us (suc n) p e reach (b ∷ bs) h = (
    rw (e p (omega arith)) at h.0,
    same_lists os us n (suc p) (λ s k. e s (omega arith)) (onward act p b reach) bs h.1,
  )

  module _ (os : ℕ → List ℕ) (f : ℕ → ℕ) where
    -- before state r the bytes of a part are those of gs
    held : (r p b : ℕ) (c : Bool) → p < r → In b (allowed (part os f r p) c) → (g : ℕ) → f p ≡ g → In g (allowed (os p) c) → b ≡ g
    held r p b true h i g e j = in_one (rw split_lt at i) ∙ e
    held r p b false h i g e j = in_one i ∙ sym (in_one j)

    hold : (r p b : ℕ) (c : Bool) → p < r → f p ≡ b → In b (allowed (os p) c) → In b (allowed (part os f r p) c)
    hold r p b true h e i = rw split_lt (inl (sym e))
    hold r p b false h e i = i

    -- at state r a byte of the part is an action of the list, and not that of gs
    barred : (r p b : ℕ) (reach : List ℕ) → r ≡ p → In p reach → In b (allowed (part os f r p) (is_in p reach)) → In b (os p) × (f p ≡ b → ⊥)
    barred r p b reach e j i = without_in (f p) b (os p) (rw (T_true (is_in p reach) (in_is_in p reach j), e, split_eq) at i)

    -- every policy but gs is in a part
    pub cover : (n p : ℕ) (reach : List ℕ) (gs bs : Policy) → IsPolicy act os n p reach gs → Reads f p gs → IsPolicy act os n p reach bs
        → (gs ≡ bs) ⊎ ((r : ℕ) × Reaches act r p reach gs × IsPolicy act (part os f r) n p reach bs)
    cover zero p reach [] [] h e k = inl refl
    cover zero p reach [] (b ∷ bs) h e k = absurd k
    cover zero p reach (g ∷ gs) bs h e k = absurd h
    cover (suc n) p reach [] bs h e k = absurd h
    cover (suc n) p reach (g ∷ gs) [] h e k = absurd k
    cover (suc n) p reach (g ∷ gs) (b ∷ bs) h e k =
        go (ℕ_discrete g b) (λ k. cover n (suc p) (onward act p g reach) gs bs h.1 e.1 k)
      where
        InPart : Type 0
        InPart = (r : ℕ) × Reaches act r p reach (g ∷ gs) × IsPolicy act (part os f r) (suc n) p reach (b ∷ bs)

        Rest : Type 0
        Rest =
            (gs ≡ bs)
            ⊎ ((r : ℕ) × Reaches act r (suc p) (onward act p g reach) gs × IsPolicy act (part os f r) n (suc p) (onward act p g reach) bs)

        later : g ≡ b → Rest → (◌≡◌ {A = Policy} (g ∷ gs) (b ∷ bs)) ⊎ InPart
        later q (inl i) = inl (ap₂ (λ (x : ℕ) (xs : Policy). x ∷ xs) q i)
        later q (inr i) =
            inr (
              i.0,
              inr i.1,
              (
                hold i.0 p b (is_in p reach) (reaches_late act i.0 (suc p) (onward act p g reach) gs i.1) (e.0 ∙ q) k.0,
                subst (λ (x : ℕ). IsPolicy act (part os f i.0) n (suc p) (onward act p x reach) bs) q i.2,
              ),
            )

        here : (g ≡ b → ⊥) → (c : Bool) → is_in p reach ≡ c → InPart
        here d true c = (
          p,
          inl (refl, is_in_in p reach (true-T c)),
          (
            rw (c, split_eq, e.0) (in_without g b (os p) (rw c at k.0) d),
            same_lists os (part os f p) n (suc p) (λ s l. sym (split_gt f p (without (f p) (os p)) os s l)) (onward act p b reach) bs k.1,
          ),
        )
        here d false c = absurd (d (in_one (rw c at h.0) ∙ sym (in_one (rw c at k.0))))

        go : Dec (g ≡ b) → (IsPolicy act os n (suc p) (onward act p g reach) bs → Rest) → (◌≡◌ {A = Policy} (g ∷ gs) (b ∷ bs)) ⊎ InPart
        go (yes q) ih = later q (ih (rw q k.1))
        go (no d) ih = inr (here d (is_in p reach) refl)

    -- a part has policies of the lists only, and not gs
    pub sound : (r n p : ℕ) (reach : List ℕ) (gs bs : Policy) → IsPolicy act os n p reach gs → Reads f p gs → Reaches act r p reach gs
        → IsPolicy act (part os f r) n p reach bs → IsPolicy act os n p reach bs × (gs ≡ bs → ⊥)
    sound r zero p reach [] bs h e i k = absurd i
    sound r zero p reach (g ∷ gs) bs h e i k = absurd h
    sound r (suc n) p reach [] bs h e i k = absurd h
    sound r (suc n) p reach (g ∷ gs) [] h e i k = absurd k
    sound r (suc n) p reach (g ∷ gs) (b ∷ bs) h e (inl i) k =
        let w : In b (os p) × (f p ≡ b → ⊥) = barred r p b reach i.0 i.1 k.0 in (
          (
            rw (T_true (is_in p reach) (in_is_in p reach i.1)) w.0,
            same_lists (part os f r) os n (suc p) (λ s l. split_gt f r (without (f r) (os r)) os s (omega arith)) (onward act p b reach) bs k.1,
          ),
          λ q. w.1 (e.0 ∙ head-eq_of_cons-eq q),
        )
    sound r (suc n) p reach (g ∷ gs) (b ∷ bs) h e (inr i) k =
        go (sound r n (suc p) (onward act p g reach) gs bs h.1 e.1 i (rw (← q) k.1))
      where
        q : b ≡ g
        q = held r p b (is_in p reach) (reaches_late act r (suc p) (onward act p g reach) gs i) k.0 g e.0 h.0

        go : IsPolicy act os n (suc p) (onward act p g reach) bs × (gs ≡ bs → ⊥)
            → IsPolicy act os (suc n) p reach (b ∷ bs) × (◌≡◌ {A = Policy} (g ∷ gs) (b ∷ bs) → ⊥)
        go ih = (rw q (h.0, ih.0), λ z. ih.1 (tail-eq_of_cons-eq z))

    -- no policy is in two parts
    pub disjoint : (r s n p : ℕ) → r < s → (reach : List ℕ) (gs bs : Policy) → IsPolicy act os n p reach gs → Reads f p gs
        → Reaches act r p reach gs → IsPolicy act (part os f r) n p reach bs → IsPolicy act (part os f s) n p reach bs → ⊥
    disjoint r s zero p l reach [] bs h e i k m = i
    disjoint r s zero p l reach (g ∷ gs) bs h e i k m = h
    disjoint r s (suc n) p l reach [] bs h e i k m = h
    disjoint r s (suc n) p l reach (g ∷ gs) [] h e i k m = k
    disjoint r s (suc n) p l reach (g ∷ gs) (b ∷ bs) h e (inl i) k m =
        (barred r p b reach i.0 i.1 k.0).1 (e.0 ∙ sym (held s p b (is_in p reach) (omega arith) m.0 g e.0 h.0))
    disjoint r s (suc n) p l reach (g ∷ gs) (b ∷ bs) h e (inr i) k m =
        let q : b ≡ g = held r p b (is_in p reach) (reaches_late act r (suc p) (onward act p g reach) gs i) k.0 g e.0 h.0 in
        disjoint r s n (suc p) l (onward act p g reach) gs bs h.1 e.1 i (rw (← q) k.1) (rw (← q) m.1)

    -- a part that has a policy has an action left at its state
    pub action-left : (r n p : ℕ) (reach : List ℕ) (gs bs : Policy) → IsPolicy act os n p reach gs → Reads f p gs → Reaches act r p reach gs
        → IsPolicy act (part os f r) n p reach bs → (b : ℕ) × In b (without (f r) (os r))
    action-left r zero p reach [] bs h e i k = absurd i
    action-left r zero p reach (g ∷ gs) bs h e i k = absurd h
    action-left r (suc n) p reach [] bs h e i k = absurd h
    action-left r (suc n) p reach (g ∷ gs) [] h e i k = absurd k
    action-left r (suc n) p reach (g ∷ gs) (b ∷ bs) h e (inl i) k =
        let w : In b (os p) × (f p ≡ b → ⊥) = barred r p b reach i.0 i.1 k.0 in
        (b, rw i.0 (in_without (f p) b (os p) w.0 w.1))
    action-left r (suc n) p reach (g ∷ gs) (b ∷ bs) h e (inr i) k =
        let q : b ≡ g = held r p b (is_in p reach) (reaches_late act r (suc p) (onward act p g reach) gs i) k.0 g e.0 h.0 in
        action-left r n (suc p) (onward act p g reach) gs bs h.1 e.1 i (rw (← q) k.1)

    -- a policy of the part of state r has the bytes of gs before r, and reaches r too
    pub part-front : (r n p : ℕ) (reach : List ℕ) (gs bs : Policy) → IsPolicy act os n p reach gs → Reads f p gs → Reaches act r p reach gs
        → IsPolicy act (part os f r) n p reach bs → (h : ℕ → ℕ) → Reads h p bs
        → ((q : ℕ) → p ≤ q → q < r → h q ≡ f q) × Reaches act r p reach bs
    part-front r zero p reach [] bs g e i k h d = absurd i
    part-front r zero p reach (g' ∷ gs) bs g e i k h d = absurd g
    part-front r (suc n) p reach [] bs g e i k h d = absurd g
    part-front r (suc n) p reach (g' ∷ gs) [] g e i k h d = absurd k
    part-front r (suc n) p reach (g' ∷ gs) (b ∷ bs) g e (inl i) k h d = (λ q a l. absurd (omega arith), inl i)
    part-front r (suc n) p reach (g' ∷ gs) (b ∷ bs) g e (inr i) k h d =
        let ih = part-front r n (suc p) (onward act p g' reach) gs bs g.1 e.1 i (rw (← q) k.1) h d.1 in
        (λ s a l. go s (eq-or-lt_of_le a) (λ m. ih.0 s m l), inr (rw q ih.1))
      where
        q : b ≡ g'
        q = held r p b (is_in p reach) (reaches_late act r (suc p) (onward act p g' reach) gs i) k.0 g' e.0 g.0

        go : (s : ℕ) → (p ≡ s) ⊎ (p < s) → (p < s → h s ≡ f s) → h s ≡ f s
        go s (inl j) ih = subst (λ z. h z ≡ f z) j (d.0 ∙ q ∙ sym e.0)
        go s (inr m) ih = ih m
