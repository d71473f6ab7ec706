-- The K best policies. A candidate is lists of actions, one for each state: it stands for the policies of these lists, and its first element is their
-- first policy. Its children are the parts of the others. The search over these candidates, from the lists of the model on, lists the first K of the
-- model's policies.
-- Assumes nothing.
use Rattle.std.specs.Prelude.{◌≡◌, refl, Bool, true, false, ◌⊎◌, List, [], ◌∷◌, ℕ, suc, ◌<◌, T, take, ℤ, ◌≤ℤ◌}
use Rattle.std.proofs.Common.{subst, inl, inr, zero-add, arith}
use Rattle.std.proofs.Math.Decide.{dec_lt}
use Rattle.std.specs.Int.Signed.{le_z, le_z_yes}
use Rattle.model.specs.Lists.{is_in, sorted}
use Rattle.model.specs.Model.{Action}
use Rattle.model.specs.Policy.{Policy, onward, policies_from}
use Rattle.model.specs.Path.{byte_at}
use Rattle.model.specs.Order.{lower, before}
use Rattle.laws.specs.Int.{le_z_no}
use Rattle.laws.specs.Members.{true-T, false-T, In, in_one, Every, is_in_in, in_is_in, Rising, AtNexts}
use Rattle.laws.specs.Policies.{IsPolicy, policy_in, in_policy, reads}
use Rattle.laws.specs.Order.{lower_is, before_is, strict, total}
use Rattle.laws.specs.Ascent.{policies_apart}
use Rattle.laws.specs.Greedy.{byte_cases}
use Rattle.laws.specs.First.{Shape, Lists, cost_from0, first_policy, is_policy_lem, cheapest, comes_first}
use Rattle.splits.specs.Parts.{without, without_in, rising_without, split_lt, split_eq, split_gt, part}
use Rattle.splits.specs.Parts.{Reaches, reaches_late, cover, sound, disjoint, action-left}
use Rattle.splits.specs.Search.{run, Some, Pairs, Scheme, run_is}

-- ---- the children of a candidate

-- lists of actions, one for each state
abbrev Options : Type 0
Options = ℕ → List ℕ

-- k in front of ks, where the state is reached and has an action left
abbrev pub add_child : Bool → List ℕ → (ℕ → List ℕ) → List (ℕ → List ℕ) → List (ℕ → List ℕ)
add_child false left k ks = ks
add_child true [] k ks = ks
add_child true (x ∷ xs) k ks = k ∷ ks

module _ (act : ℕ → ℕ → Action) (os : ℕ → List ℕ) (f : ℕ → ℕ) where
  -- the parts of the states that the bytes gs of the states from p on reach, each with an action left at its state
  abbrev pub children_from : ℕ → List ℕ → Policy → List (ℕ → List ℕ)
  children_from p reach [] = []
  children_from p reach (g ∷ gs) =
      add_child (is_in p reach) (without (f p) (os p)) (part os f p) (children_from (suc p) (onward act p g reach) gs)

  ChildrenEvery : (P : Options → Type 0) (p : ℕ) (reach : List ℕ) (gs : Policy)
      → ((r : ℕ) → Reaches act r p reach gs → (b : ℕ) → In b (without (f r) (os r)) → P (part os f r)) → Every P (children_from p reach gs)
  ChildrenEvery P p reach [] h = tt
  ChildrenEvery P p reach (g ∷ gs) h =
      go (is_in p reach) refl (without (f p) (os p)) (λ t b i. h p (inl (refl, is_in_in p reach t)) b i)
      (ChildrenEvery P (suc p) (onward act p g reach) gs (λ r i b j. h r (inr i) b j))
    where
      rest : List Options
      rest = children_from (suc p) (onward act p g reach) gs

      go : (c : Bool) → is_in p reach ≡ c → (xs : List ℕ) → (T (is_in p reach) → (b : ℕ) → In b xs → P (part os f p)) → Every P rest
          → Every P (add_child c xs (part os f p) rest)
      go false e xs h ih = ih
      go true e [] h ih = ih
      go true e (x ∷ xs) h ih = (h (true-T e) x (inl refl), ih)

  ChildrenPairs : (R : Options → Options → Type 0) (p : ℕ) (reach : List ℕ) (gs : Policy)
      → ((r s : ℕ) → r < s → Reaches act r p reach gs → R (part os f r) (part os f s)) → Pairs R (children_from p reach gs)
  ChildrenPairs R p reach [] h = tt
  ChildrenPairs R p reach (g ∷ gs) h =
      go (is_in p reach) refl (without (f p) (os p)) (ChildrenPairs R (suc p) (onward act p g reach) gs (λ r s l i. h r s l (inr i)))
    where
      rest : List Options
      rest = children_from (suc p) (onward act p g reach) gs

      front : T (is_in p reach) → Every (R (part os f p)) rest
      front t =
          ChildrenEvery (R (part os f p)) (suc p) (onward act p g reach) gs
          (λ r i b j. h p r (reaches_late act r (suc p) (onward act p g reach) gs i) (inl (refl, is_in_in p reach t)))

      go : (c : Bool) → is_in p reach ≡ c → (xs : List ℕ) → Pairs R rest → Pairs R (add_child c xs (part os f p) rest)
      go false e xs ih = ih
      go true e [] ih = ih
      go true e (x ∷ xs) ih = (front (true-T e), ih)

  children_some : (P : Options → Type 0) (r p : ℕ) (reach : List ℕ) (gs : Policy) → Reaches act r p reach gs
      → (b : ℕ) → In b (without (f r) (os r)) → P (part os f r) → Some P (children_from p reach gs)
  children_some P r p reach [] i b j k = i
  children_some P r p reach (g ∷ gs) (inl i) b j k =
      go (is_in p reach) (in_is_in p reach i.1) (without (f p) (os p)) (rw i.0 at j)
    where
      go : (c : Bool) → T c → (xs : List ℕ) → In b xs → Some P (add_child c xs (part os f p) (children_from (suc p) (onward act p g reach) gs))
      go false t xs j = absurd t
      go true t [] j = absurd j
      go true t (x ∷ xs) j = inl (subst (λ (z : ℕ). P (part os f z)) i.0 k)
  children_some P r p reach (g ∷ gs) (inr i) b j k =
      go (is_in p reach) (without (f p) (os p)) (children_some P r (suc p) (onward act p g reach) gs i b j k)
    where
      rest : List Options
      rest = children_from (suc p) (onward act p g reach) gs

      go : (c : Bool) (xs : List ℕ) → Some P rest → Some P (add_child c xs (part os f p) rest)
      go false xs s = s
      go true [] s = s
      go true (x ∷ xs) s = inr s

-- the child of a candidate at state r
abbrev pub child_at : ℕ → ℕ → (ℕ → ℕ → Action) → (ℕ → ℕ) → (ℕ → List ℕ) → ℕ → ℕ → List ℕ
child_at D S act togo os r = part os (byte_at (first_policy D S act togo os)) r

-- the children of a candidate: the parts of its policies other than the first
abbrev pub children : ℕ → ℕ → (ℕ → ℕ → Action) → (ℕ → ℕ) → (ℕ → List ℕ) → List (ℕ → List ℕ)
children D S act togo os =
    children_from act os (byte_at (first_policy D S act togo os)) 0 (0 ∷ []) (first_policy D S act togo os)

-- ---- a child that has an action left at its state is lists as the laws ask for

module _ (D S : ℕ) (act : ℕ → ℕ → Action) (togo : ℕ → ℕ) (sh : Shape S act togo) (Alive : ℕ → Type 0) (os : ℕ → List ℕ)
    (l : Lists Alive act os) where
  pub child_lists : (r b : ℕ) → In b (without (byte_at (first_policy D S act togo os) r) (os r)) → Lists Alive act (child_at D S act togo os r)
  child_lists r b i = record {
    rising = λ p. rising p (dec_lt p r) (dec_lt r p);
    first_alive = l.first_alive;
    some_action = λ p h. some p h (dec_lt p r) (dec_lt r p);
    stays_alive = λ p c h j. stays p c h (dec_lt p r) (dec_lt r p) j;
  }
    where
      f : ℕ → ℕ
      f = byte_at (first_policy D S act togo os)

      xs : List ℕ
      xs = without (f r) (os r)

      same : (p : ℕ) → ¬ (p < r) → ¬ (r < p) → p ≡ r
      same p u v = omega arith

      rising : (p : ℕ) → Dec (p < r) → Dec (r < p) → Rising (part os f r p)
      rising p (yes u) v = rw (split_lt f r xs os p u) (tt, tt)
      rising p (no u) (yes v) = rw (split_gt f r xs os p v) (l.rising p)
      rising p (no u) (no v) = rw (same p u v, split_eq f r xs os) (rising_without (f r) (os r) (l.rising r))

      some : (p : ℕ) → Alive p → Dec (p < r) → Dec (r < p) → (c : ℕ) × In c (part os f r p)
      some p h (yes u) v = (f p, rw (split_lt f r xs os p u) (inl refl))
      some p h (no u) (yes v) = rw (split_gt f r xs os p v) (l.some_action p h)
      some p h (no u) (no v) = (b, rw (same p u v, split_eq f r xs os) i)

      held : (p : ℕ) → Alive p → In (f p) (os p) ⊎ (f p ≡ 255) → AtNexts Alive (act p (f p)).transitions
      held p h (inl k) = l.stays_alive p (f p) h k
      held p h (inr e) = rw (e, sh.bare p) tt

      stays : (p c : ℕ) → Alive p → Dec (p < r) → Dec (r < p) → In c (part os f r p) → AtNexts Alive (act p c).transitions
      stays p c h (yes u) v j = rw (in_one (rw (split_lt f r xs os p u) at j)) (held p h (rw zero-add at (byte_cases D act os togo S 0 (0 ∷ []) p)))
      stays p c h (no u) (yes v) j = l.stays_alive p c h (rw (split_gt f r xs os p v) at j)
      stays p c h (no u) (no v) j =
          l.stays_alive p c h (rw (same p u v) (without_in (f r) c (os r) (rw (same p u v, split_eq f r xs os) at j)).0)

-- ---- the search

module _ (D S : ℕ) (act : ℕ → ℕ → Action) (togo : ℕ → ℕ) (sh : Shape S act togo) (Alive : ℕ → Type 0) (all : ℕ → List ℕ)
    (li : Lists Alive act all) where
  -- the policies of lists
  abbrev Has : Options → Policy → Type 0
  Has os bs = IsPolicy act os S 0 (0 ∷ []) bs

  record Valid (os : Options) : Type 0 where
    lists : Lists Alive act os
    among : (u : Policy) → Has os u → Has all u

  abbrev first : Options → Policy
  first = first_policy D S act togo

  abbrev cost : Policy → ℤ
  cost = cost_from0 D act togo

  abbrev U : List Policy
  U = policies_from act all S 0 (0 ∷ [])

  first-has : (os : Options) → Valid os → Has os (first os)
  first-has os v = is_policy_lem D S act togo sh Alive os v.lists

  firsts : (os : Options) (u : Policy) → Valid os → Has os u → (first os ≡ u) ⊎ T (before cost (first os) u)
  firsts os u v h = go (le_z (cost u) (cost (first os))) refl
    where
      le : cost (first os) ≤ℤ cost u
      le = cheapest D S act togo sh Alive os v.lists u h

      equal : (first os ≡ u) ⊎ T (lower (first os) u) → (first os ≡ u) ⊎ T (before cost (first os) u)
      equal (inl e) = inl e
      equal (inr l) = inr ((before_is cost (first os) u).1 (inr (le, (lower_is (first os) u).0 l)))

      go : (c : Bool) → le_z (cost u) (cost (first os)) ≡ c → (first os ≡ u) ⊎ T (before cost (first os) u)
      go true e = equal (comes_first D S act togo sh Alive os v.lists u h (le_z_yes (true-T e)))
      go false e = inr ((before_is cost (first os) u).1 (inl (le_z_no (false-T e))))

  covers : (os : Options) (u : Policy) → Valid os → Has os u → (first os ≡ u) ⊎ Some (λ k. Has k u) (children D S act togo os)
  covers os u v h = go (cover act os f S 0 (0 ∷ []) (first os) u (first-has os v) (reads (first os)) h)
    where
      f : ℕ → ℕ
      f = byte_at (first os)

      go : (first os ≡ u) ⊎ ((r : ℕ) × Reaches act r 0 (0 ∷ []) (first os) × Has (part os f r) u)
          → (first os ≡ u) ⊎ Some (λ k. Has k u) (children D S act togo os)
      go (inl e) = inl e
      go (inr h) =
          let b = action-left act os f h.0 S 0 (0 ∷ []) (first os) u (first-has os v) (reads (first os)) h.1 h.2 in
          inr (children_some act os f (λ k. Has k u) h.0 0 (0 ∷ []) (first os) h.1 b.0 b.1 h.2)

  fewer : (os : Options) → Valid os → (r : ℕ) → Reaches act r 0 (0 ∷ []) (first os) → (b : ℕ) → In b (without (byte_at (first os) r) (os r))
      → Valid (part os (byte_at (first os)) r) × ((u : Policy) → Has (part os (byte_at (first os)) r) u → Has os u × (first os ≡ u → ⊥))
  fewer os v r i b j = (
    record { lists = child_lists D S act togo sh Alive os v.lists r b j; among = λ u h. v.among u (some u h).0 },
    some,
  )
    where
      f : ℕ → ℕ
      f = byte_at (first os)

      some : (u : Policy) → Has (part os f r) u → Has os u × (first os ≡ u → ⊥)
      some u h = sound act os f r S 0 (0 ∷ []) (first os) u (first-has os v) (reads (first os)) i h

  apart_children : (os : Options) → Valid os → Pairs (λ k l. (u : Policy) → Has k u → Has l u → ⊥) (children D S act togo os)
  apart_children os v =
      ChildrenPairs act os f (λ k l. (u : Policy) → Has k u → Has l u → ⊥) 0 (0 ∷ []) (first os)
      (λ r s l i u x y. disjoint act os f r s S 0 l (0 ∷ []) (first os) u (first-has os v) (reads (first os)) i x y)
    where
      f : ℕ → ℕ
      f = byte_at (first os)

  scheme : Scheme (before cost) (strict cost) U (policies_apart act all li.rising S 0 (0 ∷ [])) (total act all cost S) first Has Valid
      (children D S act togo)
  scheme = record {
    first-has = first-has;
    inside = λ os u v h. policy_in act all S 0 (0 ∷ []) u (v.among u h);
    firsts = firsts;
    cover = covers;
    fewer = λ os v. ChildrenEvery act os (byte_at (first os)) (λ k. Valid k × ((u : Policy) → Has k u → Has os u × (first os ≡ u → ⊥))) 0 (0 ∷ [])
        (first os) (fewer os v);
    parts = apart_children;
  }

  -- the search lists the first K of the policies in their order
  pub the_best : (K : ℕ)
      → run (before (cost_from0 D act togo)) (first_policy D S act togo) (children D S act togo) K K (all ∷ [])
      ≡ take K (sorted (before (cost_from0 D act togo)) (policies_from act all S 0 (0 ∷ [])))
  the_best K =
      run_is (before cost) (strict cost) U (policies_apart act all li.rising S 0 (0 ∷ [])) (total act all cost S) first Has Valid
      (children D S act togo) scheme K all (record { lists = li; among = λ u h. h }) (λ u i. in_policy act all S 0 (0 ∷ []) u i)
