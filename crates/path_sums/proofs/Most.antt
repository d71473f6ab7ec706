-- The most over paths of the sum over a path's steps of a number for each state (of the action taken there). The most is that of a recursion
-- from the last states to the first, where each state has a path: that is so where D is at least 1. For any actions.
-- Assumes nothing.
use Rattle.std.specs.Prelude.{◌≡◌, refl, ◌⊎◌, ◌↔◌, List, [], ◌∷◌, ℕ, zero, suc, ◌+◌, ◌*◌, ◌≤◌, ◌<◌, max, ℤ, pos, nat_abs, ◌+ℤ◌}
use Rattle.std.proofs.Common.{ap, ◌∙◌, inl, inr, arith, lt-ltb}
use Rattle.std.proofs.Math.Decide.{dec_lt}
use Rattle.model.specs.Lists.{for_each}
use Rattle.model.specs.Model.{Transition, Action}
use Rattle.model.specs.Path.{Path, path_cost, path_sum, stops_after, paths_from}
use Rattle.laws.specs.Int.{abs_add}
use Rattle.laws.specs.Members.{In, in_one, ++-in, for_each_in, map_in, every_imp, AtNexts}
use Rattle.laws.specs.Paths.{stop, stop_ends, step_by, paths_by, Begins, begins}
use Rattle.path_sums.specs.Most.{most_of, most_next, most_to_go}

-- ---- over paths

module _ (here : ℕ → ℕ) where
  pub in_most : (xs : List Path) (x : Path) → In x xs → path_sum here x ≤ most_of here xs
  in_most [] x i = absurd i
  in_most (y ∷ ys) x (inl e) = rw e (omega arith)
  in_most (y ∷ ys) x (inr i) = omega (arith, in_most ys x i)

  -- it is at most k exactly if each sum is
  pub most_within : (k : ℕ) (xs : List Path) → (most_of here xs ≤ k) ↔ ((x : Path) → In x xs → path_sum here x ≤ k)
  most_within k xs = (λ h x i. omega (arith, in_most xs x i), from xs)
    where
      from : (xs : List Path) → ((x : Path) → In x xs → path_sum here x ≤ k) → most_of here xs ≤ k
      from [] h = omega arith
      from (x ∷ xs) h = omega (arith, h x (inl refl), from xs (λ y i. h y (inr i)))

-- ---- by a recursion

module _ (v : ℕ → ℕ) where
  next-most : (ts : List Transition) (t : Transition) → In t ts → v t.next ≤ most_next v ts
  next-most [] t i = absurd i
  next-most (u ∷ ts) t (inl e) = rw e (omega arith)
  next-most (u ∷ ts) t (inr i) = omega (arith, next-most ts t i)

  -- there is no next state, or one of them has it
  next-has : (ts : List Transition) → (ts ≡ []) ⊎ ((t : Transition) × In t ts × (v t.next ≡ most_next v ts))
  next-has [] = inl refl
  next-has (t ∷ ts) = inr (go (dec_lt (v t.next) (most_next v ts)) (next-has ts))
    where
      Has : Type 0
      Has = (u : Transition) × In u (t ∷ ts) × (v u.next ≡ max (v t.next) (most_next v ts))

      go : Dec (v t.next < most_next v ts) → (ts ≡ []) ⊎ ((u : Transition) × In u ts × (v u.next ≡ most_next v ts)) → Has
      go (yes l) (inl e) = absurd (omega (arith, l, ap (most_next v) e))
      go (yes l) (inr h) = (h.0, inr h.1, omega (arith, h.2))
      go (no n) h = (t, inl refl, omega arith)

  next_bound : (B : ℕ) → ((q : ℕ) → v q ≤ B) → (ts : List Transition) → most_next v ts ≤ B
  next_bound B h [] = omega arith
  next_bound B h (t ∷ ts) = omega (arith, h t.next, next_bound B h ts)

pub next-same : (v u : ℕ → ℕ) (ts : List Transition) → AtNexts (λ q. v q ≡ u q) ts → most_next v ts ≡ most_next u ts
next-same v u [] h = refl
next-same v u (t ∷ ts) h = omega (arith, h.0, next-same v u ts h.1)

module _ (here : ℕ → ℕ) (taken : ℕ → Action) where
  -- with at most B for each action, at most B for each stage
  pub to_go_bound : (B : ℕ) → ((p : ℕ) → here p ≤ B) → (m p : ℕ) → most_to_go here taken m p ≤ (m + 1) * B
  to_go_bound B h zero p = omega (arith, h p)
  to_go_bound B h (suc m) p = omega (arith, h p, next_bound (most_to_go here taken m) ((m + 1) * B) (to_go_bound B h m) (taken p).transitions)

  -- by the stages that p and its next states have to come: the pass over the states from the last to the first
  pub by_stage : (togo : ℕ → ℕ) (p : ℕ) → AtNexts (λ q. togo p ≡ suc (togo q)) (taken p).transitions
      → most_to_go here taken (togo p) p ≡ here p + most_next (λ q. most_to_go here taken (togo q) q) (taken p).transitions
  by_stage togo p step = go (togo p) (taken p).transitions refl step
    where
      v : ℕ → ℕ
      v q = most_to_go here taken (togo q) q

      none : (ts : List Transition) → AtNexts (λ q. 0 ≡ suc (togo q)) ts → most_next v ts ≡ 0
      none [] h = refl
      none (t ∷ ts) h = absurd (omega (arith, h.0))

      go : (m : ℕ) (ts : List Transition) → (taken p).transitions ≡ ts → AtNexts (λ q. m ≡ suc (togo q)) ts
          → most_to_go here taken m p ≡ here p + most_next v ts
      go zero ts e h = omega (arith, none ts h)
      go (suc m) ts e h =
          ap (λ (us : List Transition). here p + most_next (most_to_go here taken m) us) e
          ∙ ap (λ (n : ℕ). here p + n)
          (next-same (most_to_go here taken m) v ts
          (every_imp (λ t k. ap (λ (i : ℕ). most_to_go here taken i t.next) (let e : m ≡ togo t.next = omega arith in e)) ts h))

  module _ (D : ℕ) where
    -- no path has more
    pub path_most : (m p : ℕ) (x : Path) → In x (paths_from D taken m p) → path_sum here x ≤ most_to_go here taken m p
    path_most zero p x i = rw (in_one i) (omega arith)
    path_most (suc m) p x i = go (path_most m) (begins D taken m p x i)
      where
        go : ((q : ℕ) (y : Path) → In y (paths_from D taken m q) → path_sum here y ≤ most_to_go here taken m q) → Begins D taken m p x
            → path_sum here x ≤ most_to_go here taken (suc m) p
        go ih (inl b) =
            rw b.2.1
            (omega (arith, ih b.0.next b.2.0 b.2.2, next-most (most_to_go here taken m) (taken p).transitions b.0 b.1))
        go ih (inr j) = rw (stop_ends D m p (taken p) x j).0 (omega arith)

    -- and one has as much
    pub path_has : 1 ≤ D → (m p : ℕ) → (x : Path) × In x (paths_from D taken m p) × (path_sum here x ≡ most_to_go here taken m p)
    path_has some zero p = (_, inl refl, omega arith)
    path_has some (suc m) p = go (path_has some m) (next-has (most_to_go here taken m) (taken p).transitions)
      where
        v : ℕ → ℕ
        v = most_to_go here taken m

        by : List Path
        by = for_each (paths_by D taken m p) (taken p).transitions

        Has : Type 0
        Has = (x : Path) × In x (paths_from D taken (suc m) p) × (path_sum here x ≡ most_to_go here taken (suc m) p)

        stops : (a : Action) → a.transitions ≡ [] → In (stop D m p a) (stops_after D m p a)
        stops a e = rw (e, lt-ltb 0 D (omega arith)) (inl refl)

        go : ((q : ℕ) → (x : Path) × In x (paths_from D taken m q) × (path_sum here x ≡ v q))
            → ((taken p).transitions ≡ []) ⊎ ((t : Transition) × In t (taken p).transitions × (v t.next ≡ most_next v (taken p).transitions)) → Has
        go ih (inl e) = (
          stop D m p (taken p),
          ++-in (stop D m p (taken p)) by (stops_after D m p (taken p)) (inr (stops (taken p) e)),
          omega (arith, ap (most_next v) e),
        )
        go ih (inr h) =
            let y = ih h.0.next in (
              step_by taken p h.0 ∷ y.0,
              ++-in (step_by taken p h.0 ∷ y.0) by (stops_after D m p (taken p))
                  (inl (for_each_in (paths_by D taken m p) (step_by taken p h.0 ∷ y.0) (taken p).transitions h.0 h.1
                  (map_in (λ (x : Path). step_by taken p h.0 ∷ x) y.0 (paths_from D taken m h.0.next) y.1))),
              omega (arith, y.2, h.2),
            )

    -- so the most over the paths is that of the recursion
    pub most-paths : 1 ≤ D → (m p : ℕ) → most_of here (paths_from D taken m p) ≡ most_to_go here taken m p
    most-paths some m p =
        let h = path_has some m p in
        let low = in_most here (paths_from D taken m p) h.0 h.1 in
        let high = (most_within here (most_to_go here taken m p) (paths_from D taken m p)).1 (path_most m p) in
        omega (arith, h.2)

-- ---- the cost of a path

one_more : (c z : ℤ) (n : ℕ) → nat_abs z ≤ n → nat_abs (c +ℤ z) ≤ nat_abs c + n
one_more c z n h = omega (arith, abs_add c z)

module _ (D : ℕ) (taken : ℕ → Action) where
  -- an action's cost without its sign
  abbrev size : ℕ → ℕ
  size p = nat_abs (taken p).cost

  -- without its sign it is at most the sum of the costs without theirs
  pub cost-most : (m p : ℕ) (x : Path) → In x (paths_from D taken m p) → nat_abs (path_cost x) ≤ path_sum (λ q. nat_abs (taken q).cost) x
  cost-most zero p x i = rw (in_one i) (one_more (taken p).cost (pos 0) 0 (omega arith))
  cost-most (suc m) p x i = go (cost-most m) (begins D taken m p x i)
    where
      go : ((q : ℕ) (y : Path) → In y (paths_from D taken m q) → nat_abs (path_cost y) ≤ path_sum size y) → Begins D taken m p x
          → nat_abs (path_cost x) ≤ path_sum size x
      go ih (inl b) = rw b.2.1 (one_more (taken p).cost (path_cost b.2.0) (path_sum size b.2.0) (ih b.0.next b.2.0 b.2.2))
      go ih (inr j) = rw (stop_ends D m p (taken p) x j).0 (one_more (taken p).cost (pos 0) 0 (omega arith))
