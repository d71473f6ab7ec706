-- The sum over all paths of weight × cost is the cost-to-go by the recursion, where the weights of each action add to at most D: what is missing is
-- the weight of the path that stops there. No path has weight 0.
-- Assumes nothing.
use Rattle.std.specs.Prelude.{◌≡◌, refl, Bool, true, false, cond, ◌⊎◌, List, [], ◌∷◌, ◌++◌, map, ℕ, zero, suc, ◌+◌, ◌*◌, ◌-◌, ◌^◌, ◌≤◌, ◌<◌, ltb, ℤ, pos, ◌+ℤ◌, ◌*ℤ◌, length}
use Rattle.std.proofs.Common.{sym, ap, ap₂, ◌∙◌, inl, inr, pow-suc, zero-add, add-mul, mul-pos, arith, ltb-true, ltb-false}
use Rattle.std.proofs.Math.Nat.{pow-zero, one-le-pow}
use Rattle.std.proofs.Math.IntN.{+ℤ_idl, +ℤ_assoc}
use Rattle.model.specs.Lists.{for_each}
use Rattle.model.specs.Model.{Transition, Action, weights_of, missing}
use Rattle.model.specs.Path.{Step, Path, path_weight, path_cost, stops_after, paths_from, total_cost, total_weight}
use Rattle.model.specs.Recursion.{expected, cost_to_go}
use Rattle.laws.specs.Int.{is, dif_eq, ring}
use Rattle.laws.specs.Members.{In, Every, every_in, in_one, in_++, in_for_each, in_map}

-- ---- lists of paths

weight_++ : (xs ys : List Path) → total_weight (xs ++ ys) ≡ total_weight xs + total_weight ys
weight_++ [] ys = sym (zero-add (total_weight ys))
weight_++ (x ∷ xs) ys = rw (weight_++ xs ys) (omega arith)

cost_++ : (xs ys : List Path) → total_cost (xs ++ ys) ≡ total_cost xs +ℤ total_cost ys
cost_++ [] ys = sym (+ℤ_idl (total_cost ys))
cost_++ (x ∷ xs) ys =
    ap (λ (z : ℤ). pos (path_weight x) *ℤ path_cost x +ℤ z) (cost_++ xs ys)
    ∙ sym (+ℤ_assoc (pos (path_weight x) *ℤ path_cost x) (total_cost xs) (total_cost ys))

-- one step in front of each path
weight_step : (s : Step) (xs : List Path) → total_weight (map (λ (x : Path). s ∷ x) xs) ≡ s.weight * total_weight xs
weight_step s [] = omega arith
weight_step s (x ∷ xs) = rw (weight_step s xs) (omega arith)

no_path : (w : ℕ) (c : ℤ) → pos 0 ≡ pos (w * 0) *ℤ c +ℤ pos w *ℤ pos 0
no_path w c = rw (is c) (simp ring (dif_eq _ _ _ _ (omega arith)))

one_path : (w v u : ℕ) (c d t : ℤ)
    → pos (w * v) *ℤ (c +ℤ d) +ℤ (pos (w * u) *ℤ c +ℤ pos w *ℤ t) ≡ pos (w * (v + u)) *ℤ c +ℤ pos w *ℤ (pos v *ℤ d +ℤ t)
one_path w v u c d t = rw (is c, is d, is t) (simp ring (dif_eq _ _ _ _ (omega arith)))

cost_step : (s : Step) (xs : List Path)
    → total_cost (map (λ (x : Path). s ∷ x) xs) ≡ pos (s.weight * total_weight xs) *ℤ s.cost +ℤ pos s.weight *ℤ total_cost xs
cost_step s [] = no_path s.weight s.cost
cost_step s (x ∷ xs) =
    ap (λ (z : ℤ). pos (s.weight * path_weight x) *ℤ (s.cost +ℤ path_cost x) +ℤ z) (cost_step s xs)
    ∙ one_path s.weight (path_weight x) (total_weight xs) s.cost (path_cost x) (total_cost xs)

-- ---- the path that stops after an action

one_step : (w : ℕ) (c : ℤ) → pos (w * 1) *ℤ (c +ℤ pos 0) +ℤ pos 0 ≡ pos w *ℤ c
one_step w c = rw (is c) (simp ring (dif_eq _ _ _ _ (omega arith)))

no_step : (e : ℕ) (c : ℤ) → pos 0 ≡ pos (0 * e) *ℤ c
no_step e c = rw (is c) (simp ring (dif_eq _ _ _ _ (omega arith)))

module _ (D m p : ℕ) (a : Action) where
  abbrev pub stop : Path
  stop = record { state = p; cost = a.cost; weight = missing D a * D ^ m } ∷ []

  none-missing : ltb (weights_of a.transitions) D ≡ false → missing D a ≡ 0
  none-missing e = omega (arith, ltb-false (weights_of a.transitions) D e)

  weight_stop : total_weight (stops_after D m p a) ≡ missing D a * D ^ m
  weight_stop = go (ltb (weights_of a.transitions) D) refl
    where
      go : (b : Bool) → ltb (weights_of a.transitions) D ≡ b → total_weight (cond b (stop ∷ []) []) ≡ missing D a * D ^ m
      go true e = omega arith
      go false e = rw (none-missing e) (omega arith)

  cost-stop : total_cost (stops_after D m p a) ≡ pos (missing D a * D ^ m) *ℤ a.cost
  cost-stop = go (ltb (weights_of a.transitions) D) refl
    where
      go : (b : Bool) → ltb (weights_of a.transitions) D ≡ b → total_cost (cond b (stop ∷ []) []) ≡ pos (missing D a * D ^ m) *ℤ a.cost
      go true e = one_step (missing D a * D ^ m) a.cost
      go false e = rw (none-missing e) (no_step (D ^ m) a.cost)

  pub stop_ends : (x : Path) → In x (stops_after D m p a) → (x ≡ stop) × (weights_of a.transitions < D)
  stop_ends x = go (ltb (weights_of a.transitions) D) refl
    where
      go : (b : Bool) → ltb (weights_of a.transitions) D ≡ b → In x (cond b (stop ∷ []) []) → (x ≡ stop) × (weights_of a.transitions < D)
      go true e i = (in_one i, ltb-true (weights_of a.transitions) D e)
      go false e i = absurd i

  positive_stop : (x : Path) → In x (stops_after D m p a) → 0 < path_weight x
  positive_stop x i =
      let e = stop_ends x i in
      let w = mul-pos {m = missing D a} {n = D ^ m} (omega (arith, e.1)) (omega (arith, one-le-pow m D (omega (arith, e.1)))) in
      rw e.0 (omega arith)

-- what is passed on and what is missing make the whole
all-parts : (w D m : ℕ) → w ≤ D → w * D ^ m + (D - w) * D ^ m ≡ D ^ suc m
all-parts w D m h =
    sym (add-mul w (D - w) (D ^ m)) ∙ ap (λ (n : ℕ). n * D ^ m) (let e : w + (D - w) ≡ D = omega arith in e) ∙ rw (pow-suc D m) (omega arith)

-- the state at which a path ends, where it begins after state p
abbrev pub ends_at : ℕ → Path → ℕ
ends_at p [] = p
ends_at p (s ∷ ss) = ends_at s.state ss

-- ---- the paths from a state

last_step : (c : ℤ) → pos 1 *ℤ (c +ℤ pos 0) +ℤ pos 0 ≡ c
last_step c = rw (is c) (simp ring (dif_eq _ _ _ _ (omega arith)))

no_transition : (e : ℕ) (c : ℤ) → pos 0 ≡ pos (0 * e) *ℤ c +ℤ pos 0
no_transition e c = rw (is c) (simp ring (dif_eq _ _ _ _ (omega arith)))

one_transition : (w v e : ℕ) (c t s : ℤ)
    → pos (w * e) *ℤ c +ℤ t +ℤ (pos (v * e) *ℤ c +ℤ s) ≡ pos ((w + v) * e) *ℤ c +ℤ (t +ℤ s)
one_transition w v e c t s = rw (is c, is t, is s) (simp ring (dif_eq _ _ _ _ (omega arith)))

with-stop : (x y : ℕ) (c t : ℤ) → pos x *ℤ c +ℤ t +ℤ pos y *ℤ c ≡ pos (x + y) *ℤ c +ℤ t
with-stop x y c t = rw (is c, is t) (simp ring (dif_eq _ _ _ _ (omega arith)))

-- the step at state p that takes transition t
abbrev pub step_by : (ℕ → Action) → ℕ → Transition → Step
step_by taken p t = record { state = p; cost = (taken p).cost; weight = t.weight }

module _ (D : ℕ) (taken : ℕ → Action) where
  -- the paths from state p that begin with transition t
  abbrev pub paths_by : ℕ → ℕ → Transition → List Path
  paths_by m p t = map (λ (x : Path). step_by taken p t ∷ x) (paths_from D taken m t.next)

  module _ (small : (p : ℕ) → weights_of (taken p).transitions ≤ D) where
    weight_by : (m p : ℕ) → ((q : ℕ) → total_weight (paths_from D taken m q) ≡ D ^ m)
        → (ts : List Transition) → total_weight (for_each (paths_by m p) ts) ≡ weights_of ts * D ^ m
    weight_by m p ih [] = omega arith
    weight_by m p ih (t ∷ ts) =
        weight_++ (paths_by m p t) (for_each (paths_by m p) ts)
        ∙ ap₂ ◌+◌ (weight_step (step_by taken p t) (paths_from D taken m t.next) ∙ ap (λ (n : ℕ). t.weight * n) (ih t.next)) (weight_by m p ih ts)
        ∙ omega arith

    -- the weights of the paths add to D^m
    pub weight_paths : (m p : ℕ) → total_weight (paths_from D taken m p) ≡ D ^ m
    weight_paths zero p = sym (pow-zero D)
    weight_paths (suc m) p =
        weight_++ (for_each (paths_by m p) (taken p).transitions) (stops_after D m p (taken p))
        ∙ ap₂ ◌+◌ (weight_by m p (weight_paths m) (taken p).transitions) (weight_stop D m p (taken p))
        ∙ all-parts (weights_of (taken p).transitions) D m (small p)

    cost_by : (m p : ℕ) → ((q : ℕ) → total_cost (paths_from D taken m q) ≡ cost_to_go D taken m q)
        → (ts : List Transition)
        → total_cost (for_each (paths_by m p) ts) ≡ pos (weights_of ts * D ^ m) *ℤ (taken p).cost +ℤ expected (cost_to_go D taken m) ts
    cost_by m p ih [] = no_transition (D ^ m) (taken p).cost
    cost_by m p ih (t ∷ ts) =
        cost_++ (paths_by m p t) (for_each (paths_by m p) ts)
        ∙ ap₂ ◌+ℤ◌
        (cost_step (step_by taken p t) (paths_from D taken m t.next)
        ∙ ap₂ (λ (n : ℕ) (z : ℤ). pos (t.weight * n) *ℤ (taken p).cost +ℤ pos t.weight *ℤ z) (weight_paths m t.next) (ih t.next))
        (cost_by m p ih ts)
        ∙ one_transition t.weight (weights_of ts) (D ^ m) (taken p).cost
        (pos t.weight *ℤ cost_to_go D taken m t.next) (expected (cost_to_go D taken m) ts)

    -- the sum over the paths of weight × cost is the cost-to-go
    pub cost-paths : (m p : ℕ) → total_cost (paths_from D taken m p) ≡ cost_to_go D taken m p
    cost-paths zero p = last_step (taken p).cost
    cost-paths (suc m) p =
        cost_++ (for_each (paths_by m p) (taken p).transitions) (stops_after D m p (taken p))
        ∙ ap₂ ◌+ℤ◌ (cost_by m p (cost-paths m) (taken p).transitions) (cost-stop D m p (taken p))
        ∙ with-stop (weights_of (taken p).transitions * D ^ m) (missing D (taken p) * D ^ m) (taken p).cost
        (expected (cost_to_go D taken m) (taken p).transitions)
        ∙ ap (λ (n : ℕ). pos n *ℤ (taken p).cost +ℤ expected (cost_to_go D taken m) (taken p).transitions)
        (all-parts (weights_of (taken p).transitions) D m (small p))

  -- a path from state p begins with the step of a transition, or stops there
  abbrev pub Begins : ℕ → ℕ → Path → Type 0
  Begins m p x =
      ((t : Transition) × In t (taken p).transitions × ((y : Path) × (x ≡ step_by taken p t ∷ y) × In y (paths_from D taken m t.next)))
      ⊎ In x (stops_after D m p (taken p))

  pub begins : (m p : ℕ) (x : Path) → In x (paths_from D taken (suc m) p) → Begins m p x
  begins m p x i = go (in_++ x (for_each (paths_by m p) (taken p).transitions) (stops_after D m p (taken p)) i)
    where
      go : In x (for_each (paths_by m p) (taken p).transitions) ⊎ In x (stops_after D m p (taken p)) → Begins m p x
      go (inl j) =
          let t = in_for_each (paths_by m p) x (taken p).transitions j in
          inl (t.0, t.1, in_map (λ (y : Path). step_by taken p t.0 ∷ y) x (paths_from D taken m t.0.next) t.2)
      go (inr j) = inr j

  -- where no transition has weight 0, no path has
  pub positive_paths : ((p : ℕ) → Every (λ (t : Transition). 0 < t.weight) (taken p).transitions)
      → (m p : ℕ) (x : Path) → In x (paths_from D taken m p) → 0 < path_weight x
  positive_paths some zero p x i = rw (in_one i) (omega arith)
  positive_paths some (suc m) p x i = go (positive_paths some m) (begins m p x i)
    where
      go : ((q : ℕ) (y : Path) → In y (paths_from D taken m q) → 0 < path_weight y) → Begins m p x → 0 < path_weight x
      go ih (inl b) =
          rw b.2.1
          (mul-pos {m = b.0.weight} {n = path_weight b.2.0}
          (every_in (λ (t : Transition). 0 < t.weight) (taken p).transitions (some p) b.0 b.1) (ih b.0.next b.2.0 b.2.2))
      go ih (inr j) = positive_stop D m p (taken p) x j

  -- a path that begins after state d has a step for each stage, or it ends earlier after an action whose weights add to less than D
  abbrev pub Ends : ℕ → ℕ → Path → Type 0
  Ends m d x = (length x ≡ m + 1) ⊎ ((length x ≤ m) × (weights_of (taken (ends_at d x)).transitions < D))

  pub path_ends : (m p : ℕ) (x : Path) → In x (paths_from D taken m p) → (d : ℕ) → Ends m d x
  path_ends zero p x i d = inl (rw (in_one i) (omega arith))
  path_ends (suc m) p x i d = go (path_ends m) (begins m p x i)
    where
      longer : (t : Transition) (y : Path) → Ends m p y → Ends (suc m) d (step_by taken p t ∷ y)
      longer t y (inl e) = inl (omega arith)
      longer t y (inr h) = inr (omega (arith, h.0), h.1)

      go : ((q : ℕ) (y : Path) → In y (paths_from D taken m q) → (d : ℕ) → Ends m d y) → Begins m p x → Ends (suc m) d x
      go ih (inl b) = rw b.2.1 (longer b.0 b.2.0 (ih b.0.next b.2.0 b.2.2 p))
      go ih (inr j) = let e = stop_ends D m p (taken p) x j in rw e.0 (inr (omega arith, e.1))
