-- Costs that are raised. `rise q` is how much more the action costs that is taken at state q. The paths are the same ones, with the rises of their states
-- added to their costs, so the sum over all paths rises by the sum of weight × rise. A path passes a state at most once: where one state's action
-- costs d more, the sum rises by d × the weight of the paths that pass the state.
-- Assumes nothing.
use Rattle.std.specs.Prelude.{◌≡◌, refl, Bool, true, false, ◌||◌, cond, List, [], ◌∷◌, ◌++◌, map, ℕ, zero, suc, ◌+◌, ◌*◌, ◌≤◌, ◌<◌, eqb, ltb, ℤ, pos, ◌+ℤ◌, ◌*ℤ◌}
use Rattle.std.proofs.Common.{sym, ap, ap₂, ◌∙◌, inl, inr, arith, eqb-true, eq-eqb, ne_eqb}
use Rattle.std.proofs.lemmas.List.{map-append}
use Rattle.model.specs.Lists.{bit, for_each}
use Rattle.model.specs.Model.{Transition, Action, weights_of}
use Rattle.model.specs.Path.{Step, Path, path_weight, path_cost, stops_after, paths_from, total_cost, total_weight}
use Rattle.laws.specs.Int.{is, dif_eq, ring}
use Rattle.laws.specs.Members.{In, in_one, Every, every_in, in_every, AtNexts}
use Rattle.laws.specs.Paths.{stop, stop_ends, step_by, paths_by, Begins, begins}

-- an action that costs d more
abbrev pub raise : ℕ → Action → Action
raise d a = record { cost = a.cost +ℤ pos d; transitions = a.transitions }

-- ---- paths with raised costs

module _ (rise : ℕ → ℕ) where
  -- a step and a path with what their states add
  abbrev pub raise_step : Step → Step
  raise_step s = record { state = s.state; cost = s.cost +ℤ pos (rise s.state); weight = s.weight }

  abbrev pub raise_path : Path → Path
  raise_path x = map raise_step x

  -- how much more a path costs, and the sum over paths of weight × that
  abbrev pub path_rise : Path → ℕ
  path_rise [] = 0
  path_rise (s ∷ ss) = rise s.state + path_rise ss

  abbrev pub total_rise : List Path → ℕ
  total_rise [] = 0
  total_rise (x ∷ xs) = path_weight x * path_rise x + total_rise xs

  weight_raised : (x : Path) → path_weight (raise_path x) ≡ path_weight x
  weight_raised [] = refl
  weight_raised (s ∷ ss) = ap (λ (n : ℕ). s.weight * n) (weight_raised ss)

  one_step : (c x : ℤ) (r y : ℕ) → c +ℤ pos r +ℤ (x +ℤ pos y) ≡ c +ℤ x +ℤ pos (r + y)
  one_step c x r y = rw (is c, is x) (simp ring (dif_eq _ _ _ _ (omega arith)))

  cost-raised : (x : Path) → path_cost (raise_path x) ≡ path_cost x +ℤ pos (path_rise x)
  cost-raised [] = refl
  cost-raised (s ∷ ss) =
      ap (λ (z : ℤ). s.cost +ℤ pos (rise s.state) +ℤ z) (cost-raised ss) ∙ one_step s.cost (path_cost ss) (rise s.state) (path_rise ss)

  one_path : (w r y : ℕ) (x t : ℤ) → pos w *ℤ (x +ℤ pos r) +ℤ (t +ℤ pos y) ≡ pos w *ℤ x +ℤ t +ℤ pos (w * r + y)
  one_path w r y x t = rw (is x, is t) (simp ring (dif_eq _ _ _ _ (omega arith)))

  total-raised : (xs : List Path) → total_cost (map raise_path xs) ≡ total_cost xs +ℤ pos (total_rise xs)
  total-raised [] = refl
  total-raised (x ∷ xs) =
      ap₂ ◌+ℤ◌ (ap₂ (λ (w : ℕ) (z : ℤ). pos w *ℤ z) (weight_raised x) (cost-raised x)) (total-raised xs)
      ∙ one_path (path_weight x) (path_rise x) (total_rise xs) (path_cost x) (total_cost xs)

  -- ---- they are the paths by the raised actions

  module _ (D : ℕ) (taken : ℕ → Action) where
    -- the raised actions
    abbrev pub raised_all : ℕ → Action
    raised_all q = raise (rise q) (taken q)

    front : (p : ℕ) (t : Transition) (xs : List Path)
        → map (λ (x : Path). step_by raised_all p t ∷ x) (map raise_path xs) ≡ map raise_path (map (λ (x : Path). step_by taken p t ∷ x) xs)
    front p t [] = refl
    front p t (x ∷ xs) = ap (λ (ys : List Path). (step_by raised_all p t ∷ raise_path x) ∷ ys) (front p t xs)

    raised_by : (m p : ℕ) → ((q : ℕ) → paths_from D raised_all m q ≡ map raise_path (paths_from D taken m q))
        → (ts : List Transition) → for_each (paths_by D raised_all m p) ts ≡ map raise_path (for_each (paths_by D taken m p) ts)
    raised_by m p ih [] = refl
    raised_by m p ih (t ∷ ts) =
        ap₂ ◌++◌ (ap (map (λ (x : Path). step_by raised_all p t ∷ x)) (ih t.next) ∙ front p t (paths_from D taken m t.next)) (raised_by m p ih ts)
        ∙ sym (map-append raise_path (paths_by D taken m p t) (for_each (paths_by D taken m p) ts))

    raised-stop : (m p : ℕ) → stops_after D m p (raised_all p) ≡ map raise_path (stops_after D m p (taken p))
    raised-stop m p = go (ltb (weights_of (taken p).transitions) D)
      where
        go : (b : Bool) → cond b (stop D m p (raised_all p) ∷ []) [] ≡ map raise_path (cond b (stop D m p (taken p) ∷ []) [])
        go true = refl
        go false = refl

    pub paths-raised : (m p : ℕ) → paths_from D raised_all m p ≡ map raise_path (paths_from D taken m p)
    paths-raised zero p = refl
    paths-raised (suc m) p =
        ap₂ ◌++◌ (raised_by m p (paths-raised m) (taken p).transitions) (raised-stop m p)
        ∙ sym (map-append raise_path (for_each (paths_by D taken m p) (taken p).transitions) (stops_after D m p (taken p)))

-- ---- one state

-- does a path pass state r?
abbrev pub passes : ℕ → Path → Bool
passes r [] = false
passes r (s ∷ ss) = eqb s.state r || passes r ss

-- the weight of the paths that pass state r
abbrev pub weight_past : ℕ → List Path → ℕ
weight_past r [] = 0
weight_past r (x ∷ xs) = bit (passes r x) * path_weight x + weight_past r xs

-- it is at most that of all paths
pub past_most : (r : ℕ) (xs : List Path) → weight_past r xs ≤ total_weight xs
past_most r [] = omega arith
past_most r (x ∷ xs) = go (passes r x) (past_most r xs)
  where
    go : (b : Bool) → weight_past r xs ≤ total_weight xs → bit b * path_weight x + weight_past r xs ≤ path_weight x + total_weight xs
    go true h = omega arith
    go false h = omega arith

-- and as much where all pass it
past_all : (r : ℕ) (xs : List Path) → Every (λ (x : Path). passes r x ≡ true) xs → weight_past r xs ≡ total_weight xs
past_all r [] h = refl
past_all r (x ∷ xs) h = rw (h.0, past_all r xs h.1) (omega arith)

-- as all paths from a state do
pub past_start : (D : ℕ) (taken : ℕ → Action) (m p : ℕ) → weight_past p (paths_from D taken m p) ≡ total_weight (paths_from D taken m p)
past_start D taken m p =
    past_all p (paths_from D taken m p) (in_every (λ (x : Path). passes p x ≡ true) (paths_from D taken m p) (λ x i. starts m x i))
  where
    here : eqb p p ≡ true
    here = eq-eqb p p refl

    starts : (m : ℕ) (x : Path) → In x (paths_from D taken m p) → passes p x ≡ true
    starts zero x i = rw (in_one i, here)
    starts (suc m) x i = go (begins D taken m p x i)
      where
        go : Begins D taken m p x → passes p x ≡ true
        go (inl b) = rw (b.2.1, here)
        go (inr j) = rw ((stop_ends D m p (taken p) x j).0, here)

-- the states of a path rise, from state p on
abbrev Climbs : ℕ → Path → Type 0
Climbs p [] = Unit {0}
Climbs p (s ∷ ss) = (p ≤ s.state) × Climbs (suc s.state) ss

climbs_from : (p q : ℕ) (x : Path) → q ≤ p → Climbs p x → Climbs q x
climbs_from p q [] l h = tt
climbs_from p q (s ∷ ss) l h = (omega (arith, h.0), h.1)

-- d more at state r
abbrev pub rise_at : ℕ → ℕ → ℕ → ℕ
rise_at r d q = cond (eqb q r) d 0

module _ (r d : ℕ) where
  none_after : (p : ℕ) (x : Path) → r < p → Climbs p x → (path_rise (rise_at r d) x ≡ 0) × (passes r x ≡ false)
  none_after p [] l h = (refl, refl)
  none_after p (s ∷ ss) l h =
      let n = none_after (suc s.state) ss (omega (arith, h.0)) h.1 in
      rw (ne_eqb s.state r (λ e. omega (arith, h.0))) (omega (arith, n.0), n.1)

  -- a path passes state r once or not at all
  once : (p : ℕ) (x : Path) → Climbs p x → path_rise (rise_at r d) x ≡ bit (passes r x) * d
  once p [] h = omega arith
  once p (s ∷ ss) h = go (eqb s.state r) refl (once (suc s.state) ss h.1)
    where
      go : (b : Bool) → eqb s.state r ≡ b → path_rise (rise_at r d) ss ≡ bit (passes r ss) * d
          → cond b d 0 + path_rise (rise_at r d) ss ≡ bit (b || passes r ss) * d
      go true e ih = let n = none_after (suc s.state) ss (omega (arith, eqb-true s.state r e)) h.1 in omega (arith, n.0)
      go false e ih = omega arith

  total_once : (p : ℕ) (xs : List Path) → Every (Climbs p) xs → total_rise (rise_at r d) xs ≡ d * weight_past r xs
  total_once p [] h = omega arith
  total_once p (x ∷ xs) h = rw (once p x h.0, total_once p xs h.1) (omega arith)

  module _ (D : ℕ) (taken : ℕ → Action) (later : (p : ℕ) → AtNexts (λ q. p < q) (taken p).transitions) where
    climbs : (m p : ℕ) (x : Path) → In x (paths_from D taken m p) → Climbs p x
    climbs zero p x i = rw (in_one i) (omega arith, tt)
    climbs (suc m) p x i = go (climbs m) (begins D taken m p x i)
      where
        go : ((q : ℕ) (y : Path) → In y (paths_from D taken m q) → Climbs q y) → Begins D taken m p x → Climbs p x
        go ih (inl b) =
            let l = every_in (λ (t : Transition). p < t.next) (taken p).transitions (later p) b.0 b.1 in
            rw b.2.1 (omega arith, climbs_from b.0.next (suc p) b.2.0 l (ih b.0.next b.2.0 b.2.2))
        go ih (inr j) = rw (stop_ends D m p (taken p) x j).0 (omega arith, tt)

    -- the sum over the paths, where the action taken at state r costs d more
    pub one_raised : (m p : ℕ)
        → total_cost (paths_from D (λ q. raise (rise_at r d q) (taken q)) m p)
        ≡ total_cost (paths_from D taken m p) +ℤ pos (d * weight_past r (paths_from D taken m p))
    one_raised m p =
        ap total_cost (paths-raised (rise_at r d) D taken m p)
        ∙ total-raised (rise_at r d) (paths_from D taken m p)
        ∙ ap (λ (n : ℕ). total_cost (paths_from D taken m p) +ℤ pos n)
        (total_once p (paths_from D taken m p) (in_every (Climbs p) (paths_from D taken m p) (climbs m p)))
