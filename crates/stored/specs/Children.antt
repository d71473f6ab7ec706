-- The children of a stored candidate are stored candidates, and stand for the children of its lists.
-- Assumes nothing.
use Rattle.std.specs.Prelude.{◌≡◌, refl, Bool, true, false, not, ◌&&◌, cond, ◌⊎◌, List, [], ◌∷◌, map, ℕ, zero, suc, ◌+◌, ◌≤◌, ◌<◌, T, eqb, leb, ℤ}
use Rattle.std.proofs.Common.{sym, ap, ap₂, ◌∙◌, subst, inl, inr, eq-or-lt_of_le, zero-add, arith, le-leb, ne_eqb, eq-eqb}
use Rattle.std.proofs.Math.Decide.{dec_lt}
use Rattle.std.proofs.lemmas.Bool.{lt-leb}
use Rattle.model.specs.Lists.{is_in}
use Rattle.model.specs.Model.{Words, scale, state_count, togo, action}
use Rattle.model.specs.Questions.{book_number}
use Rattle.model.specs.Recursion.{feasible}
use Rattle.model.specs.Policy.{Policy, is_policy, onward}
use Rattle.model.specs.Path.{byte_at}
use Rattle.laws.specs.Members.{In, in_one, Every, is_in_in, true-T, T_true}
use Rattle.laws.specs.Policies.{IsPolicy, Reads, reads}
use Rattle.laws.specs.First.{Lists, cost_from0, first_policy, is_policy_lem}
use Rattle.accepted.specs.Options.{Feasible, Alive, to_option}
use Rattle.accepted.specs.Shape.{shape, policy-feasible}
use Rattle.accepted.specs.Bytes.{policy_long}
use Rattle.accepted.specs.Demands.{other_byte}
use Rattle.sets.specs.Sets.{with, free_all}
use Rattle.splits.specs.Parts.{without, part, split_lt, split_eq, split_gt, Reaches, reaches_is, sound}
use Rattle.splits.specs.Kbest.{add_child, children_from, child_at, children, child_lists}
use Rattle.splits.specs.ChildCost.{child-front}
use Rattle.stored.specs.Entry.{Entry}
use Rattle.stored.specs.Lists.{left, left-feasible, lists_of, free-without, by_place, lists_before, lists_here, lists_after}

-- the first policy of lists of actions
abbrev pub first_of : Words → (ℕ → List ℕ) → Policy
first_of ws os = first_policy (scale ws) (state_count ws) (action ws) (togo ws) os

abbrev pub cost_of : Words → Policy → ℤ
cost_of ws bs = cost_from0 (scale ws) (action ws) (togo ws) bs

-- what is stored of a candidate is right: its bytes are the first policy of its lists, with its cost
pub record Right (ws : Words) (e : Entry) : Type 0 where
  pub lists : Lists (Alive ws) (action ws) (lists_of ws e)
  pub plan_is : e.plan ≡ first_of ws (lists_of ws e)
  pub cost_is : e.cost ≡ cost_of ws e.plan
  pub split_state : e.split < state_count ws
  -- the policies of its lists are the model's
  pub among : (u : Policy) → IsPolicy (action ws) (lists_of ws e) (state_count ws) 0 (0 ∷ []) u
      → IsPolicy (action ws) (feasible ws) (state_count ws) 0 (0 ∷ []) u

-- the set that is barred at state p when a candidate is split there
abbrev pub mask_at : Entry → ℕ → ℕ
mask_at e p = with (cond (eqb p e.split) e.mask 0) (byte_at e.plan p)

-- the policies of e that agree before state p and differ there
abbrev pub child_entry : Words → Entry → ℕ → Entry
child_entry ws e p =
    let k : Policy = first_of ws (child_at (scale ws) (state_count ws) (action ws) (togo ws) (lists_of ws e) p) in
    record { cost = cost_of ws k; plan = k; split = p; mask = mask_at e p }

module _ {A : Type 0} where
  -- a in front of rest, if the test passes and something is left
  abbrev pub add_if : Bool → List ℕ → A → List A → List A
  add_if false xs a rest = rest
  add_if true [] a rest = rest
  add_if true (x ∷ xs) a rest = a ∷ rest

-- does e split at state p: from its own split state on, where it reaches the state
abbrev pub splits_at : Entry → ℕ → Bool
splits_at e p = leb e.split p && not (eqb (byte_at e.plan p) 255)

-- the children at the n states from p on
abbrev pub child_entries : Words → Entry → ℕ → ℕ → List Entry
child_entries ws e p zero = []
child_entries ws e p (suc n) = add_if (splits_at e p) (left ws p (mask_at e p)) (child_entry ws e p) (child_entries ws e (suc p) n)

module _ (ws : Words) (ok : book_number ws ≡ 0) (e : Entry) (ri : Right ws e) where
  abbrev os : ℕ → List ℕ
  os = lists_of ws e

  abbrev f : ℕ → ℕ
  f = byte_at e.plan

  lists_left : (p : ℕ) → e.split ≤ p → lists_of ws e p ≡ left ws p (cond (eqb p e.split) e.mask 0)
  lists_left p h = go (eq-or-lt_of_le h)
    where
      go : (e.split ≡ p) ⊎ (e.split < p) → lists_of ws e p ≡ left ws p (cond (eqb p e.split) e.mask 0)
      go (inl q) =
          subst (λ (n : ℕ). lists_of ws e n ≡ left ws n (cond (eqb n e.split) e.mask 0)) q
          (lists_here ws e ∙ sym (ap (λ (b : Bool). left ws e.split (cond b e.mask 0)) (eq-eqb e.split e.split refl)))
      go (inr l) =
          lists_after ws e p l ∙ sym (free_all (feasible ws p))
          ∙ sym (ap (λ (b : Bool). left ws p (cond b e.mask 0)) (ne_eqb p e.split (λ q. omega arith)))

  -- what is left when e is split at p: its list there without its own action
  pub left_is : (p : ℕ) → e.split ≤ p → left ws p (mask_at e p) ≡ without (f p) (lists_of ws e p)
  left_is p h =
      free-without (cond (eqb p e.split) e.mask 0) (f p) (feasible ws p) ∙ ap (without (f p)) (sym (lists_left p h))

  -- the plan of e is a policy of its lists
  plan_policy : IsPolicy (action ws) (lists_of ws e) (state_count ws) 0 (0 ∷ []) e.plan
  plan_policy =
      subst (IsPolicy (action ws) (lists_of ws e) (state_count ws) 0 (0 ∷ [])) (sym ri.plan_is)
      (is_policy_lem (scale ws) (state_count ws) (action ws) (togo ws) (shape ws ok) (Alive ws) (lists_of ws e) ri.lists)

  -- and so of the model
  pub plan_model : is_policy ws e.plan ≡ true
  plan_model = T_true (is_policy ws e.plan) ((policy-feasible ws ok e.plan).1 (ri.among e.plan plan_policy))

  -- a child at a reached state with an action left
  module _ (p : ℕ) (from : e.split ≤ p) (reached : Reaches (action ws) p 0 (0 ∷ []) e.plan)
      (some : (c : ℕ) × In c (left ws p (mask_at e p))) where
    abbrev child : ℕ → List ℕ
    child = child_at (scale ws) (state_count ws) (action ws) (togo ws) (lists_of ws e) p

    reached' : Reaches (action ws) p 0 (0 ∷ []) (first_of ws (lists_of ws e))
    reached' = subst (Reaches (action ws) p 0 (0 ∷ [])) ri.plan_is reached

    some' : (c : ℕ) × In c (without (byte_at (first_of ws (lists_of ws e)) p) (lists_of ws e p))
    some' = (some.0, subst (λ (bs : Policy). In some.0 (without (byte_at bs p) (lists_of ws e p))) ri.plan_is (subst (In some.0) (left_is p from) some.1))

    after : (s : ℕ) → p < s → lists_of ws e s ≡ feasible ws s
    after s h = lists_after ws e s (omega arith)

    front : (s : ℕ) → s < p → byte_at (first_of ws child) s ≡ byte_at (first_of ws (lists_of ws e)) s
    front s h =
        child-front (scale ws) (state_count ws) (action ws) (togo ws) (shape ws ok) (Alive ws) (feasible ws) (lists_of ws e) ri.lists p after
        reached' some' s h

    -- its lists are those of the child
    child_is : lists_of ws (child_entry ws e p) ≡ child
    child_is =
        by_place p (lists_of ws (child_entry ws e p)) child
        (λ s h. lists_before ws (child_entry ws e p) s h ∙ ap (λ (b : ℕ). b ∷ []) (front s h)
        ∙ sym (split_lt (byte_at (first_of ws (lists_of ws e))) p (without (byte_at (first_of ws (lists_of ws e)) p) (lists_of ws e p)) (lists_of ws e) s h))
        (lists_here ws (child_entry ws e p) ∙ left_is p from
        ∙ ap (λ (bs : Policy). without (byte_at bs p) (lists_of ws e p)) ri.plan_is
        ∙ sym (split_eq (byte_at (first_of ws (lists_of ws e))) p (without (byte_at (first_of ws (lists_of ws e)) p) (lists_of ws e p)) (lists_of ws e)))
        (λ s h. lists_after ws (child_entry ws e p) s h ∙ sym (after s h)
        ∙ sym (split_gt (byte_at (first_of ws (lists_of ws e))) p (without (byte_at (first_of ws (lists_of ws e)) p) (lists_of ws e p)) (lists_of ws e) s h))

    pub child-right : Right ws (child_entry ws e p)
    child-right =
        record {
          lists = subst (Lists (Alive ws) (action ws)) (sym child_is)
              (child_lists (scale ws) (state_count ws) (action ws) (togo ws) (shape ws ok) (Alive ws) (lists_of ws e) ri.lists p some'.0 some'.1);
          plan_is = ap (first_of ws) (sym child_is);
          cost_is = refl;
          split_state = omega (arith, ((reaches_is (action ws) (shape ws ok).later p 0 (0 ∷ []) e.plan).0 reached).2, policy_long ws ok e.plan plan_model);
          among = λ u h. ri.among u
              (sound (action ws) (lists_of ws e) (byte_at (first_of ws (lists_of ws e))) p (state_count ws) 0 (0 ∷ []) (first_of ws (lists_of ws e)) u
              (subst (IsPolicy (action ws) (lists_of ws e) (state_count ws) 0 (0 ∷ [])) ri.plan_is plan_policy) (reads (first_of ws (lists_of ws e))) reached'
              (subst (λ (os : ℕ → List ℕ). IsPolicy (action ws) os (state_count ws) 0 (0 ∷ []) u) child_is h)).0;
        }

  -- ---- all children, by the walk through the states

  -- at a state of the model from the split on a byte is 255 exactly where the state is not reached
  known : (p g : ℕ) (reach : List ℕ) → p < state_count ws → e.split ≤ p → In g (Rattle.model.specs.Policy.allowed (lists_of ws e p) (is_in p reach))
      → is_in p reach ≡ not (eqb g 255)
  known p g reach s h i = go (is_in p reach) i
    where
      go : (b : Bool) → In g (Rattle.model.specs.Policy.allowed (lists_of ws e p) b) → b ≡ not (eqb g 255)
      go true i =
          let o = left-feasible ws p (cond (eqb p e.split) e.mask 0) g (subst (In g) (lists_left p h) i) in
          sym (ap not (ne_eqb g 255 (λ q. other_byte ws ok p s (to_option ws p 255 (subst (Feasible ws p) q o)))))
      go false i = sym (ap not (eq-eqb g 255 (in_one i)))

  -- before the split nothing is left
  none_before : (p : ℕ) → p < e.split → without (f p) (lists_of ws e p) ≡ []
  none_before p h = ap (without (f p)) (lists_before ws e p h) ∙ drop_own (f p)
    where
      drop_own : (x : ℕ) → without x (x ∷ []) ≡ []
      drop_own x = rw (eq-eqb x x refl)

  -- children join alike
  add_same : (b : Bool) (xs : List ℕ) (k : Entry) (rest : List Entry) (l : ℕ → List ℕ) (ls : List (ℕ → List ℕ))
      → (T b → (c : ℕ) → In c xs → lists_of ws k ≡ l) → map (lists_of ws) rest ≡ ls
      → map (lists_of ws) (add_if b xs k rest) ≡ add_child b xs l ls
  add_same false xs k rest l ls h r = r
  add_same true [] k rest l ls h r = r
  add_same true (x ∷ xs) k rest l ls h r = ap₂ (λ (y : ℕ → List ℕ) (ys : List (ℕ → List ℕ)). y ∷ ys) (h tt x (inl refl)) r

  add_right : (b : Bool) (xs : List ℕ) (k : Entry) (rest : List Entry) → (T b → (c : ℕ) → In c xs → Right ws k) → Every (Right ws) rest
      → Every (Right ws) (add_if b xs k rest)
  add_right false xs k rest h r = r
  add_right true [] k rest h r = r
  add_right true (x ∷ xs) k rest h r = (h tt x (inl refl), r)

  -- from state p on, where `lift` takes what the rest of the bytes reaches to what all of them reach
  from_here : (n p : ℕ) (reach : List ℕ) (gs : Policy) → p + n ≡ state_count ws → IsPolicy (action ws) (lists_of ws e) n p reach gs → Reads f p gs
      → ((r : ℕ) → Reaches (action ws) r p reach gs → Reaches (action ws) r 0 (0 ∷ []) e.plan)
      → (map (lists_of ws) (child_entries ws e p n) ≡ children_from (action ws) (lists_of ws e) f p reach gs) × Every (Right ws) (child_entries ws e p n)
  from_here zero p reach [] z h r lift = (refl, tt)
  from_here zero p reach (g ∷ gs) z h r lift = absurd h
  from_here (suc n) p reach [] z h r lift = absurd h
  from_here (suc n) p reach (g ∷ gs) z h r lift =
      go (dec_lt p e.split) (from_here n (suc p) (onward (action ws) p g reach) gs (omega arith) h.1 r.1 (λ q i. lift q (inr i)))
    where
      Both : List Entry → List (ℕ → List ℕ) → Type 0
      Both es ls = (map (lists_of ws) es ≡ ls) × Every (Right ws) es

      rest : List Entry
      rest = child_entries ws e (suc p) n

      tail : List (ℕ → List ℕ)
      tail = children_from (action ws) (lists_of ws e) f (suc p) (onward (action ws) p g reach) gs

      add_none : (b : Bool) (l : ℕ → List ℕ) → add_child b [] l tail ≡ tail
      add_none true l = refl
      add_none false l = refl

      go : Dec (p < e.split) → Both rest tail
          → Both (add_if (splits_at e p) (left ws p (mask_at e p)) (child_entry ws e p) rest)
          (add_child (is_in p reach) (without (f p) (lists_of ws e p)) (part (lists_of ws e) f p) tail)
      go (yes l) ih =
          rw (lt-leb e.split p l, none_before p l) (ih.0 ∙ sym (add_none (is_in p reach) _), ih.1)
      go (no l) ih =
          let state : p < state_count ws = omega arith in
          let from : e.split ≤ p = omega arith in
          let same : splits_at e p ≡ is_in p reach = rw (le-leb e.split p from, r.0) (sym (known p g reach state from h.0)) in
          rw same (more from (is_in p reach) refl)
        where
          more : e.split ≤ p → (b : Bool) → is_in p reach ≡ b
              → Both (add_if b (left ws p (mask_at e p)) (child_entry ws e p) rest)
              (add_child b (without (f p) (lists_of ws e p)) (part (lists_of ws e) f p) tail)
          more from false q = ih
          more from true q =
              let here = lift p (inl (refl, is_in_in p reach (true-T q))) in
              let ce : (c : ℕ) → In c (left ws p (mask_at e p)) → lists_of ws (child_entry ws e p) ≡ part (lists_of ws e) f p
              = λ c i. child_is p from here (c, i) ∙ ap (λ (bs : Policy). part (lists_of ws e) (byte_at bs) p) (sym ri.plan_is) in (
                add_same true (left ws p (mask_at e p)) (child_entry ws e p) rest (part (lists_of ws e) f p) tail (λ t c i. ce c i) ih.0
                    ∙ ap (λ (xs : List ℕ). add_child true xs (part (lists_of ws e) f p) tail) (left_is p from),
                add_right true (left ws p (mask_at e p)) (child_entry ws e p) rest (λ t c i. child-right p from here (c, i)) ih.1,
              )

  -- the stored children of e are right, and stand for the children of its lists
  pub children_are : map (lists_of ws) (child_entries ws e 0 (state_count ws))
      ≡ children (scale ws) (state_count ws) (action ws) (togo ws) (lists_of ws e)
  children_are =
      (from_here (state_count ws) 0 (0 ∷ []) e.plan (zero-add (state_count ws)) plan_policy (reads e.plan) (λ r i. i)).0
      ∙ ap (λ (bs : Policy). children_from (action ws) (lists_of ws e) (byte_at bs) 0 (0 ∷ []) bs) ri.plan_is

  pub children-right : Every (Right ws) (child_entries ws e 0 (state_count ws))
  children-right = (from_here (state_count ws) 0 (0 ∷ []) e.plan (zero-add (state_count ws)) plan_policy (reads e.plan) (λ r i. i)).1
