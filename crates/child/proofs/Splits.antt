-- Whether a candidate has a child at a state, by its byte there and by what is left.
-- Assumes nothing.
use mathlib.Core.Path.{◌≡◌, refl, sym, ap, ap₂, ◌∙◌, subst}
use mathlib.Core.Bool.{Bool, true, false, not, ◌&&◌}
use mathlib.Core.Logic.{◌⊎◌, ⊎_elim}
use mathlib.Core.List.{List, [], ◌∷◌}
use Prim.Native.Nat.{ℕ, ◌≤◌, ◌<◌}
use native.Mathlib.Omega.{arith}
use borrow.Author.Tests.{le-leb, ne_eqb, eq-eqb}
use lib.Dec.{T, T_not, leb}
use lib.IntN.{ℤ}
use Rattle.model.specs.Lists.{is_in}
use Rattle.model.specs.Model.{Words, scale, state_count, togo, action}
use Rattle.model.specs.Questions.{book_number}
use Rattle.model.specs.Policy.{Policy}
use Rattle.model.specs.Path.{byte_at}
use Rattle.model.specs.Recursion.{best_of, feasible}
use Rattle.questions.specs.Ranges.{and_right}
use Rattle.laws.specs.Members.{In, Every, in_every, is_in_in, in_is_in, true-T, false-T}
use Rattle.laws.specs.ToGo.{through_same}
use Rattle.laws.specs.Policies.{reached_from}
use Rattle.laws.specs.First.{first_byte}
use Rattle.laws.specs.Best.{best_cases}
use Rattle.accepted.specs.Options.{Feasible, Alive, feasible_small}
use Rattle.accepted.specs.Shape.{shape}
use Rattle.accepted.specs.Demands.{reached, policy-bytes}
use Rattle.build.specs.Best.{best_at}
use Rattle.build.proofs.Best.{none-best}
use Rattle.splits.specs.Parts.{Reaches, reaches_is}
use Rattle.stored.specs.Entry.{Entry}
use Rattle.stored.specs.Lists.{left, left-feasible, lists_of, lists_after}
use Rattle.stored.specs.Children.{Right, mask_at, child_entry, add_if, splits_at, plan_model}
use Rattle.accepted.specs.Bytes.{feasible_cases, policy_long}

-- a first best action tells whether a list has one
best_some : (f : ℕ → ℤ) (xs : List ℕ) → (best_of f xs ≡ 255 → ⊥) → In (best_of f xs) xs
best_some f xs h = ⊎_elim (λ e. absurd (h e)) (λ i. i) (best_cases f xs)

add_some : (xs : List ℕ) (c : ℕ) (k : Entry) → In c xs → add_if true xs k [] ≡ k ∷ []
add_some [] c k i = absurd i
add_some (x ∷ xs) c k i = refl

add_none : (b : Bool) (k : Entry) → add_if b [] k [] ≡ []
add_none true k = refl
add_none false k = refl

-- the byte of a candidate at a state is a feasible action, or 255
pub byte-feasible : (ws : Words) (ok : book_number ws ≡ 0) (e : Entry) → Right ws e → (p : ℕ) → p < state_count ws
    → (byte_at e.plan p ≡ 255) ⊎ Feasible ws p (byte_at e.plan p)
byte-feasible ws ok e ri = feasible_cases ws ok e.plan (plan_model ws ok e ri)

module _ (ws : Words) (ok : book_number ws ≡ 0) (e : Entry) (ri : Right ws e) (p : ℕ) (state : p < state_count ws) (from : e.split ≤ p) where
  -- a state that is not reached has byte 255, and no child
  pub none_unreached : byte_at e.plan p ≡ 255 → add_if (splits_at e p) (left ws p (mask_at e p)) (child_entry ws e p) [] ≡ []
  none_unreached b =
      let f : splits_at e p ≡ false = ap (λ (t : Bool). leb e.split p && not t) (eq-eqb (byte_at e.plan p) 255 b) ∙ and_right (leb e.split p) in
      ap (λ (t : Bool). add_if t (left ws p (mask_at e p)) (child_entry ws e p) []) f

  pub none_left : (f : ℕ → ℤ) → best_of f (left ws p (mask_at e p)) ≡ 255
      → add_if (splits_at e p) (left ws p (mask_at e p)) (child_entry ws e p) [] ≡ []
  none_left f b =
      ap (λ (xs : List ℕ). add_if (splits_at e p) xs (child_entry ws e p) [])
      (none-best f (left ws p (mask_at e p)) small b)
      ∙ add_none (splits_at e p) (child_entry ws e p)
    where
      small : Every (λ c. c < 8) (left ws p (mask_at e p))
      small =
          in_every (λ c. c < 8) (left ws p (mask_at e p))
          (λ c i. feasible_small ws ok p state (left-feasible ws p (mask_at e p) c i))

  -- any other byte is a feasible action of a reached state
  module _ (other : byte_at e.plan p ≡ 255 → ⊥) where
    pub own-feasible : Feasible ws p (byte_at e.plan p)
    own-feasible = ⊎_elim (λ b. absurd (other b)) (λ o. o) (byte-feasible ws ok e ri p state)

    pub own_small : byte_at e.plan p < 8
    own_small = feasible_small ws ok p state own-feasible

    pub reaches_here : Reaches (action ws) p 0 (0 ∷ []) e.plan
    reaches_here = go (is_in p (reached ws e.plan)) refl
      where
        is : T (Rattle.model.specs.Policy.is_policy ws e.plan)
        is = true-T (plan_model ws ok e ri)

        go : (b : Bool) → is_in p (reached ws e.plan) ≡ b → Reaches (action ws) p 0 (0 ∷ []) e.plan
        go true q =
            (reaches_is (action ws) (shape ws ok).later p 0 (0 ∷ []) e.plan).1 (
              is_in_in p (reached ws e.plan) (true-T q),
              omega arith,
              omega (arith, policy_long ws ok e.plan (plan_model ws ok e ri)),
            )
        go false q =
            absurd (other (((policy-bytes ws ok e.plan).0 is).at_other p state
            (λ i. T_not (is_in p (reached ws e.plan)) (false-T q) (in_is_in p (reached ws e.plan) i))))

    pub one_child : (f : ℕ → ℤ) (c : ℕ) → c ≡ best_of f (left ws p (mask_at e p)) → (c ≡ 255 → ⊥)
        → In c (left ws p (mask_at e p)) × (add_if (splits_at e p) (left ws p (mask_at e p)) (child_entry ws e p) [] ≡ child_entry ws e p ∷ [])
    one_child f c b n =
        let i : In c (left ws p (mask_at e p)) = subst (λ (d : ℕ). In d (left ws p (mask_at e p))) (sym b) (best_some f (left ws p (mask_at e p)) (λ z. n (b ∙ z))) in
        let t : splits_at e p ≡ true = rw (le-leb e.split p from, ne_eqb (byte_at e.plan p) 255 other) in
        (i, ap (λ (t : Bool). add_if t (left ws p (mask_at e p)) (child_entry ws e p) []) t ∙ add_some (left ws p (mask_at e p)) c (child_entry ws e p) i)

    -- after the split state its action is the first best one
    pub own-best : e.split < p → byte_at e.plan p ≡ best_at ws p
    own-best l =
        ap (λ (bs : Policy). byte_at bs p) ri.plan_is
        ∙ first_byte (scale ws) (state_count ws) (action ws) (togo ws) (shape ws ok) (Alive ws) (lists_of ws e) ri.lists p (
          subst (λ (bs : Policy). In p (reached_from (action ws) 0 (0 ∷ []) bs)) ri.plan_is
              ((reaches_is (action ws) (shape ws ok).later p 0 (0 ∷ []) e.plan).0 reaches_here).0,
          state,
        )
        ∙ ap₂ best_of
        (through_same (scale ws) (action ws) (shape ws ok).later (lists_of ws e) (feasible ws) e.split (lists_after ws e) (togo ws p) p from)
        (lists_after ws e p l)
