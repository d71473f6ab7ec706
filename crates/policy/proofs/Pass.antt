-- The pass over the states: what it knows when it comes to state p, and what one byte more tells.
-- Assumes nothing.
use mathlib.Core.Path.{◌≡◌, refl, sym, ap, ap₂, ◌∙◌, fun_ext, subst}
use mathlib.Core.Bool.{Bool, true, false, not, ◌&&◌}
use mathlib.Core.Logic.{◌⊎◌, inl, inr, ◌↔◌}
use mathlib.Core.List.{List, [], ◌∷◌}
use Prim.Native.Nat.{ℕ, zero, suc, ◌+◌, ◌-◌, ◌≤◌, ◌<◌}
use native.Mathlib.Nat.{le_refl}
use native.Mathlib.Numerals.{add-one}
use native.Mathlib.Omega.{arith}
use lib.Dec.{eqb, eqb-suc-zero}
use lib.ListN.{length, get_or, drop, drop_of_length-le}
use lib.Seq.{drop-cons}
use Rattle.model.specs.Lists.{is_in}
use Rattle.model.specs.Model.{Words, Transition, state_count, action_count, action, options}
use Rattle.model.specs.Questions.{book_number}
use Rattle.model.specs.Policy.{Policy, allowed, onward, fits, is_policy}
use Rattle.model.specs.Path.{byte_at}
use Rattle.laws.specs.Members.{T_true, true-T, In, in_one, is_in_in, in_is_in, every_imp}
use Rattle.laws.specs.Policies.{policy-length}
use Rattle.accepted.specs.Options.{Option}
use Rattle.accepted.specs.Shape.{policy_is, shape}
use Rattle.accepted.specs.Bytes.{byte_is}
use Rattle.splits.specs.Reach.{spread, weights_before, agree_start, agree_next}
use Rattle.reach.specs.Weights.{weight_at, first_weights, Holds, Room}
use Rattle.reach.proofs.Bound.{weights, weights_small}
use Rattle.reach.proofs.Pass as weighing
use Rattle.policy.proofs.Allowed.{allowed_below}

-- state p has a weight in the array
abbrev pub weighs : List ℕ → ℕ → Bool
weighs w p = not (eqb (weight_at w p) 0)

-- there is a byte for each state, the array has the weights before state p, the states from p on that have one are those known to be reached, and the
-- bytes from p on settle the question
pub record Pass (ws : Words) (bs : Policy) (p : ℕ) (w : List ℕ) : Type 0 where
  pub long : length bs ≡ state_count ws
  pub held : Holds w (weights ws bs p)
  pub reach : List ℕ
  pub known : (s : ℕ) → p ≤ s → (0 < weights ws bs p s) ↔ In s reach
  pub rest : is_policy ws bs ≡ fits (action ws) (options ws) (state_count ws - p) p reach (drop p bs)

pub wrong_length : (ws : Words) (bs : Policy) → (length bs ≡ state_count ws → ⊥) → is_policy ws bs ≡ false
wrong_length ws bs h = go (is_policy ws bs) refl
  where
    go : (b : Bool) → is_policy ws bs ≡ b → is_policy ws bs ≡ false
    go true e = absurd (h (policy-length (action ws) (options ws) (state_count ws) 0 (0 ∷ []) bs ((policy_is ws bs).0 (true-T e))))
    go false e = e

pub begin : (ws : Words) → book_number ws ≡ 0 → (bs : Policy) (w : List ℕ) → length bs ≡ state_count ws → Holds w first_weights → Pass ws bs 0 w
unfolding is_policy
begin ws ok bs w e h =
    let z : state_count ws - 0 ≡ state_count ws = omega arith in
    record {
      long = e;
      held = weighing.begin ws bs w h;
      reach = 0 ∷ [];
      known = agree_start (action ws) (options ws) (shape ws ok).positive (shape ws ok).bare (byte_at bs);
      rest = rw z;
    }

module _ (ws : Words) (bs : Policy) (p : ℕ) (w : List ℕ) (h : Pass ws bs p w) where
  pub finish : state_count ws ≤ p → is_policy ws bs ≡ true
  finish l = let z : state_count ws - p ≡ 0 = omega arith in h.rest ∙ rw (z, drop_of_length-le bs {i = p} (omega arith))

  abbrev reached : Bool
  reached = weighs w p

  -- state p is reached if it has a weight
  reached_is : reached ≡ is_in p h.reach
  reached_is = go (get_or w p 0) (h.held.at p) (is_in p h.reach) refl
    where
      go : (y : ℕ) → y ≡ weights ws bs p p → (b : Bool) → is_in p h.reach ≡ b → not (eqb y 0) ≡ is_in p h.reach
      go zero e true i = absurd (omega (arith, e, (h.known p (le_refl p)).1 (is_in_in p h.reach (true-T i))))
      go zero e false i = sym i
      go (suc y) e b i = ap not (eqb-suc-zero y) ∙ sym (T_true (is_in p h.reach) (in_is_in p h.reach ((h.known p (le_refl p)).0 (omega (arith, e)))))

  module _ (l : p < state_count ws) where
    -- the byte at p
    abbrev c : ℕ
    c = get_or bs p 0

    pub byte : byte_at bs p ≡ c
    byte = byte_is bs p 255 0 (omega (arith, h.long))

    abbrev ts : List Transition
    ts = (action ws p c).transitions

    -- the question by that byte and those after it
    by_byte : is_policy ws bs ≡ (is_in c (allowed (options ws p) reached)
        && fits (action ws) (options ws) (state_count ws - (p + 1)) (p + 1) (onward (action ws) p c h.reach) (drop (p + 1) bs))
    by_byte =
        let n : state_count ws - p ≡ suc (state_count ws - (p + 1)) = omega arith in
        h.rest ∙ rw (n, drop-cons bs p 0 (omega (arith, h.long)), reached_is, add-one)

    pub byte_refused : is_in c (allowed (options ws p) reached) ≡ false → is_policy ws bs ≡ false
    byte_refused f = by_byte ∙ rw f

    -- the weights once p has spread its own
    after : spread (weight_at w p) ts (weight_at w) ≡ weights ws bs (p + 1)
    unfolding weights_before
    after =
        ap₂ (λ (b : ℕ) (W : ℕ → ℕ). spread (W p) (action ws p b).transitions W) (sym byte) (fun_ext h.held.at)
        ∙ ap (weights ws bs) (sym (add-one p))

    pub room : book_number ws ≡ 0 → Room (weight_at w p) ts w
    room ok =
        every_imp (λ t i. subst (λ (W : ℕ → ℕ). W t.next ≤ 10000000000000000) (sym after) (weights_small ws ok bs (p + 1) t.next i)) ts
        ((shape ws ok).inside p c)

    module _ (t : is_in c (allowed (options ws p) reached) ≡ true) where
      -- at a reached state the byte is one of its actions
      pub byte-action : reached ≡ true → c < action_count ws p
      byte-action r = allowed_below ws p c (rw r at t)

      pub byte-none : reached ≡ false → c ≡ 255
      byte-none r = in_one (is_in_in c (255 ∷ []) (true-T (rw r at t)))

      pub byte_cases : (byte_at bs p ≡ 255) ⊎ Option ws p (byte_at bs p)
      byte_cases = rw byte (go reached refl)
        where
          go : (b : Bool) → reached ≡ b → (c ≡ 255) ⊎ Option ws p c
          go true e = inr (is_in_in c (options ws p) (true-T (rw e at t)))
          go false e = inl (byte-none e)

      module _ (ok : book_number ws ≡ 0) where
        -- its next states are reached too
        pub pass_on : (v : List ℕ) → Holds v (spread (weight_at w p) ts (weight_at w)) → Pass ws bs (p + 1) v
        pass_on v k =
            record {
              long = h.long;
              held = subst (Holds v) after k;
              reach = onward (action ws) p c h.reach;
              known = rw (add-one p)
                  (agree_next (action ws) (options ws) (shape ws ok).positive (shape ws ok).bare (byte_at bs) p h.reach c
                  (is_in_in c (allowed (options ws p) (is_in p h.reach)) (true-T (rw reached_is at t))) byte h.known);
              rest = by_byte ∙ rw t;
            }

        -- at any other it is 255, which stands for no action
        pub pass_unreached : reached ≡ false → Pass ws bs (p + 1) w
        unfolding spread
        pass_unreached r = pass_on w (record { long = h.held.long; at = λ s. rw none })
          where
            none : ts ≡ []
            none = ap (λ (b : ℕ). (action ws p b).transitions) (byte-none r) ∙ (shape ws ok).bare p
