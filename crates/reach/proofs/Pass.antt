-- The pass over the states: one state more, and the weights at its end.
-- Assumes nothing.
use mathlib.Core.Path.{◌≡◌, sym, ap, ap₂, ◌∙◌, fun_ext, subst}
use mathlib.Core.Bool.{true}
use mathlib.Core.Logic.{◌⊎◌, inl, inr}
use mathlib.Core.List.{List, []}
use Prim.Native.Nat.{ℕ, ◌+◌, ◌≤◌, ◌<◌}
use native.Mathlib.Numerals.{add-one}
use native.Mathlib.Omega.{arith}
use lib.ListN.{get_or}
use Rattle.model.specs.Model.{Words, Transition, state_count, action_count, action}
use Rattle.model.specs.Questions.{book_number}
use Rattle.model.specs.Policy.{Policy, is_policy}
use Rattle.model.specs.Path.{byte_at}
use Rattle.laws.specs.Members.{every_imp}
use Rattle.accepted.specs.Shape.{shape}
use Rattle.splits.specs.Reach.{spread, weights_before}
use Rattle.accepted.specs.Options.{Option, option_below}
use Rattle.accepted.specs.Bytes.{byte_is, policy_long, byte_cases}
use Rattle.reach.specs.Weights.{weight_at, first_weights, Holds, Room, WeightsOf}
use Rattle.reach.proofs.Bound.{weights, settled, weights_small}

-- the array has the weights before the pass comes to state p
abbrev pub Passed : Words → Policy → ℕ → List ℕ → Type 0
Passed ws bs p w = Holds w (weights ws bs p)

pub begin : (ws : Words) (bs : Policy) (w : List ℕ) → Holds w first_weights → Passed ws bs 0 w
unfolding weights_before
begin ws bs w h = h

module _ (ws : Words) (ok : book_number ws ≡ 0) (bs : Policy) (is : is_policy ws bs ≡ true) (p : ℕ) (l : p < state_count ws) where
  -- the byte at p
  abbrev c : ℕ
  c = get_or bs p 0

  byte : byte_at bs p ≡ c
  byte = byte_is bs p 255 0 (omega (arith, policy_long ws ok bs is))

  -- is one of the state's actions unless it is 255
  pub byte-action : (c ≡ 255 → ⊥) → c < action_count ws p
  byte-action n = go (byte_cases ws ok bs is p l)
    where
      go : (byte_at bs p ≡ 255) ⊎ Option ws p (byte_at bs p) → c < action_count ws p
      go (inl e) = absurd (n (sym byte ∙ e))
      go (inr o) = rw byte at (option_below ws p o)

  module _ (w : List ℕ) (h : Passed ws bs p w) where
    abbrev ts : List Transition
    ts = (action ws p c).transitions

    step : spread (weight_at w p) ts (weight_at w) ≡ weights ws bs (p + 1)
    unfolding weights_before
    step =
        ap₂ (λ (b : ℕ) (W : ℕ → ℕ). spread (W p) (action ws p b).transitions W) (sym byte) (fun_ext h.at)
        ∙ ap (weights ws bs) (sym (add-one p))

    -- what its action adds stays small
    pub room : Room (weight_at w p) ts w
    room =
        every_imp (λ t i. subst (λ (W : ℕ → ℕ). W t.next ≤ 10000000000000000) (sym step) (weights_small ws ok bs (p + 1) t.next i)) ts
        ((shape ws ok).inside p c)

    pub pass_action : (v : List ℕ) → Holds v (spread (weight_at w p) ts (weight_at w)) → Passed ws bs (p + 1) v
    pass_action v k = subst (Holds v) step k

    -- byte 255 stands for no action
    pub pass_none : c ≡ 255 → Passed ws bs (p + 1) w
    unfolding spread
    pass_none e = pass_action w (record { long = h.long; at = λ s. rw none })
      where
        none : ts ≡ []
        none = ap (λ (b : ℕ). (action ws p b).transitions) e ∙ (shape ws ok).bare p

pub finish : (ws : Words) → book_number ws ≡ 0 → (bs : Policy) (p : ℕ) → state_count ws ≤ p → (w : List ℕ) → Passed ws bs p w → WeightsOf ws bs w
finish ws ok bs p l w h = record { long = h.long; at = λ s k. h.at s ∙ settled ws ok bs p s (omega arith) }
