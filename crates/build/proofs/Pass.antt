-- The pass over the states: what it has written and marked when it comes to state s.
-- Assumes nothing.
use mathlib.Core.Path.{◌≡◌, refl, sym, ap, ◌∙◌, subst}
use mathlib.Core.Bool.{Bool, true, false}
use mathlib.Core.Logic.{◌⊎◌, inl, inr, ⊎_elim}
use mathlib.Core.List.{List, [], ◌∷◌, ◌++◌, append_assoc, append-nil}
use Prim.Native.Nat.{ℕ, suc, ◌+◌, ◌-◌, ◌≤◌, ◌<◌}
use native.Mathlib.Numerals.{add-one}
use native.Mathlib.Omega.{arith}
use lib.ListN.{length, set as put, take, length-set}
use lib.Seq.{take-suc-set, take_all}
use Rattle.model.specs.Lists.{is_in}
use Rattle.model.specs.Model.{Words, Transition, state_count, action}
use Rattle.model.specs.Questions.{book_number}
use Rattle.model.specs.Policy.{Policy, nexts, onward}
use Rattle.laws.specs.Greedy.{byte_of}
use Rattle.laws.specs.Members.{In, in_++, at_nexts}
use Rattle.accepted.specs.Options.{Feasible, Alive}
use Rattle.accepted.specs.Shape.{shape, nexts_alive}
use Rattle.sets.specs.Sets.{has, union, SetOf, set-union}
use Rattle.build.specs.Walk.{walk_by, Stepped}

-- ---- one state

module _ (ws : Words) (ok : book_number ws ≡ 0) (s reach : ℕ) where
  -- 255 stands for no action, so there is no next state
  pub bare : (qs : List ℕ) → SetOf reach qs → SetOf reach (onward (action ws) s 255 qs)
  bare qs h = rw ((shape ws ok).bare s) h

  pub step_outside : (a : ℕ) → has reach s ≡ false → Stepped (action ws) s a 255 reach reach
  step_outside a e = record { byte_is = rw e; reached = bare }

  pub step_on : (a more : ℕ) → has reach s ≡ true → SetOf more (nexts (action ws s a).transitions) → Stepped (action ws) s a a reach (union more reach)
  step_on a more e m = record {
    byte_is = rw e;
    reached = λ qs h. set-union more reach (nexts (action ws s a).transitions) qs m h;
  }

-- a policy goes on from the next states of a feasible action, and no action leads to none
pub onward_alive : (ws : Words) → book_number ws ≡ 0 → (s b : ℕ) (reach : List ℕ) → (b ≡ 255) ⊎ Feasible ws s b
    → ((q : ℕ) → In q reach → Alive ws q) → (q : ℕ) → In q (onward (action ws) s b reach) → Alive ws q
onward_alive ws ok s b reach t h q i = ⊎_elim (fresh t) (h q) (in_++ q (nexts (action ws s b).transitions) reach i)
  where
    fresh : (b ≡ 255) ⊎ Feasible ws s b → In q (nexts (action ws s b).transitions) → Alive ws q
    fresh (inl e) j = absurd (subst (λ (ts : List Transition). In q (nexts ts)) (ap (λ (b : ℕ). (action ws s b).transitions) e ∙ (shape ws ok).bare s) j)
    fresh (inr o) j = at_nexts (Alive ws) (action ws s b).transitions (nexts_alive ws ok s b o) q j

-- ---- all states

module _ (ws : Words) (choose : ℕ → ℕ) where
  abbrev walk : ℕ → ℕ → List ℕ → Policy
  walk = walk_by (action ws) choose

  -- there is a place for each state, those before s have their bytes, and the set is that of the states known to be reached, from each of which a
  -- policy goes on
  pub record Pass (s set : ℕ) (out : Policy) : Type 0 where
    pub long : length out ≡ state_count ws
    pub reach : List ℕ
    pub set_is : SetOf set reach
    pub alive : (q : ℕ) → In q reach → Alive ws q
    pub rest : walk (state_count ws) 0 (0 ∷ []) ≡ take s out ++ walk (state_count ws - s) s reach

  module _ (s set : ℕ) (out : Policy) (h : Pass s set out) where
    pub finish : state_count ws ≤ s → out ≡ walk (state_count ws) 0 (0 ∷ [])
    finish l =
        let z : state_count ws - s ≡ 0 = omega arith in
        sym (h.rest ∙ rw (z, append-nil) (take_all s out (omega arith)))

    -- state s has its byte, and its next states are known to be reached
    pub pass_more : book_number ws ≡ 0 → s < state_count ws → (has set s ≡ true → Feasible ws s (choose s))
        → (byte after : ℕ) → Stepped (action ws) s (choose s) byte set after → Pass (s + 1) after (put out s byte)
    pass_more ok l goes byte after t = record {
      long = length-set out s byte ∙ h.long;
      reach = onward (action ws) s byte h.reach;
      set_is = t.reached h.reach h.set_is;
      alive = onward_alive ws ok s byte h.reach (taken (has set s) refl) h.alive;
      rest = h.rest ∙ rw (n, byte_is, add-one, take-suc-set out s byte (omega (arith, h.long)), append_assoc);
    }
      where
        byte_is : byte_of (is_in s h.reach) (choose s) ≡ byte
        byte_is = ap (λ (b : Bool). byte_of b (choose s)) (sym (h.set_is.at s)) ∙ sym t.byte_is

        taken : (b : Bool) → has set s ≡ b → (byte ≡ 255) ⊎ Feasible ws s byte
        taken true e = let c : byte ≡ choose s = t.byte_is ∙ ap (λ (b : Bool). byte_of b (choose s)) e in inr (subst (Feasible ws s) (sym c) (goes e))
        taken false e = inl (t.byte_is ∙ ap (λ (b : Bool). byte_of b (choose s)) e)

        n : state_count ws - s ≡ suc (state_count ws - (s + 1))
        n = omega arith
