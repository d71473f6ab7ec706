-- The pass over a policy's states: one state more.
-- Assumes nothing.
use mathlib.Core.Path.{◌≡◌, refl, sym, ap, ap₂, ◌∙◌}
use mathlib.Core.Bool.{Bool, true, false, cond}
use mathlib.Core.Logic.{◌⊎◌, inl, inr}
use mathlib.Core.List.{List, [], ◌∷◌}
use Prim.Native.Nat.{ℕ, zero, suc, ◌+◌, ◌≤◌, ◌<◌}
use native.Mathlib.Nat.{eq-or-lt_of_le}
use native.Mathlib.Omega.{arith}
use borrow.Author.Tests.{lt-ltb, le-ltb}
use lib.Dec.{ltb}
use lib.ListN.{get_or, set, length-set}
use lib.Seq.{get_or-set_same, get_or-set_other}
use Rattle.model.specs.Model.{Words, state_count, togo, action_count, Action, action, no_action}
use Rattle.model.specs.Questions.{book_number}
use Rattle.model.specs.Policy.{Policy}
use Rattle.model.specs.Path.{byte_at, of_taken, taken}
use Rattle.model.specs.Limit.{first_mark, mark_of}
use Rattle.laws.specs.Members.{In, every_both, AtNexts}
use Rattle.questions.specs.Ranges.{and_right}
use Rattle.accepted.specs.Facts.{accepted}
use Rattle.accepted.specs.Shape.{shape}
use Rattle.path_sums.specs.Most.{most_next}
use Rattle.path_sums.proofs.Most.{next-same, to_go_bound}
use Rattle.path_sums.specs.Books.{most_from}
use Rattle.path_sums.proofs.Books.{from_nexts}
use Rattle.marks.specs.Marks.{number_at, MarksOf, MostTo}

-- the mark of an action, and of what is none
module _ (ws : Words) (marks : List ℕ) (p c : ℕ) where
  pub mark_is : c < action_count ws p → mark_of ws marks p c ≡ get_or marks (first_mark ws p + c) 0
  unfolding mark_of
  mark_is h = rw (lt-ltb c (action_count ws p) h)

  mark_none : action_count ws p ≤ c → mark_of ws marks p c ≡ 0
  unfolding mark_of
  mark_none h = rw (le-ltb c (action_count ws p) h)

no_action_lem : (ws : Words) (p c : ℕ) → action_count ws p ≤ c → action ws p c ≡ no_action
unfolding action
no_action_lem ws p c l = rw (le-ltb c (action_count ws p) l, and_right (ltb p (state_count ws)))

-- a state at which the policy has byte c
module _ (ws : Words) (ok : book_number ws ≡ 0) (marks : List ℕ) (bs : Policy) (p c : ℕ) (byte : byte_at bs p ≡ c) where
  abbrev number : ℕ → ℕ
  number q = most_from ws (mark_of ws marks) bs q

  from_byte : number p ≡ mark_of ws marks p c + most_next number (action ws p c).transitions
  unfolding taken
  from_byte = rw byte at (from_nexts ws ok (mark_of ws marks) bs p)

  module _ (v : List ℕ) (h : MostTo ws marks bs (p + 1) v) where
    later : AtNexts (λ q. number_at v q ≡ number q) (action ws p c).transitions
    later = every_both (λ t l i. h.done t.next (omega arith) i) (action ws p c).transitions ((shape ws ok).later p c) ((shape ws ok).inside p c)

    -- the figure of the state by those of the next states
    pub figure : c < action_count ws p → (m : ℕ) → m ≡ get_or marks (first_mark ws p + c) 0 → m + most_next (number_at v) (action ws p c).transitions ≡ number p
    figure l m e =
        ap₂ ◌+◌ (e ∙ sym (mark_is ws marks p c l)) (next-same (number_at v) number (action ws p c).transitions later) ∙ sym from_byte

    -- is stored
    pub stored : p < state_count ws → state_count ws ≤ 64 → (y : ℕ) → y ≡ number p → MostTo ws marks bs p (set v p y)
    stored l few y e =
        record {
          long = length-set v p y ∙ h.long;
          done = λ q a b. done q b (eq-or-lt_of_le a);
          left = λ q a. get_or-set_other v p q y 0 (λ k. absurd (omega arith)) ∙ h.left q (omega arith);
        }
      where
        done : (q : ℕ) → q < state_count ws → (p ≡ q) ⊎ (p < q) → number_at (set v p y) q ≡ number q
        done q b (inl k) = rw (← k) (get_or-set_same v p y 0 (omega (arith, h.long)) ∙ e)
        done q b (inr k) = get_or-set_other v p q y 0 (λ i. absurd (omega arith)) ∙ h.done q (omega arith) b

    -- no action: 0, as it was
    none : action_count ws p ≤ c → number p ≡ 0
    none l = from_byte ∙ ap₂ ◌+◌ (mark_none ws marks p c l) (ap (λ (a : Action). most_next number a.transitions) (no_action_lem ws p c l))

    pub kept : action_count ws p ≤ c → MostTo ws marks bs p v
    kept l =
        record { long = h.long; done = λ q a b. done q b (eq-or-lt_of_le a); left = λ q a. h.left q (omega arith) }
      where
        done : (q : ℕ) → q < state_count ws → (p ≡ q) ⊎ (p < q) → number_at v q ≡ number q
        done q b (inl k) = rw (← k) (h.left p (omega arith) ∙ sym (none l))
        done q b (inr k) = h.done q (omega arith) b

-- a mark, or 0 where there is none
small_at : (bs : List ℕ) → ((b : ℕ) → In b bs → b ≤ 1) → (i : ℕ) → get_or bs i 0 ≤ 1
small_at [] h i = omega arith
small_at (b ∷ bs) h zero = h b (inl refl)
small_at (b ∷ bs) h (suc i) = small_at bs (λ c j. h c (inr j)) i

-- at most one for each stage
module _ (ws : Words) (ok : book_number ws ≡ 0) (marks : List ℕ) (m : MarksOf ws marks) (bs : Policy) where
  small : (p : ℕ) → mark_of ws marks p (byte_at bs p) ≤ 1
  unfolding mark_of
  small p = go (ltb (byte_at bs p) (action_count ws p))
    where
      go : (b : Bool) → cond b (get_or marks (first_mark ws p + byte_at bs p) 0) 0 ≤ 1
      go true = small_at marks m.values (first_mark ws p + byte_at bs p)
      go false = omega arith

  pub few : (p : ℕ) → most_from ws (mark_of ws marks) bs p ≤ 9
  unfolding most_from togo
  few p = omega (arith, to_go_bound (of_taken (mark_of ws marks) bs) (taken ws bs) 1 small (togo ws p) p, togo_small p)
    where
      togo_small : (p : ℕ) → togo ws p ≤ 8
      togo_small p = omega (arith, (accepted ws ok).sizes.h_high)
