-- The index grows by one state.
-- Assumes nothing.
use mathlib.Core.Path.{◌≡◌, sym, ap, ◌∙◌}
use mathlib.Core.Logic.{◌⊎◌, inl, inr}
use mathlib.Core.List.{List}
use Prim.Native.Nat.{ℕ, ◌+◌, ◌≤◌, ◌<◌}
use native.Mathlib.Nat.{eq-or-lt_of_le}
use native.Mathlib.Omega.{arith}
use lib.ListN.{length, get_or, set, length-set}
use lib.Seq.{get_or-set_same, get_or-set_other}
use Rattle.model.specs.Model.{Words, first_state, stage, togo, state_line}
use Rattle.index.specs.Index.{IndexTo}

module _ (xs : List ℕ) (p a e g : ℕ) (long : length xs ≡ 192) (low : p < 64) where
  abbrev one : List ℕ
  one = set xs p a

  abbrev two : List ℕ
  two = set one (64 + p) e

  abbrev three : List ℕ
  three = set two (128 + p) g

  pub three_long : length three ≡ 192
  three_long = length-set two (128 + p) g ∙ length-set one (64 + p) e ∙ length-set xs p a ∙ long

  -- what was stored
  at_line : get_or three p 0 ≡ a
  at_line =
      get_or-set_other two (128 + p) p g 0 (λ q. absurd (omega arith)) ∙ get_or-set_other one (64 + p) p e 0 (λ q. absurd (omega arith))
      ∙ get_or-set_same xs p a 0 (omega arith)

  at_base : get_or three (64 + p) 0 ≡ e
  at_base =
      get_or-set_other two (128 + p) (64 + p) g 0 (λ q. absurd (omega arith))
      ∙ get_or-set_same one (64 + p) e 0 (omega (arith, length-set xs p a))

  at_go : get_or three (128 + p) 0 ≡ g
  at_go = get_or-set_same two (128 + p) g 0 (omega (arith, length-set one (64 + p) e, length-set xs p a))

  -- and every other place is as it was
  other : (k : ℕ) → (k ≡ p → ⊥) → (k ≡ 64 + p → ⊥) → (k ≡ 128 + p → ⊥) → get_or three k 0 ≡ get_or xs k 0
  other k u v w = get_or-set_other two (128 + p) k g 0 w ∙ get_or-set_other one (64 + p) k e 0 v ∙ get_or-set_other xs p k a 0 u

  pub index_more : (ws : Words) → IndexTo ws p xs → a ≡ state_line ws p → e ≡ first_state ws (stage ws p + 1) → g ≡ togo ws p
      → IndexTo ws (p + 1) three
  index_more ws x i j k =
      record {
        long = three_long;
        line = λ q h. by q (omega arith) (λ r. ap (λ (n : ℕ). get_or three n 0) r ∙ at_line ∙ i ∙ ap (state_line ws) (sym r))
            (λ l. other q (λ r. omega arith) (λ r. omega arith) (λ r. omega arith) ∙ x.line q l);
        base = λ q h. by q (omega arith) (λ r. ap (λ (n : ℕ). get_or three (64 + n) 0) r ∙ at_base ∙ j ∙ ap (λ (n : ℕ). first_state ws (stage ws n + 1)) (sym r))
            (λ l. other (64 + q) (λ r. omega arith) (λ r. omega arith) (λ r. omega arith) ∙ x.base q l);
        to_go_lem = λ q h. by q (omega arith) (λ r. ap (λ (n : ℕ). get_or three (128 + n) 0) r ∙ at_go ∙ k ∙ ap (togo ws) (sym r))
            (λ l. other (128 + q) (λ r. omega arith) (λ r. omega arith) (λ r. omega arith) ∙ x.to_go_lem q l);
      }
    where
      by : {P : Type 0} (q : ℕ) → q ≤ p → (q ≡ p → P) → (q < p → P) → P
      by {P} q h u v = go (eq-or-lt_of_le h)
        where
          go : (q ≡ p) ⊎ (q < p) → P
          go (inl r) = u r
          go (inr l) = v l
