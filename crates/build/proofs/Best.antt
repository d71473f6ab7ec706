-- The first and second best actions, found one state at a time.
-- Assumes nothing.
use mathlib.Core.Path.{◌≡◌, refl, sym, ap, ◌∙◌, subst}
use mathlib.Core.Logic.{◌⊎◌, inl, inr}
use mathlib.Core.List.{List, [], ◌∷◌}
use Prim.Native.Nat.{ℕ, ◌+◌, ◌≤◌, ◌<◌}
use native.Mathlib.Nat.{eq-or-lt_of_le}
use native.Mathlib.Omega.{arith}
use lib.IntN.{ℤ}
use lib.ListN.{length, get_or, set, length-set}
use lib.Seq.{get_or-set_same, get_or-set_other}
use Rattle.model.specs.Lists.{up_from}
use Rattle.model.specs.Model.{Words, scale, state_count, togo, action_count, action}
use Rattle.model.specs.Recursion.{best_of, through, feasible}
use Rattle.laws.specs.Members.{In, Every, every_in, in_every}
use Rattle.laws.specs.Best.{best_in, best_cases}
use Rattle.accepted.specs.Options.{Feasible, Alive}
use Rattle.sets.specs.Sets.{free, free_all, free_in}
use Rattle.feasible.specs.Barred.{Leaves}
use Rattle.table.specs.Table.{row_of, TableOf}
use Rattle.table.proofs.Better.{best-same}
use Rattle.build.specs.Best.{best_at, second_at, RowsOf, BestTo, SecondTo}

-- the table has the rows
pub table_rows : (ws : Words) (q v : List ℤ) → TableOf ws q v → RowsOf ws q
table_rows ws q v t = record { rows = t.rows; through_is = λ p c h k. t.through_is p c (omega arith) h k }

module _ (ws : Words) (p : ℕ) where
  abbrev cost : ℕ → ℤ
  cost = through (scale ws) (action ws) (feasible ws) (togo ws p) p

  module _ (off : ℕ) (lv : Leaves ws p off) (q : List ℤ) (t : RowsOf ws q) (h : p < state_count ws) where
    -- the choice by the row of a state is the choice by the model
    pub row-best : (m : ℕ) → best_of (row_of q p) (free m (free off (up_from 0 (action_count ws p))))
        ≡ best_of (through (scale ws) (action ws) (feasible ws) (togo ws p) p) (free m (feasible ws p))
    row-best m =
        ap (λ (xs : List ℕ). best_of (row_of q p) (free m xs)) lv
        ∙ best-same (row_of q p) cost (free m (feasible ws p))
        (in_every (λ c. row_of q p c ≡ cost c) (free m (feasible ws p)) (λ c i. t.through_is p c h (free_in m c (feasible ws p) i)))

    pub row_first : best_of (row_of q p) (free off (up_from 0 (action_count ws p))) ≡ best_at ws p
    row_first =
        ap (best_of (row_of q p)) (sym (free_all (free off (up_from 0 (action_count ws p))))) ∙ row-best 0 ∙ ap (best_of cost) (free_all (feasible ws p))

  -- the first best action is a feasible one, if there is one
  pub best_option : Alive ws p → Feasible ws p (best_at ws p)
  best_option a = best_in cost (feasible ws p) a.some.0 a.some.1

-- a list of actions whose first best is none is empty
pub none-best : (f : ℕ → ℤ) (xs : List ℕ) → Every (λ c. c < 8) xs → best_of f xs ≡ 255 → xs ≡ []
none-best f [] h e = refl
none-best f (x ∷ xs) h e = absurd (omega (arith, e, every_in (λ c. c < 8) (x ∷ xs) h (best_of f (x ∷ xs)) (best_in f (x ∷ xs) x (inl refl))))

-- the first best of some actions, or 255, fits a byte
pub best-byte : (f : ℕ → ℤ) (xs : List ℕ) → ((c : ℕ) → In c xs → c < 8) → best_of f xs < 256
best-byte f xs h = go (best_cases f xs)
  where
    go : (best_of f xs ≡ 255) ⊎ In (best_of f xs) xs → best_of f xs < 256
    go (inl e) = omega (arith, e)
    go (inr i) = omega (arith, h (best_of f xs) i)

-- what is found of the states below n, where a list of k policies is asked for
abbrev pub Found : Words → ℕ → ℕ → List ℕ → Type 0
Found ws k n xs = BestTo ws n xs × (1 < k → SecondTo ws n xs)

pub found_none : (ws : Words) (k : ℕ) (xs : List ℕ) → length xs ≡ 192 → Found ws k 0 xs
found_none ws k xs l = (
  record { long = l; best_is = λ p h. absurd (omega arith); barred = λ p h. absurd (omega arith) },
  λ j p h. absurd (omega arith),
)

-- one state more
module _ (ws : Words) (k n a m : ℕ) (xs : List ℕ) (h : n < 64) (t : Found ws k n xs) (a-is : a ≡ best_at ws n) (m-is : Leaves ws n m) where
  -- its first best action and its set
  abbrev ys : List ℕ
  ys = set (set xs n a) (128 + n) m

  le : (p : ℕ) → p < n + 1 → p ≤ n
  le p l = omega arith

  long : length ys ≡ 192
  long = length-set (set xs n a) (128 + n) m ∙ length-set xs n a ∙ t.0.long

  -- an entry of another place is as before
  other : (i : ℕ) → (i ≡ n → ⊥) → (i ≡ 128 + n → ⊥) → get_or ys i 0 ≡ get_or xs i 0
  other i d e = get_or-set_other (set xs n a) (128 + n) i m 0 e ∙ get_or-set_other xs n i a 0 d

  first-is : (p : ℕ) → (p ≡ n) ⊎ (p < n) → get_or ys p 0 ≡ best_at ws p
  first-is p (inl l) =
      ap (λ (i : ℕ). get_or ys i 0) l ∙ get_or-set_other (set xs n a) (128 + n) n m 0 (λ e. omega arith)
      ∙ get_or-set_same xs n a 0 (omega (arith, t.0.long)) ∙ a-is ∙ ap (best_at ws) (sym l)
  first-is p (inr l) = other p (λ e. omega arith) (λ e. omega arith) ∙ t.0.best_is p l

  barred_is : (p : ℕ) → (p ≡ n) ⊎ (p < n) → Leaves ws p (get_or ys (128 + p) 0)
  barred_is p (inl l) =
      subst (λ (q : ℕ). Leaves ws q (get_or ys (128 + q) 0)) (sym l)
      (subst (Leaves ws n) (sym (get_or-set_same (set xs n a) (128 + n) m 0 (omega (arith, length-set xs n a, t.0.long)))) m-is)
  barred_is p (inr l) = subst (Leaves ws p) (sym (other (128 + p) (λ e. omega arith) (λ e. omega arith))) (t.0.barred p l)

  first_more : BestTo ws (n + 1) ys
  first_more = record {
    long = long;
    best_is = λ p l. first-is p (eq-or-lt_of_le (le p l));
    barred = λ p l. barred_is p (eq-or-lt_of_le (le p l));
  }

  pub found_one : (1 < k → ⊥) → Found ws k (n + 1) (set (set xs n a) (128 + n) m)
  found_one j = (first_more, λ i. absurd (j i))

  pub found_two : (d : ℕ) → 1 < k → d ≡ second_at ws n → Found ws k (n + 1) (set (set (set xs n a) (128 + n) m) (64 + n) d)
  found_two d j d_is = (
    record {
      long = length-set ys (64 + n) d ∙ long;
      best_is = λ p l. get_or-set_other ys (64 + n) p d 0 (λ i. absurd (omega arith)) ∙ first_more.best_is p l;
      barred = λ p l. subst (Leaves ws p) (sym (get_or-set_other ys (64 + n) (128 + p) d 0 (λ i. absurd (omega arith)))) (first_more.barred p l);
    },
    λ j p l. go p (eq-or-lt_of_le (le p l)),
  )
    where
      go : (p : ℕ) → (p ≡ n) ⊎ (p < n) → get_or (set ys (64 + n) d) (64 + p) 0 ≡ second_at ws p
      go p (inl l) =
          ap (λ (i : ℕ). get_or (set ys (64 + n) d) (64 + i) 0) l
          ∙ get_or-set_same ys (64 + n) d 0 (omega (arith, long)) ∙ d_is ∙ ap (second_at ws) (sym l)
      go p (inr l) =
          get_or-set_other ys (64 + n) (64 + p) d 0 (λ i. absurd (omega arith)) ∙ other (64 + p) (λ i. absurd (omega arith)) (λ i. absurd (omega arith))
          ∙ t.1 j p l
