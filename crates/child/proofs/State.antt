-- What a candidate adds to the pool at one state.
-- Assumes nothing.
use mathlib.Core.Path.{◌≡◌, sym, ap, ◌∙◌}
use mathlib.Core.Bool.{Bool, cond}
use mathlib.Core.Logic.{◌⊎◌, inl, inr}
use mathlib.Core.List.{List}
use Prim.Native.Nat.{ℕ, ◌+◌, ◌≤◌, ◌<◌}
use native.Mathlib.Nat.{eq-or-lt_of_le}
use native.Mathlib.Omega.{arith}
use borrow.Author.Tests.{eq-eqb, ne_eqb}
use lib.Dec.{eqb}
use lib.IntN.{ℤ}
use lib.ListN.{get_or}
use Rattle.model.specs.Lists.{up_from}
use Rattle.model.specs.Questions.{book_number}
use Rattle.build.specs.Best.{RowsOf, BestOf, SecondOf, second_at}
use Rattle.build.proofs.Best.{row-best}
use Rattle.model.specs.Model.{Words, scale, state_count, togo, action_count, action}
use Rattle.model.specs.Path.{byte_at}
use Rattle.model.specs.Recursion.{best_of, through, feasible}
use Rattle.table.specs.Table.{row_of}
use Rattle.sets.specs.Sets.{with, free}
use Rattle.accepted.specs.Bytes.{byte_is}
use Rattle.splits.specs.Search.{admit}
use Rattle.stored.specs.Entry.{Entry, earlier_entry}
use Rattle.stored.specs.Lists.{left}
use Rattle.stored.specs.Children.{Right, mask_at, child_entry}
use Rattle.stored.specs.Runs.{itself}
use Rattle.child.proofs.Splits.{none_unreached, none_left, own-feasible, own_small, own-best, one_child}
use Rattle.child.specs.Children.{next_by, ChildAt, joined, admitted}
use Rattle.child.proofs.Children.{in_plan}

module _ (ws : Words) (ok : book_number ws ≡ 0) (q : List ℤ) (rows : RowsOf ws q) (e : Entry) (ri : Right ws e) (p : ℕ)
    (from : e.split ≤ p) (state : p < state_count ws) (k : ℕ) (es : List Entry) where
  abbrev f : ℕ
  f = get_or e.plan p 0

  pub byte : f ≡ byte_at e.plan p
  byte = byte_is e.plan p 0 255 (in_plan ws ok q rows e ri p state)

  pub unreached : f ≡ 255 → es ≡ admitted ws k e p es
  unreached h = sym (ap (λ (cs : List Entry). admit earlier_entry itself k cs es) (none_unreached ws ok e ri p state from (sym byte ∙ h)))

  module _ (other : f ≡ 255 → ⊥) where
    other' : byte_at e.plan p ≡ 255 → ⊥
    other' h = other (byte ∙ h)

    pub small : f < 8
    small = omega (arith, byte, own_small ws ok e ri p state from other')

    module _ (best : List ℕ) (bo : BestOf ws best) (so : SecondOf ws best) (m r : ℕ) (mask_is : m ≡ with (cond (eqb p e.split) e.mask 0) f)
        (r_is : r ≡ next_by ws q best e.split p m) where
      abbrev cost : ℕ → ℤ
      cost = through (scale ws) (action ws) (feasible ws) (togo ws p) p

      mask_at_lem : m ≡ mask_at e p
      mask_at_lem = mask_is ∙ ap (with (cond (eqb p e.split) e.mask 0)) byte

      -- after the split state only its own action is barred, the first best one
      second : e.split < p → second_at ws p ≡ best_of cost (left ws p (mask_at e p))
      second l =
          ap (λ (c : ℕ). best_of cost (left ws p (with 0 c))) (sym (own-best ws ok e ri p state from other' l))
          ∙ sym (ap (λ (t : Bool). best_of cost (left ws p (with (cond t e.mask 0) (byte_at e.plan p)))) (ne_eqb p e.split (λ h. omega arith)))

      next : r ≡ best_of cost (left ws p (mask_at e p))
      next = r_is ∙ go (eq-or-lt_of_le from)
        where
          go : (e.split ≡ p) ⊎ (e.split < p) → next_by ws q best e.split p m ≡ best_of cost (left ws p (mask_at e p))
          go (inl h) =
              ap (λ (t : Bool). cond t (best_of (row_of q p) (free m (free (get_or best (128 + p) 0) (up_from 0 (action_count ws p))))) (get_or best (64 + p) 0)) (eq-eqb e.split p h)
              ∙ row-best ws p (get_or best (128 + p) 0) (bo.barred p state) q rows state m ∙ ap (λ (m : ℕ). best_of cost (left ws p m)) mask_at_lem
          go (inr l) =
              ap (λ (t : Bool). cond t (best_of (row_of q p) (free m (free (get_or best (128 + p) 0) (up_from 0 (action_count ws p))))) (get_or best (64 + p) 0))
              (ne_eqb e.split p (λ h. omega arith))
              ∙ so p state ∙ second l

      pub none : r ≡ 255 → es ≡ admitted ws k e p es
      none h = sym (ap (λ (cs : List Entry). admit earlier_entry itself k cs es) (none_left ws ok e ri p state from cost (sym next ∙ h)))

      module _ (some : r ≡ 255 → ⊥) where
        pub child_at_lem : ChildAt ws e p r m
        child_at_lem =
            record {
              state = state;
              from = from;
              own = own-feasible ws ok e ri p state from other';
              mask_is = mask_at_lem;
              next = next;
              some = (one_child ws ok e ri p state from other' cost r next some).0;
            }

        pub one : joined k (child_entry ws e p) es ≡ admitted ws k e p es
        one = sym (ap (λ (cs : List Entry). admit earlier_entry itself k cs es) (one_child ws ok e ri p state from other' cost r next some).1)
