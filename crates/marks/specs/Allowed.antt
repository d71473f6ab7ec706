-- What question 29 asks.
-- Assumes nothing.
use Rattle.std.specs.Prelude.{Bool, ◌&&◌, ◌↔◌, ◌≤◌, T, eqb, leb, length}
use Rattle.std.proofs.Common.{eqb-true, eq-eqb, leb-true, le-leb}
use Rattle.model.specs.Lists.{every}
use Rattle.model.specs.Model.{Words, state_count}
use Rattle.model.specs.Limit.{Limit, first_mark, is_mark, highest_limit, limit_allowed}
use Rattle.laws.specs.Members.{T_true, true-T, and_T, T_and, every_in, in_every}
use Rattle.laws.specs.Kept.{every_is}
use Rattle.marks.specs.Marks.{MarksOf}

-- the marks are those of the model, and m is from 0 to 9
pub record Allowed (ws : Words) (limit : Limit) : Type 0 where
  pub marks_are : MarksOf ws limit.marks
  pub most_high : limit.most ≤ 9

pub allowed_is : (ws : Words) (limit : Limit) → T (limit_allowed ws limit) ↔ Allowed ws limit
unfolding limit_allowed
allowed_is ws limit = (to, from)
  where
    length_due : Bool
    length_due = eqb (length limit.marks) (first_mark ws (state_count ws))

    values_due : Bool
    values_due = every is_mark limit.marks

    most_due : Bool
    most_due = leb limit.most highest_limit

    to : T (length_due && values_due && most_due) → Allowed ws limit
    to t =
        let a = and_T (length_due && values_due) most_due t in
        let b = and_T length_due values_due a.0 in
        record {
          marks_are = record {
            one_each = eqb-true _ _ (T_true length_due b.0);
            values = λ x i. leb-true x 1 (T_true (is_mark x) (every_in (λ x. T (is_mark x)) limit.marks ((every_is is_mark limit.marks).0 b.1) x i));
          };
          most_high = leb-true _ _ (T_true most_due a.1);
        }

    from : Allowed ws limit → T (length_due && values_due && most_due)
    from h =
        T_and (length_due && values_due) most_due
        (T_and length_due values_due (true-T (eq-eqb _ _ h.marks_are.one_each))
        ((every_is is_mark limit.marks).1 (in_every (λ x. T (is_mark x)) limit.marks (λ x i. true-T (le-leb x 1 (h.marks_are.values x i))))))
        (true-T (le-leb _ _ h.most_high))
