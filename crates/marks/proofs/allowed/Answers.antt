-- The length, the values, m.
-- Assumes nothing.
use mathlib.Core.Path.{◌≡◌, refl, sym, ◌∙◌}
use mathlib.Core.Bool.{◌&&◌}
use mathlib.Core.List.{List}
use Prim.Native.Nat.{ℕ}
use borrow.Author.Tests.{eq-eqb, ne_eqb, tests}
use lib.Dec.{eqb}
use lib.ListN.{length}
use Rattle.std.proofs.Common.{rules}
use Rattle.std.specs.List.{list_all}
use Rattle.std.proofs.lemmas.List.Recursion.{same_from_clauses}
use Rattle.std.proofs.lemmas.Iterator.{YieldsList-from_slice}
use Rattle.std.proofs.lemmas.Iterator.Search.{all_from_yields_List}
use Rattle.model.specs.Lists.{every}
use Rattle.model.specs.Model.{state_count}
use Rattle.model.specs.Limit.{first_mark, is_mark, limit_allowed}
use Rattle.marks.proofs.allowed.Goals as goal
use Rattle.marks.proofs.allowed.Goals.{Joined-marks-action_total, then-marks-action_total, else-marks-action_total}

-- `all` asks what `every` asks
all_is : (bs : List ℕ) → list_all is_mark bs ≡ every is_mark bs
all_is = same_from_clauses (list_all is_mark) (every is_mark) (λ x t. is_mark x && t) refl (λ x xs. refl) (λ x xs. refl)

-- the marks are as many as are due, and each is one
first_two : (c : Joined-marks-action_total) → c.if-marks-action_total.value
    ≡ (eqb (length c.args.marks.now) (first_mark c.args.b.now (state_count c.args.b.now)) && every is_mark c.args.marks.now)
first_two c = elim c.if-marks-action_total.branch [
  | then-marks-action_total w ↦
      let x = all_from_yields_List is_mark _ _ _ w.all.ensures.ran (YieldsList-from_slice c.args.marks.now cc) (λ x b q k. search (rules, tests)) in
      w.value-is ∙ x ∙ all_is c.args.marks.now ∙ sym (rw (eq-eqb _ _ (w.if-marks-action_total.true ∙ c.action_total.ensures)) refl)
  | else-marks-action_total w ↦
      let h = ne_eqb _ _ w.if-marks-action_total.false in
      w.value-is ∙ h ∙ sym (rw (← c.action_total.ensures, h) refl)
]

pub returns-then-all : goal.returns-then-all
unfolding limit_allowed
returns-then-all c = rw (← first_two (goal.at.returns-then-all c).Joined-marks-action_total, c.if-all.true) refl

pub returns-else-all : goal.returns-else-all
unfolding limit_allowed
returns-else-all c = rw (← first_two (goal.at.returns-else-all c).Joined-marks-action_total, c.if-all.false) refl
