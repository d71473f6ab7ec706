-- The search from the first candidate, with the table and the first best actions of the book; nothing where it has no policy.
-- Assumes nothing.
use mathlib.Core.Path.{◌≡◌, sym, ap, ◌∙◌}
use mathlib.Core.Bool.{Bool, not}
use mathlib.Core.List.{List}
use Prim.Native.Nat.{ℕ}
use native.Mathlib.Omega.{arith}
use Rattle.model.specs.Model.{Words}
use Rattle.model.specs.Questions.{book_number}
use Rattle.model.specs.Policy.{has_policy}
use Rattle.accepted.specs.Shape.{shape, has_alive, has_is}
use Rattle.sets.specs.Sets.{has}
use Rattle.feasible.specs.Barred.{BarredFrom}
use Rattle.build.proofs.Best.{table_rows}
use Rattle.engine.proofs.Ranking.{cost-first, ranked, none_ranked}
use Rattle.engine.proofs.list_by.Goals as goal

-- the test of state 0 is question 28
tested : {ws : Words} {off : List ℕ} {dead : ℕ} {t : Bool} → book_number ws ≡ 0 → BarredFrom ws 0 off dead → t ≡ has dead 0 → has_policy ws ≡ not t
tested {ws} ok m e = has_is ws ok ∙ sym (ap not (e ∙ m.dead_is 0 (omega arith) (shape ws ok).some_state))

pub returns-then-has : goal.returns-then-has
returns-then-has c =
    none_ranked c.args.b.now _ (tested c.requires.0.checked.ok c.find_barred-m.ensures c.has.ensures ∙ ap not c.if-has.true)

pub search-requires : goal.search-requires
search-requires c =
    let ws = c.args.b.now in
    let h = c.requires in
    let ok = h.0.checked.ok in
    let yes = tested ok c.find_barred-m.ensures c.has.ensures ∙ ap not c.if-has.false in (
      record {
        indexed = h.0;
        next = c.fill_sets.ensures;
        rows = table_rows _ _ _ c.fill_table.ensures;
        firsts = c.best_actions.ensures.0;
      },
      record {
        some = has_alive ws ok yes;
        cost_is = cost-first ws ok yes _ _ c.fill_table.ensures;
        most_low = h.1;
        most_high = h.2;
        seconds = c.best_actions.ensures.1;
      },
      h.3,
    )

pub returns : goal.returns
returns c =
    let ok = c.requires.0.checked.ok in
    ranked c.args.b.now ok (tested ok c.find_barred-m.ensures c.has.ensures ∙ ap not c.if-has.false) _ c.search.result c.search.ensures
