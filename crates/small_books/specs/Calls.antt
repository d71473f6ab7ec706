-- The numbers of the call of request 2.11.
-- Assumes nothing.
use Rattle.std.specs.Prelude.{◌≡◌, ◌↔◌, [], ◌*◌, ◌≤◌, length}
use Rattle.std.proofs.Math.Path.{refl}
use Rattle.std.proofs.Common.{◌∙◌}
use native.Mathlib.Omega.{arith}
use borrow.Author.Tests.{leb-true, le-leb}
use Rattle.model.specs.Model.{Words, state_count}
use Rattle.model.specs.Questions.{book_number}
use Rattle.model.specs.Policy.{policies}
use Rattle.model.specs.Record.{asked_number}
use Rattle.model.specs.Calls.{Room, most_small, is_small, small_questions, small_number}
use Rattle.accepted.specs.Demands.{NoPolicy}
use Rattle.questions.specs.FirstNo.{passed, passes, none, then_yes, then_zero}
use Rattle.asked.specs.Asked.{Asked, asked_says, asked_passed, before_28}

module _ (ws : Words) (room : Room) where
  -- a book, K and slices that pass every question
  pub record Passes : Type 0 where
    pub asked : Asked ws room.k
    pub few : length (policies ws) ≤ most_small
    pub costs_room : room.k ≤ room.costs
    pub plans_room : room.k * state_count ws ≤ room.plans

  pub small_accepts : (small_number ws room ≡ 0) ↔ Passes
  unfolding small_number is_small
  small_accepts = (to, from)
    where
      to : small_number ws room ≡ 0 → Passes
      to e =
          let z = then_zero (asked_number ws room.k) _ e in
          let p = passed room (small_questions ws) (omega arith, (omega arith, omega arith)) z.1 in
          record {
            asked = asked_says ws room.k z.0;
            few = leb-true (length (policies ws)) most_small p.0;
            costs_room = leb-true room.k room.costs p.1.0;
            plans_room = leb-true (room.k * state_count ws) room.plans p.1.1.0;
          }

      from : Passes → small_number ws room ≡ 0
      from h =
          then_yes (asked_number ws room.k) _ (asked_passed ws room.k h.asked)
          ∙ passes room _ _ (le-leb (length (policies ws)) most_small h.few)
          ∙ passes room _ _ (le-leb room.k room.costs h.costs_room)
          ∙ passes room _ [] (le-leb (room.k * state_count ws) room.plans h.plans_room) ∙ none room

  -- "after 28": a book without a plan gets 28, whatever the slices
  pub small_28 : book_number ws ≡ 0 → 1 ≤ room.k → room.k ≤ 64 → (small_number ws room ≡ 28) ↔ NoPolicy ws
  unfolding small_number
  small_28 ok low high = before_28 ws room.k ok low high room (small_questions ws) (refl, (refl, (refl, tt)))
