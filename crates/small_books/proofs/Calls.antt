-- When the call of request 2.11 gives 30.
-- Assumes nothing.
use Rattle.std.specs.Prelude.{◌≡◌, Bool, true, false, ◌↔◌, leb, length}
use Rattle.std.proofs.Math.Path.{refl}
use Rattle.std.proofs.Common.{sym, ◌∙◌}
use native.Mathlib.Omega.{arith}
use borrow.Author.Tests.{leb-false, lt-leb}
use Rattle.model.specs.Model.{Words}
use Rattle.model.specs.Questions.{first_no}
use Rattle.model.specs.Policy.{policies}
use Rattle.model.specs.Record.{asked_number}
use Rattle.model.specs.Calls.{Room, room_questions, most_small, is_small, small_questions, small_number}
use Rattle.questions.specs.FirstNo.{passes, fails, never, then_yes}
use Rattle.asked.specs.Asked.{Asked, asked_passed}
use Rattle.small_books.specs.Count.{MoreThan}
use Rattle.small_books.proofs.Count.{more_is}

module _ (ws : Words) (room : Room) where
  -- "Refused: 30, more than 4,096 plans, after 28 and before 15": whatever the slices
  pub small_30 : Asked ws room.k → (small_number ws room ≡ 30) ↔ MoreThan ws most_small
  unfolding small_number is_small
  small_30 a = (λ e. go (leb (length (policies ws)) most_small) refl (sym number ∙ e), from)
    where
      number : small_number ws room ≡ first_no (small_questions ws) room
      number = then_yes (asked_number ws room.k) _ (asked_passed ws room.k a)

      go : (t : Bool) → leb (length (policies ws)) most_small ≡ t → first_no (small_questions ws) room ≡ 30 → MoreThan ws most_small
      go true q e = absurd (never room 30 (omega arith) (room_questions ws) (refl, (refl, tt)) (sym (passes room _ (room_questions ws) q) ∙ e))
      go false q e = (more_is ws a.ok most_small).0 (leb-false (length (policies ws)) most_small q)

      from : MoreThan ws most_small → small_number ws room ≡ 30
      from h = number ∙ fails room _ _ (lt-leb (length (policies ws)) most_small ((more_is ws a.ok most_small).1 h))
