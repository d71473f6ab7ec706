-- How many plans a book has: the enumeration has each once, so it has more than m exactly if there are more than m different plans.
-- Assumes nothing.
-- ---- lists without repeats
use Rattle.std.specs.Prelude.{◌≡◌, ◌↔◌, ℕ, ◌<◌, length}
use Rattle.std.proofs.Common.{arith}
use Rattle.model.specs.Model.{Words}
use Rattle.model.specs.Questions.{book_number}
use Rattle.model.specs.Policy.{policies}
use Rattle.accepted.specs.Demands.{policies_are, policies_once}
use Rattle.small_books.specs.Count.{apart_most, MoreThan}

-- ---- plans

pub more_is : (ws : Words) → book_number ws ≡ 0 → (m : ℕ) → (m < length (policies ws)) ↔ MoreThan ws m
more_is ws ok m = (
  λ h. record { plans = policies ws; each = λ bs i. (policies_are ws ok bs).0 i; differ = policies_once ws ok; more = h },
  λ h. omega (arith, h.more, apart_most h.plans (policies ws) h.differ (λ bs i. (policies_are ws ok bs).1 (h.each bs i))),
)
