-- Books in which no action is closed: every action is an option, and an accepted book has a policy.
-- Assumes nothing.
use Rattle.std.specs.Prelude.{◌≡◌, refl, true, not, ℕ, zero, suc, ◌<◌}
use Rattle.std.proofs.Common.{ap, ◌∙◌, arith}
use Rattle.model.specs.Lists.{up_from}
use Rattle.model.specs.Model.{Words, state_count, togo, action_count, action, closed, options}
use Rattle.model.specs.Questions.{book_number}
use Rattle.model.specs.Policy.{has_policy}
use Rattle.laws.specs.Members.{every_imp, every_both, up_from_in, AtNexts}
use Rattle.laws.specs.Kept.{keep_all}
use Rattle.accepted.specs.Facts.{accepted}
use Rattle.accepted.specs.Options.{Option, Alive, options_are, open_option}
use Rattle.accepted.specs.Shape.{shape, alive_feasible, alive_has}
use Rattle.open_books.specs.Open.{AllOpen}

-- every action is an option
pub options-all : (ws : Words) → AllOpen ws → (p : ℕ) → p < state_count ws → options ws p ≡ up_from 0 (action_count ws p)
options-all ws opened p l =
    options_are ws p
    ∙ keep_all (λ (c : ℕ). not (closed (action ws p c).cost)) (up_from 0 (action_count ws p))
    (λ c i. ap not (opened p c l (omega (arith, up_from_in 0 (action_count ws p) i))))

module _ (ws : Words) (ok : book_number ws ≡ 0) where
  -- where every state has an option, a policy goes on from each
  module _ (some : (p : ℕ) → p < state_count ws → (c : ℕ) × Option ws p c) where
    by_nexts : (p : ℕ) → p < state_count ws → ((c : ℕ) → AtNexts (Alive ws) (action ws p c).transitions) → Alive ws p
    by_nexts p l next = let o = some p l in record { state = l; some = (o.0, alive_feasible ws ok p o.0 o.1 (next o.0)) }

    alive : (m p : ℕ) → togo ws p ≡ m → p < state_count ws → Alive ws p
    alive zero p e l = by_nexts p l (λ c. every_imp (λ t s. absurd (omega arith)) (action ws p c).transitions ((shape ws ok).step p c))
    alive (suc m) p e l =
        by_nexts p l
        (λ c. every_both (λ t s i. alive m t.next (omega arith) i) (action ws p c).transitions ((shape ws ok).step p c) ((shape ws ok).inside p c))

    pub some_open : has_policy ws ≡ true
    some_open = alive_has ws ok (alive (togo ws 0) 0 refl (shape ws ok).some_state)

  -- "1 to 8 choices a post", none of them closed
  pub open_policy : AllOpen ws → has_policy ws ≡ true
  open_policy opened = some_open (λ p l. let h = (accepted ws ok).counts_low p l in (0, open_option ws p 0 h (opened p 0 l h)))
