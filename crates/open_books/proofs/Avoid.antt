-- "nothing is missing from a list among the plans that avoid closed choices": of the policies that a book would have if no action were closed, its
-- policies are those that take no closed action at a state that they reach, and the list is over these.
-- Assumes nothing.
use Rattle.std.specs.Prelude.{◌≡◌, ◌↔◌, [], ◌∷◌, ℕ, ◌<◌, T}
use Rattle.std.proofs.Common.{arith}
use Rattle.model.specs.Lists.{count}
use Rattle.model.specs.Model.{Words, state_count, action_count, action, options}
use Rattle.model.specs.Questions.{book_number}
use Rattle.model.specs.Policy.{Policy, is_policy, policies}
use Rattle.model.specs.Path.{byte_at, taken}
use Rattle.model.specs.Order.{comes_before, ranking}
use Rattle.laws.specs.Members.{In, up_from_in, in_up_from}
use Rattle.laws.specs.Policies.{IsPolicy, fits_is}
use Rattle.laws.specs.Walks.{other_options}
use Rattle.accepted.specs.Options.{Option, option_below, open_option}
use Rattle.accepted.specs.Shape.{shape, policy_is}
use Rattle.accepted.specs.Demands.{reached, takes_open, in_list}
use Rattle.open_books.specs.Former.{former_options, former_plan}
use Rattle.open_books.specs.Avoid.{Avoids}

module _ (ws : Words) (ok : book_number ws ≡ 0) (bs : Policy) where
  any_plan : T (former_plan ws bs) ↔ IsPolicy (action ws) (former_options ws) (state_count ws) 0 (0 ∷ []) bs
  unfolding former_plan
  any_plan = fits_is (action ws) (former_options ws) (state_count ws) 0 (0 ∷ []) bs

  pub avoids_exactly : T (is_policy ws bs) ↔ (T (former_plan ws bs) × Avoids ws bs)
  unfolding taken
  avoids_exactly = (
    λ t. (
      any_plan.1 (other_options (action ws) (shape ws ok).later (options ws) (former_options ws) (state_count ws) bs wider ((policy_is ws bs).0 t)),
      takes_open ws ok bs t,
    ),
    λ h. (policy_is ws bs).1
        (other_options (action ws) (shape ws ok).later (former_options ws) (options ws) (state_count ws) bs (narrower h.1) (any_plan.0 h.0)),
  )
    where
      wider : (q : ℕ) → In q (reached ws bs) → Option ws q (byte_at bs q) → In (byte_at bs q) (former_options ws q)
      wider q i o = in_up_from 0 (action_count ws q) (byte_at bs q) (omega arith) (omega (arith, option_below ws q o))

      narrower : Avoids ws bs → (q : ℕ) → In q (reached ws bs) → In (byte_at bs q) (former_options ws q) → Option ws q (byte_at bs q)
      narrower avoids q i o = open_option ws q (byte_at bs q) (omega (arith, up_from_in 0 (action_count ws q) o)) (avoids q i)

  -- what would be a policy if no action were closed is listed exactly if it avoids the closed ones and fewer than K that do come before it
  pub listed_avoiding : (K : ℕ)
      → In bs (ranking ws K) ↔ (T (former_plan ws bs) × Avoids ws bs × (count (λ q. comes_before ws q bs) (policies ws) < K))
  listed_avoiding K = (
    λ i. let h = (in_list ws ok K bs).0 i in let a = avoids_exactly.0 h.0 in (a.0, a.1, h.1),
    λ h. (in_list ws ok K bs).1 (avoids_exactly.1 (h.0, h.1), h.2),
  )
