-- The bytes of a policy: as many as there are states, each an option of its state, from which a policy goes on, or 255.
-- Assumes nothing.
use Rattle.std.specs.Prelude.{◌≡◌, refl, Bool, true, false, ◌⊎◌, List, [], ◌∷◌, ℕ, zero, suc, ◌<◌, length, get_or}
use Rattle.std.proofs.Common.{inl, inr, arith}
use Rattle.model.specs.Lists.{is_in}
use Rattle.model.specs.Model.{Words, state_count, action}
use Rattle.model.specs.Questions.{book_number}
use Rattle.model.specs.Policy.{Policy, allowed, is_policy}
use Rattle.model.specs.Path.{byte_at}
use Rattle.model.specs.Recursion.{feasible}
use Rattle.laws.specs.Members.{In, in_one, true-T}
use Rattle.laws.specs.Policies.{reads}
use Rattle.laws.specs.Walks.{policy-allowed}
use Rattle.accepted.specs.Options.{Option, Feasible}
use Rattle.accepted.specs.Shape.{shape, policy-feasible}
use Rattle.accepted.specs.Demands.{reached, PolicyBytes, policy-bytes, policy_takes}

-- a byte that is there is read whatever stands for a missing one
pub byte_is : (bs : List ℕ) (p d e : ℕ) → p < length bs → get_or bs p d ≡ get_or bs p e
byte_is [] p d e h = absurd (omega arith)
byte_is (b ∷ bs) zero d e h = refl
byte_is (b ∷ bs) (suc p) d e h = byte_is bs p d e (omega arith)

module _ (ws : Words) (ok : book_number ws ≡ 0) (bs : Policy) (is : is_policy ws bs ≡ true) where
  bytes : PolicyBytes ws bs
  bytes = (policy-bytes ws ok bs).0 (true-T is)

  pub policy_long : length bs ≡ state_count ws
  policy_long = bytes.long

  pub byte_cases : (p : ℕ) → p < state_count ws → (byte_at bs p ≡ 255) ⊎ Option ws p (byte_at bs p)
  byte_cases p state = policy_takes ws ok bs (true-T is) p

  -- and each action that it takes is one from which a policy goes on
  pub feasible_cases : (p : ℕ) → p < state_count ws → (byte_at bs p ≡ 255) ⊎ Feasible ws p (byte_at bs p)
  feasible_cases p state =
      go (is_in p (reached ws bs))
      (policy-allowed (action ws) (feasible ws) (shape ws ok).later (byte_at bs) (state_count ws) 0 (0 ∷ []) bs ((policy-feasible ws ok bs).0 (true-T is))
      (reads bs) p (omega arith) (omega arith))
    where
      go : (b : Bool) → In (byte_at bs p) (allowed (feasible ws p) b) → (byte_at bs p ≡ 255) ⊎ Feasible ws p (byte_at bs p)
      go true i = inr i
      go false i = inl (in_one i)
