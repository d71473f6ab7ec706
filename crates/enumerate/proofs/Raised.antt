-- The first feasible action above a policy's byte, by the first that the set of the others leaves.
-- Assumes nothing.
use mathlib.Core.Path.{◌≡◌, sym, ap₂, ◌∙◌}
use mathlib.Core.List.{List}
use Prim.Native.Nat.{ℕ, ◌+◌, ◌<◌}
use native.Mathlib.Omega.{arith}
use lib.ListN.{length, get_or}
use Rattle.model.specs.Lists.{up_from}
use Rattle.model.specs.Model.{Words, state_count, action_count}
use Rattle.model.specs.Questions.{book_number}
use Rattle.model.specs.Policy.{Policy}
use Rattle.accepted.specs.Facts.{accepted}
use Rattle.accepted.specs.Bytes.{byte_is}
use Rattle.sets.specs.Sets.{free}
use Rattle.feasible.specs.Barred.{BarredOf}
use Rattle.next_policy.specs.Next.{first_of, first_above}
use Rattle.next_policy.specs.Books.{higher_at}
use Rattle.enumerate.specs.Steps.{HigherIs}
use Rattle.enumerate.proofs.Free.{free_from, above_none, above_some}

module _ (ws : Words) (ok : book_number ws ≡ 0) (off : List ℕ) (bar : BarredOf ws off) (bs : Policy) (long : length bs ≡ state_count ws)
    (p : ℕ) (l : p < state_count ws) where
  abbrev byte : ℕ
  byte = get_or bs p 0

  abbrev mask : ℕ
  mask = get_or off p 0

  same : higher_at ws bs p ≡ first_above byte (free mask (up_from 0 (action_count ws p)))
  same = ap₂ first_above (byte_is bs p 255 0 (omega (arith, long))) (sym (bar.leaves p l))

  pub higher_is : HigherIs ws bs p (first_of (free_from mask (byte + 1) (action_count ws p)))
  higher_is =
      record {
        absent = λ e. same ∙ above_none mask byte (action_count ws p) ((accepted ws ok).counts_high p l) e;
        there = λ e. same ∙ above_some mask byte (action_count ws p) e;
      }
