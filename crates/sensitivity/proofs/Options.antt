-- A raise of an open choice to an open one leaves the options as they are.
-- Assumes nothing.
use Rattle.std.specs.Prelude.{◌≡◌, false, not}
use Rattle.std.proofs.Math.Path.{sym, ap}
use Rattle.std.proofs.Common.{◌∙◌}
use Prim.Native.Nat.{ℕ, ◌<◌}
use Rattle.model.specs.Lists.{up_from, keep}
use Rattle.model.specs.Model.{Words, state_count, action_count}
use Rattle.model.specs.Model.{action, closed, options}
use Rattle.model.specs.Questions.{book_number}
use Rattle.laws.specs.Kept.{keep_same}
use Rattle.accepted.specs.Options.{options_are}
use Rattle.sensitivity.specs.Raise.{raised}
use Rattle.sensitivity.proofs.Same as same

module _ (ws : Words) (p c d : ℕ) where
  module _ (ok : book_number ws ≡ 0) where
    module _ (state : p < state_count ws) (own : c < action_count ws p) where
      module _ (old : closed (action ws p c).cost ≡ false) (new : closed (action (raised ws p c d) p c).cost ≡ false) where
        abbrev us : Words
        us = raised ws p c d

        actions_same : (q : ℕ) → q < state_count ws → action_count us q ≡ action_count ws q
        actions_same = same.actions_same ws p c d

        open_same : (q b : ℕ) → closed (action us q b).cost ≡ closed (action ws q b).cost
        open_same = same.open_same ws p c d ok state own old new

        pub options-same : (q : ℕ) → q < state_count ws → options (raised ws p c d) q ≡ options ws q
        options-same q l =
            options_are us q
            ∙ ap (λ (n : ℕ). keep (λ (b : ℕ). not (closed (action us q b).cost)) (up_from 0 n)) (actions_same q l)
            ∙ keep_same (λ (b : ℕ). not (closed (action us q b).cost)) (λ (b : ℕ). not (closed (action ws q b).cost)) (up_from 0 (action_count ws q))
            (λ b i. ap not (open_same q b))
            ∙ sym (options_are ws q)
