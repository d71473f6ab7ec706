-- The three tests are the definition's own.
-- Assumes nothing.
use mathlib.Core.Path.{◌≡◌, sym, ap, ◌∙◌}
use Prim.Native.Nat.{ℕ}
use native.Mathlib.Omega.{arith}
use Rattle.model.specs.Lists.{all}
use Rattle.model.specs.Model.{horizon}
use Rattle.model.specs.Questions.{later_size, sizes_allowed}
use Rattle.header.proofs.sizes_allowed.Goals as goal
use Rattle.header.proofs.sizes_allowed.Goals.{After-words_in}

pub returns-then-not-word_in : goal.returns-then-not-word_in
unfolding sizes_allowed
returns-then-not-word_in c = rw (sym c.word_in.ensures ∙ c.if-not-word_in.true)

-- the states of each stage from stage 1 on
later : (c : goal.After-words_in) →
    let ws = c.args.b.now in c.words_in.result ≡ all (horizon ws) (later_size ws)
later c =
    let s = c in
    c.words_in.ensures ∙ ap (λ (h : ℕ). all h (later_size s.args.b.now)) s.requires.1.h_is

pub returns-then-not-words_in : goal.returns-then-not-words_in
unfolding sizes_allowed
returns-then-not-words_in c =
    rw (
      sym c.word_in.ensures ∙ c.if-not-word_in.false,
      sym (later (goal.at.returns-then-not-words_in c).After-words_in) ∙ c.if-not-words_in.true,
    )

pub returns : goal.returns
unfolding sizes_allowed
returns c =
    let d = c in
    let f = d in
    rw (
      sym f.word_in.ensures ∙ f.if-not-word_in.false,
      sym (later (goal.at.returns d).After-words_in) ∙ c.if-not-words_in.false,
      f.requires.1.s_is,
    )
