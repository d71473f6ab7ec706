-- Each early return is the first question that is answered no: those before it were passed on the way.
-- Assumes nothing.
use mathlib.Core.Path.{◌≡◌, sym, ◌∙◌}
use Prim.Native.Nat.{ℕ, ◌+◌, ◌≤◌}
use mathlib.Core.Bool.{true}
use native.Mathlib.Omega.{arith}
use borrow.Author.Tests.{le-leb, lt-leb}
use lib.IntN.{pos, nat_abs}
use lib.ListN.{length, drop}
use Rattle.model.specs.Model.{Words, word, horizon, line_count}
use Rattle.model.specs.Questions.{inside, sizes_allowed, first_no, size_questions}
use Rattle.questions.specs.Ranges.{inside_range}
use Rattle.questions.specs.FirstNo.{fails, passes, none}
use Rattle.questions.specs.Sizes.{sizes_say}
use Rattle.book.specs.Read.{Headed}
use Rattle.header.proofs.size_number.Goals as goal

-- the first k questions are answered yes
abbrev Past : ℕ → Words → Type 0
Past k ws = first_no size_questions ws ≡ first_no (drop k size_questions) ws

module _ (ws : Words) (long : 3 ≤ length ws) where
  past1 : Past 1 ws
  past1 = passes _ _ _ (le-leb _ _ long)

  module _ (scale_yes : inside (pos 1) (pos 100) (word ws 0) ≡ true) where
    past2 : Past 2 ws
    past2 = past1 ∙ passes _ _ _ scale_yes

    module _ (horizon_yes : inside (pos 1) (pos 8) (word ws 1) ≡ true) where
      past3 : Past 3 ws
      past3 = past2 ∙ passes _ _ _ horizon_yes

      module _ (lines_yes : inside (pos 1) (pos 2048) (word ws 2) ≡ true) where
        past4 : Past 4 ws
        past4 = past3 ∙ passes _ _ _ lines_yes

        module _ (counts_there : 4 + horizon ws ≤ length ws) where
          past5 : Past 5 ws
          past5 = past4 ∙ passes _ _ _ (le-leb _ _ counts_there)

          past6 : sizes_allowed ws ≡ true → Past 6 ws
          past6 e = past5 ∙ passes _ _ _ e

there : (ws : Words) (h : ℕ) → h ≡ nat_abs (word ws 1) → 4 + h ≤ length ws → 4 + horizon ws ≤ length ws
unfolding horizon
there ws h e l = rw e at l

headed : (ws : Words) → inside (pos 1) (pos 8) (word ws 1) ≡ true → 4 + horizon ws ≤ length ws → Headed ws
unfolding horizon
headed ws e l = let r = inside_range 1 8 (word ws 1) e in record { h_high = r.1; long = l }

pub returns-then-b-lt3 : goal.returns-then-b-lt3
returns-then-b-lt3 c = sym (fails _ _ _ (lt-leb _ _ c.if-b-lt3.true))

pub returns-then-not-word_in : goal.returns-then-not-word_in
returns-then-not-word_in c = sym (past1 _ c.if-b-lt3.false ∙ fails _ _ _ (sym c.word_in.ensures ∙ c.if-not-word_in.true))

pub returns-then-not-word_in-2 : goal.returns-then-not-word_in-2
returns-then-not-word_in-2 c =
    sym (past2 _ c.if-b-lt3.false (sym c.word_in.ensures ∙ c.if-not-word_in.false) ∙ fails _ _ _ (sym c.word_in-2.ensures ∙ c.if-not-word_in-2.true))

pub returns-then-not-word_in-3 : goal.returns-then-not-word_in-3
returns-then-not-word_in-3 c =
    sym (past3 _ c.if-b-lt3.false (sym c.word_in.ensures ∙ c.if-not-word_in.false) (sym c.word_in-2.ensures ∙ c.if-not-word_in-2.false) ∙ fails _ _ _ (sym c.word_in-3.ensures ∙ c.if-not-word_in-3.true))

pub returns-then-b-h : goal.returns-then-b-h
unfolding horizon
returns-then-b-h c =
    sym (past4 _ c.if-b-lt3.false (sym c.word_in.ensures ∙ c.if-not-word_in.false) (sym c.word_in-2.ensures ∙ c.if-not-word_in-2.false) (sym c.word_in-3.ensures ∙ c.if-not-word_in-3.false) ∙ fails _ _ _ (lt-leb _ _ (rw c.size_at-h.ensures.is at c.if-b-h.true)))

pub read_sizes-z-requires : goal.read_sizes-z-requires
read_sizes-z-requires c = headed _ (sym c.word_in-2.ensures ∙ c.if-not-word_in-2.false) (there _ _ c.size_at-h.ensures.is c.if-b-h.false)

pub sizes_allowed-requires : goal.sizes_allowed-requires
sizes_allowed-requires c = (headed _ (sym c.word_in-2.ensures ∙ c.if-not-word_in-2.false) (there _ _ c.size_at-h.ensures.is c.if-b-h.false), c.read_sizes-z.ensures)

pub returns-then-not-sizes_allowed : goal.returns-then-not-sizes_allowed
returns-then-not-sizes_allowed c =
    sym (past5 _ c.if-b-lt3.false (sym c.word_in.ensures ∙ c.if-not-word_in.false) (sym c.word_in-2.ensures ∙ c.if-not-word_in-2.false) (sym c.word_in-3.ensures ∙ c.if-not-word_in-3.false) (there _ _ c.size_at-h.ensures.is c.if-b-h.false) ∙ fails _ _ _ (sym c.sizes_allowed.ensures ∙ c.if-not-sizes_allowed.true))

pub length_allowed-requires : goal.length_allowed-requires
unfolding line_count
length_allowed-requires c =
    let z = c.read_sizes-z.ensures in
    let s = sizes_say _ (sym c.sizes_allowed.ensures ∙ c.if-not-sizes_allowed.false) in
    let l = inside_range 1 2048 (word c.args.b.now 2) (sym c.word_in-3.ensures ∙ c.if-not-word_in-3.false) in
    (headed _ (sym c.word_in-2.ensures ∙ c.if-not-word_in-2.false) (there _ _ c.size_at-h.ensures.is c.if-b-h.false), z, omega (arith, z.s_is, s.2), omega (arith, z.l_is, l.1))

pub returns-then-not-length_allowed : goal.returns-then-not-length_allowed
returns-then-not-length_allowed c =
    sym (past6 _ c.if-b-lt3.false (sym c.word_in.ensures ∙ c.if-not-word_in.false) (sym c.word_in-2.ensures ∙ c.if-not-word_in-2.false) (sym c.word_in-3.ensures ∙ c.if-not-word_in-3.false) (there _ _ c.size_at-h.ensures.is c.if-b-h.false) (sym c.sizes_allowed.ensures ∙ c.if-not-sizes_allowed.false) ∙ fails _ _ _ (sym c.length_allowed.ensures ∙ c.if-not-length_allowed.true))

pub returns : goal.returns
returns c =
    sym (past6 _ c.if-b-lt3.false (sym c.word_in.ensures ∙ c.if-not-word_in.false) (sym c.word_in-2.ensures ∙ c.if-not-word_in-2.false) (sym c.word_in-3.ensures ∙ c.if-not-word_in-3.false) (there _ _ c.size_at-h.ensures.is c.if-b-h.false) (sym c.sizes_allowed.ensures ∙ c.if-not-sizes_allowed.false) ∙ passes _ _ _ (sym c.length_allowed.ensures ∙ c.if-not-length_allowed.false) ∙ none _)
