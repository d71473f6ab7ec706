-- The title and the lines of the list.
-- Assumes nothing.
use mathlib.Core.Path.{◌≡◌, ap, ap₂, ◌∙◌}
use mathlib.Core.List.{◌++◌}
use Prim.Native.Nat.{ℕ}
use native.Mathlib.Omega.{arith}
use lib.ListN.{length}
use Rattle.model.specs.Model.{Words, scale, horizon}
use Rattle.model.specs.Questions.{book_number}
use Rattle.model.specs.Order.{ranking}
use Rattle.model.specs.Calls.{power_of}
use Rattle.model.specs.Page.{title_line, list_page}
use Rattle.power.proofs.Range.{power_is}
use Rattle.accepted.specs.Facts.{accepted}
use Rattle.index.proofs.Lines.{headed}
use Rattle.text.specs.Text.{joined}
use Rattle.text.proofs.Steps.{spoken}
use Rattle.page_lines.specs.Lines.{title_text, lines_are}
use Rattle.page.proofs.put_list.Goals as goal

title_is : (ws : Words) (k n d h : ℕ) → book_number ws ≡ 0 → n ≡ length (ranking ws k) → d ≡ scale ws → h ≡ horizon ws
    → title_text n k (power_of d h) ≡ title_line ws k
unfolding title_line
title_is ws k n d h ok en ed eh =
    let z = (accepted ws ok).sizes in
    rw (en, ed, eh, power_is (scale ws) (horizon ws) z.d_low z.d_high z.h_high)

pub read_sizes-z-requires : goal.read_sizes-z-requires
read_sizes-z-requires c = headed _ c.requires.0.ok

pub put_lines-requires : goal.put_lines-requires
put_lines-requires c =
    let h = c.list-l.ensures in (
      h.held,
      omega (arith, h.states, (accepted c.args.b.now c.requires.0.ok).sizes.s_high),
      omega (arith, c.put_title-at.ensures.1, h.held.few, c.put_title-at.auto.out, c.requires.1),
    )

pub returns : goal.returns
unfolding list_page
returns c =
    let z = c.read_sizes-z.ensures in
    let h = c.list-l.ensures in
    let ok = c.requires.0.ok in
    spoken
    (ap₂ ◌++◌
    (ap (title_text c.list-l.result.n c.args.k) c.power.ensures ∙ title_is c.args.b.now c.args.k _ _ _ ok h.count z.d_is z.h_is)
    (lines_are c.args.b.now ok c.args.k _ h))
    (joined c.put_title-at.ensures.0 c.put_lines.ensures)
