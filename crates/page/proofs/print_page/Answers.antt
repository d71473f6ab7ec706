-- What is asked of the words that were read is asked of the input.
-- Assumes nothing.
use mathlib.Core.Path.{sym, ap₂, ◌∙◌}
use Rattle.model.specs.Page.{list_page, page}
use Rattle.asked.specs.Asked.{asked_says}
use Rattle.page_lines.specs.Put.{put_same}
use Rattle.page.proofs.print_page.Goals as goal

pub put_page-requires : goal.put_page-requires
put_page-requires c z = asked_says _ _ (sym c.asked_number-asked.ensures ∙ (sym c.number.ensures ∙ z))

pub returns : goal.returns
unfolding page
returns c =
    let h = c.read-q.ensures in
    put_same (c.number.ensures ∙ c.asked_number-asked.ensures ∙ h.number) (λ z. ap₂ list_page (h.words z) (h.count z)) c.put_page.ensures
