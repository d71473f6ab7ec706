-- Nothing, the refusal, or the list.
-- Assumes nothing.
use mathlib.Core.Path.{refl}
use native.Mathlib.Omega.{arith}
use Rattle.model.specs.Page.{most_page}
use Rattle.page_lines.specs.Put.{too_short, put_refused, put_text}
use Rattle.page.proofs.put_page.Goals as goal

pub returns-then-out-lt-MOST_PAGE : goal.returns-then-out-lt-MOST_PAGE
returns-then-out-lt-MOST_PAGE c = too_short most_page _ _ c.if-out-lt-MOST_PAGE.true

pub returns-then-no-ne0 : goal.returns-then-no-ne0
returns-then-no-ne0 c = put_refused _ (omega arith) _ refl c.if-no-ne0.true c.put_refused.ensures

pub put_list-requires : goal.put_list-requires
put_list-requires c = (c.requires c.if-no-ne0.false, omega arith)

pub returns : goal.returns
returns c = put_text _ (omega arith) c.if-no-ne0.false c.put_list.ensures
