-- The word that the action begins at holds r.
-- Assumes nothing.
use mathlib.Core.Path.{sym, ◌∙◌}
use native.Mathlib.Omega.{arith}
use Rattle.lines.proofs.Words.{transitions_long}
use Rattle.lines.proofs.Places.{room, first-up, r_is}
use Rattle.lines.proofs.at_word.Goals as goal

pub plain_at-requires : goal.plain_at-requires
plain_at-requires c = (omega (arith, room c.requires.0 c.requires.1), first-up c.requires.0 c.requires.1)

pub returns : goal.returns
returns c =
    let s = c in
    let k = s.requires.0 in
    let h = s.requires.1 in
    record {
      ok = k.ok;
      state = h.state;
      has = h.has;
      at-is = h.is;
      r_is =
          r_is k h c.plain_at.result c.plain_at.ensures.is
          ∙ sym (transitions_long s.args.b.now s.args.p s.args.c h.state h.has);
      l_is = k.sizes.l_is;
      base_is = s.requires.2;
    }
