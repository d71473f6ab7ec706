-- Assumes nothing.
use mathlib.Core.Path.{◌≡◌, sym, ap, ◌∙◌}
use mathlib.Core.List.{◌∷◌}
use Prim.Native.Nat.{◌+◌, ◌*◌, ◌-◌}
use native.Mathlib.Omega.{arith}
use lib.ListN.{drop}
use mir.Facts.{to_z-of_z}
use mir.Syntax.{w32}
use mir.Val.{SFits}
use Rattle.std.proofs.Common.{rules}
use Rattle.model.specs.Bytes.{words_of}
use Rattle.bytes_io.proofs.Parts.{fill_one, fill_end, written-front}
use Rattle.bytes_io.proofs.Numbers.{words_step, length-words}
use Rattle.bytes_io.proofs.read_words.Goals as goal

pub loop-i-preserved : goal.loop-i-preserved
loop-i-preserved c =
    let l = c.loop-i in
    let s = c.args in
    let q = s.at + 4 * (l.i + 1) in
    let rest = words_of (s.n - (l.i + 1)) (drop q s.r.now) in
    let word = c.read_word.result in
    let f : SFits w32 word = search rules in
    rw (to_z-of_z f)
    (fill_one _ _ _ _ (omega arith) l.invariant word rest (omega arith) (omega arith)
    (words_step s.r.now l.i s.n (s.at + 4 * l.i) q (omega arith) (omega arith) ∙ ap (λ z. z ∷ rest) (sym c.read_word.ensures)))

pub returns : goal.returns
returns c =
    let l = c.loop-i in
    let s = c.args in
    let words = words_of s.n (drop s.at s.r.now) in
    let z : s.n - l.i ≡ 0 = omega arith in
    (fill_end _ _ _ _ (omega arith) l.invariant (omega arith) (rw z) ∙ written-front s.out.now s.n words (length-words s.n _), l.invariant.long)
