-- Each size is the word of its place; the number of states is what the length leaves for it.
-- Assumes nothing.
use mathlib.Core.Path.{◌≡◌}
use Prim.Native.Nat.{◌+◌, ◌*◌}
use native.Mathlib.Omega.{arith}
use lib.ListN.{length}
use Rattle.model.specs.Model.{Words, scale, horizon, line_count, state_count}
use Rattle.model.specs.Questions.{book_number}
use Rattle.accepted.specs.Facts.{accepted}
use Rattle.lines.proofs.sizes.Goals as goal

long : (ws : Words) → book_number ws ≡ 0 → length ws ≡ 4 + horizon ws + state_count ws + 2 * line_count ws
long ws ok = (accepted ws ok).sizes.exact

pub size_at-h-requires : goal.size_at-h-requires
size_at-h-requires c = omega (arith, long c.args.b.now c.requires)

pub size_at-l-requires : goal.size_at-l-requires
size_at-l-requires c = let s = c in omega (arith, long s.args.b.now s.requires)

pub overflow_sub-columns : goal.overflow_sub-columns
unfolding line_count
overflow_sub-columns c = let s = c in omega (arith, long s.args.b.now s.requires, c.size_at-l.ensures.is)

pub size_at-requires : goal.size_at-requires
size_at-requires c = let s = c in omega (arith, long s.args.b.now s.requires)

pub overflow_sub-result : goal.overflow_sub-result
unfolding line_count
overflow_sub-result c = let s = c in omega (arith, long s.args.b.now s.requires, c.size_at-l.ensures.is)

pub overflow_sub-result-2 : goal.overflow_sub-result-2
unfolding line_count horizon
overflow_sub-result-2 c =
    let s = c in
    omega (arith, long s.args.b.now s.requires, c.size_at-l.ensures.is, c.size_at-h.ensures.is)

pub returns : goal.returns
unfolding scale horizon line_count
returns c =
    let s = c in
    let e = long s.args.b.now s.requires in
    let h = c.size_at-h.ensures.is in
    let l = c.size_at-l.ensures.is in
    record {
      ok = s.requires;
      sizes =
          record {
            d_is = c.size_at.ensures.is;
            h_is = h;
            l_is = l;
            s_is = omega (arith, e, h, l);
            columns_is = omega (arith, e, h, l);
          };
    }
