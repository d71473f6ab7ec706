-- The place lies in the bytes.
-- Assumes nothing.
use mathlib.Core.Path.{ap}
use Prim.Native.Nat.{◌+◌, ◌≤◌}
use native.Mathlib.Nat.{add-sub_cancel_left}
use native.Mathlib.Omega.{arith}
use lib.ListN.{length, take, drop}
use Rattle.place.specs.declared.Place.{Place}
use Rattle.place.specs.Place.{browsed, place_in}
use Rattle.place.proofs.part.Goals as goal

pub overflow_add-to : goal.overflow_add-to
overflow_add-to c =
    let a = c.args in
    let inside : c.locate-p.result.from + c.locate-p.result.size ≤ length a.r.now = rw c.locate-p.ensures (place_in a.r.now a.s a.k a.j) in
    omega arith

pub slice_bounds-result-end : goal.slice_bounds-result-end
slice_bounds-result-end c = let a = c.args in rw c.locate-p.ensures (place_in a.r.now a.s a.k a.j)

pub returns : goal.returns
unfolding browsed
returns c =
    let d = c in
    let r = d.args.r.now in
    rw (add-sub_cancel_left d.locate-p.result.from d.locate-p.result.size)
    (ap (λ (p : Place). take p.size (drop p.from r)) d.locate-p.ensures)
