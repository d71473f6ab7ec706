-- Each test of the chain is the definition's.
-- Assumes nothing.
use mathlib.Core.Path.{refl}
use Prim.Native.Nat.{◌+◌, ◌≤◌}
use native.Mathlib.Omega.{arith}
use Rattle.std.proofs.lemmas.Bool.Decides.{nat_tests}
use Rattle.reward_table.specs.Table.{some_branch, lines_fit, reward_inside}
use Rattle.reward_table.specs.Read.{entry_given}
use Rattle.reward_table.specs.Says.{after_is}
use Rattle.reward_table.proofs.Facts.{above_one, left_at, right_at, branches_at, weights_as}
use Rattle.reward_table.proofs.entry_given.Goals as goal

pub returns-then-l-j : goal.returns-then-l-j
unfolding entry_given some_branch lines_fit reward_inside
returns-then-l-j c =
    let a = after_is c.args.t.now c.args.j in
    grind (arith, nat_tests)

pub returns-then-not-word_above : goal.returns-then-not-word_above
unfolding entry_given some_branch lines_fit reward_inside
returns-then-not-word_above c =
    let l = left_at c.args.t.now c.args.z c.requires.1 c.args.j _ refl in
    grind (arith, nat_tests, above_one)

pub returns-then-word_in : goal.returns-then-word_in
unfolding entry_given some_branch lines_fit reward_inside
returns-then-word_in c =
    let t = c.args.t.now in
    let z = c.args.z in
    let j = c.args.j in
    let are = c.requires.1 in
    let l = left_at t z are j _ refl in
    let r = right_at t z are j (z.columns + j + z.l) (omega arith) in
    let b = branches_at t z are j _ c.size_at-r.ensures.is in
    let a = after_is t j in
    let fits : j + 1 + c.size_at-r.result ≤ z.l = grind arith in
    let w = weights_as t z are (omega (arith, are.d_is, c.requires.0.d_high)) j (z.columns + j + z.l + 1) _ refl b (omega (arith, fits, c.requires.0.exact, are.columns_is, are.l_is)) _ (record { sfits = c.weigh.type_inv }) c.weigh.ensures in
    grind (arith, nat_tests, above_one)

pub returns-else-word_in : goal.returns-else-word_in
unfolding entry_given some_branch lines_fit reward_inside
returns-else-word_in c =
    let t = c.args.t.now in
    let z = c.args.z in
    let j = c.args.j in
    let are = c.requires.1 in
    let l = left_at t z are j _ refl in
    let r = right_at t z are j (z.columns + j + z.l) (omega arith) in
    let b = branches_at t z are j _ c.size_at-r.ensures.is in
    let a = after_is t j in
    grind (arith, nat_tests, above_one)
