-- Each test is a part of the definition, as `lines_are` has it.
-- Assumes nothing.
use mathlib.Core.Path.{◌≡◌, ap, ◌∙◌}
use native.Mathlib.Omega.{arith}
use Rattle.std.proofs.lemmas.Bool.Decides.{nat_tests}
use Rattle.reward_table.specs.Table.{table_states, table_state_line, all_used, closing_line, count_given}
use Rattle.reward_table.specs.Says.{lines_are}
use Rattle.reward_table.proofs.Facts.{bare_are, rewards_are}
use Rattle.reward_table.proofs.lines_given.Goals as goal

pub returns-then-not-words_in : goal.returns-then-not-words_in
unfolding count_given
returns-then-not-words_in c =
    let e = lines_are c.args.t.now in
    let n = c.requires.1.n_is in
    grind (arith, nat_tests)

pub returns-in_default : goal.returns-in_default
unfolding count_given
returns-in_default c =
    let e = lines_are c.args.t.now in
    let n = c.requires.1.n_is in
    let s = (c.in_default.ensures).ok_is in
    grind (arith, nat_tests)

pub returns-then-words_in : goal.returns-then-words_in
unfolding count_given all_used closing_line
returns-then-words_in c =
    let t = c.args.t.now in
    let e = lines_are t in
    let n = c.requires.1.n_is in
    let s = (c.in-Some.ensures).ok_is in
    let at : c.in-Some.at ≡ table_state_line t (table_states t) = (c.in-Some.ensures).at-is ∙ ap (table_state_line t) n in
    let b = bare_are t c.args.z c.requires.1 _ at in
    let r = rewards_are t c.args.z c.requires.1 _ at in
    grind (arith, nat_tests)

pub returns-else-words_in : goal.returns-else-words_in
unfolding count_given all_used closing_line
returns-else-words_in c =
    let t = c.args.t.now in
    let e = lines_are t in
    let n = c.requires.1.n_is in
    let s = (c.in-Some.ensures).ok_is in
    let at : c.in-Some.at ≡ table_state_line t (table_states t) = (c.in-Some.ensures).at-is ∙ ap (table_state_line t) n in
    let b = bare_are t c.args.z c.requires.1 _ at in
    grind (arith, nat_tests)
