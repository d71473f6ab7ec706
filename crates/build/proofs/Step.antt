-- One state of the pass: its action and the next states of that where it is reached, else no action.
-- Assumes nothing.
use mathlib.Core.Path.{◌≡◌, sym, ◌∙◌, subst}
use mathlib.Core.Bool.{true, false}
use mathlib.Core.List.{List}
use Prim.Native.Nat.{ℕ, ◌+◌, ◌*◌, ◌≤◌, ◌<◌}
use lib.ListN.{get_or, set as put}
use Rattle.model.specs.Model.{Words, state_count, action}
use Rattle.model.specs.Questions.{book_number}
use Rattle.model.specs.Policy.{Policy}
use Rattle.laws.specs.Members.{true-T, is_in_in}
use Rattle.accepted.specs.Options.{Feasible, feasible_small}
use Rattle.sets.specs.Sets.{has, union}
use Rattle.nexts.specs.Nexts.{NextsOf}
use Rattle.build.specs.Walk.{chosen, Stepped}
use Rattle.build.proofs.Split.{chosen-feasible}
use Rattle.build.proofs.Pass.{Pass, pass_more, step_outside, step_on}

module _ (ws : Words) (ok : book_number ws ≡ 0) (bs : Policy) (r c : ℕ) (o : Feasible ws r c) (s set : ℕ) (out : Policy) (from : r ≤ s)
    (l : s < state_count ws) (h : Pass ws (chosen ws bs r c) s set out) where
  -- a policy goes on from a state that is reached
  goes : has set s ≡ true → Feasible ws s (chosen ws bs r c s)
  goes e = chosen-feasible ws bs r c s from (h.alive s (is_in_in s h.reach (true-T (sym (h.set_is.at s) ∙ e)))) o

  module _ (e : has set s ≡ true) (a : ℕ) (is : a ≡ chosen ws bs r c s) where
    own : Feasible ws s a
    own = subst (Feasible ws s) (sym is) (goes e)

    pub own_small : a < 8
    own_small = feasible_small ws ok s l own

    pub pass_on : (nx : List ℕ) → NextsOf ws nx → (after : ℕ) → after ≡ union (get_or nx (8 * s + a) 0) set
        → Pass ws (chosen ws bs r c) (s + 1) after (put out s a)
    pass_on nx n after f =
        pass_more ws (chosen ws bs r c) s set out h ok l goes a after
        (subst (λ (d : ℕ). Stepped (action ws) s d a set after) is
        (subst (Stepped (action ws) s a a set) (sym f) (step_on ws ok s set a (get_or nx (8 * s + a) 0) e (n.at s a l own))))

  pub pass_off : has set s ≡ false → Pass ws (chosen ws bs r c) (s + 1) set (put out s 255)
  pass_off e = pass_more ws (chosen ws bs r c) s set out h ok l goes 255 set (step_outside ws ok s set (chosen ws bs r c s) e)
