-- A policy keeps a limit exactly if no sample path of it takes more marked actions (document 01: no day of the plan), and that is so exactly if the most
-- over its paths is at most m. One pass over the states from the last to the first gives the most: at each state it is the mark of the action taken and the
-- most at the next states.
-- Assumes nothing.
use Rattle.std.specs.Prelude.{◌≡◌, ◌↔◌, ℕ, ◌+◌, ◌≤◌, T}
use Rattle.std.proofs.Math.Bool.{Bool}
use borrow.Author.Tests.{le-leb, leb-true}
use Rattle.std.proofs.Math.Dec.{leb}
use Rattle.model.specs.Model.{Words, action}
use Rattle.model.specs.Questions.{book_number}
use Rattle.model.specs.Policy.{Policy}
use Rattle.model.specs.Path.{Path, byte_at, taken, paths}
use Rattle.model.specs.Limit.{Limit, mark_of, marked_on, keeps_limit}
use Rattle.laws.specs.Members.{T_true, true-T, same_test, In, every_in, in_every}
use Rattle.laws.specs.Kept.{every_is}
use Rattle.path_sums.specs.Most.{most_next}
use Rattle.path_sums.specs.Books.{most_over, most_from}
use Rattle.path_sums.proofs.Books.{over_within, over-has, over_from, from_nexts}

module _ (ws : Words) (limit : Limit) (bs : Policy) where
  -- "none of whose days makes more than m marked choices"
  abbrev pub Keeps : Type 0
  Keeps = (x : Path) → In x (paths ws bs) → marked_on ws limit.marks bs x ≤ limit.most

  pub keeps_is : T (keeps_limit ws limit bs) ↔ Keeps
  unfolding keeps_limit
  keeps_is = (
    λ t x i. leb-true _ _ (T_true _ (every_in _ (paths ws bs) ((every_is test (paths ws bs)).0 t) x i)),
    λ h. (every_is test (paths ws bs)).1 (in_every _ (paths ws bs) (λ x i. true-T (le-leb _ _ (h x i)))),
  )
    where
      test : Path → Bool
      test x = leb (marked_on ws limit.marks bs x) limit.most

  -- the most marked actions on any path
  abbrev pub most_marked : ℕ
  most_marked = most_over ws (mark_of ws limit.marks) bs

  -- no path has more than m exactly if the most is at most m
  pub within : (most_marked ≤ limit.most) ↔ Keeps
  unfolding marked_on
  within = over_within ws (mark_of ws limit.marks) bs limit.most

  pub by_most : keeps_limit ws limit bs ≡ leb most_marked limit.most
  by_most =
      same_test _ _ (λ t. true-T (le-leb _ _ (within.1 (keeps_is.0 t)))) (λ t. keeps_is.1 (within.0 (leb-true _ _ (T_true _ t))))

  -- one path has the most
  pub one_has : book_number ws ≡ 0 → (x : Path) × In x (paths ws bs) × (marked_on ws limit.marks bs x ≡ most_marked)
  unfolding marked_on
  one_has ok = over-has ws ok (mark_of ws limit.marks) bs

  -- the most from state p on: a recursion from the last states to the first
  abbrev pub most_marked_from : ℕ → ℕ
  most_marked_from p = most_from ws (mark_of ws limit.marks) bs p

  pub from_0 : book_number ws ≡ 0 → most_marked ≡ most_marked_from 0
  from_0 ok = over_from ws ok (mark_of ws limit.marks) bs

  pub from_later : book_number ws ≡ 0 → (p : ℕ)
      → most_marked_from p ≡ mark_of ws limit.marks p (byte_at bs p) + most_next most_marked_from (action ws p (byte_at bs p)).transitions
  unfolding taken
  from_later ok p = from_nexts ws ok (mark_of ws limit.marks) bs p
