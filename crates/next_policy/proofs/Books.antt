-- The policies of an accepted book in the order of their bytes: the enumeration is in that order, and going from the lowest policy to the next and the
-- next goes through it.
-- Assumes nothing.
use Rattle.std.specs.Prelude.{◌≡◌, true, ◌⊎◌, [], ◌∷◌, ◌++◌, T}
use Rattle.std.proofs.Common.{sym, ◌∙◌, subst, arith, length-drop, get_or-drop}
use Rattle.std.proofs.Math.Path.{ap}
use Rattle.std.proofs.Math.Option.{none, some}
use Prim.Native.Nat.{ℕ, suc, ◌+◌, ◌-◌, ◌<◌}
use Rattle.std.proofs.Math.Nat.{zero-add}
use Rattle.std.proofs.Math.ListN.{length, get_elem?, take, drop}
use Rattle.std.proofs.Math.Seq.{split_at, length-take-le}
use Rattle.model.specs.Model.{Words, state_count, action}
use Rattle.model.specs.Questions.{book_number}
use Rattle.model.specs.Policy.{Policy, onward, is_policy, policies, has_policy}
use Rattle.model.specs.Path.{byte_at}
use Rattle.model.specs.Recursion.{feasible}
use Rattle.model.specs.Order.{lower}
use Rattle.laws.specs.Members.{In, in_one}
use Rattle.laws.specs.Policies.{IsPolicy, reached_from}
use Rattle.laws.specs.Ascent.{bytes_strict}
use Rattle.accepted.specs.Options.{Alive, feasible_small}
use Rattle.accepted.specs.Shape.{shape, lists, has_alive, policies-feasible, policy-feasible}
use Rattle.accepted.specs.Demands.{policies_are, policies_ascend, some_policy, policy-bytes}
use Rattle.next_policy.specs.Linked.{head_or, Linked, following, following_is, entry_after, next_follows, none_follows}
use Rattle.next_policy.specs.Next.{lowest_from, next_from}
use Rattle.next_policy.proofs.Next.{lowest-first, policies_linked}
use Rattle.next_policy.proofs.Raise.{none_from, next-end, next_split}
use Rattle.next_policy.specs.Books.{lowest_policy, next_policy, higher_at}

module _ (ws : Words) (ok : book_number ws ≡ 0) (has : has_policy ws ≡ true) where
  start_alive : (q : ℕ) → In q (0 ∷ []) → Alive ws q
  start_alive q i = subst (Alive ws) (sym (in_one i)) (has_alive ws ok has)

  linked : Linked (next_policy ws) none (policies ws)
  unfolding next_policy
  linked =
      rw (policies-feasible ws ok)
      (policies_linked (action ws) (Alive ws) (feasible ws) (lists ws ok (has_alive ws ok has)) (shape ws ok).bare (state_count ws) 0 (0 ∷ []) start_alive)

  -- the first of them is the lowest
  pub lowest_is : head_or none (policies ws) ≡ some (lowest_policy ws)
  unfolding lowest_policy
  lowest_is =
      rw (policies-feasible ws ok)
      (lowest-first (action ws) (Alive ws) (feasible ws) (lists ws ok (has_alive ws ok has)) (shape ws ok).bare (state_count ws) 0 (0 ∷ []) start_alive)

  -- after policy i comes policy i + 1, and none after the last
  pub next_is : (i : ℕ) (bs : Policy) → get_elem? (policies ws) i ≡ some bs → next_policy ws bs ≡ get_elem? (policies ws) (suc i)
  next_is = entry_after (next_policy ws) (policies ws) linked

  -- the first k policies, each from the one before it
  pub go_through : (k : ℕ) → following (next_policy ws) k (some (lowest_policy ws)) ≡ take k (policies ws)
  go_through k = ap (following (next_policy ws) k) (sym lowest_is) ∙ following_is (next_policy ws) (policies ws) linked k

-- the same without the enumeration
module _ (ws : Words) (ok : book_number ws ≡ 0) (bs : Policy) (t : T (is_policy ws bs)) where
  has : has_policy ws ≡ true
  has = (some_policy ws ok).1 (bs, t)

  -- the next policy is a policy, its bytes are higher, and no policy is between the two
  pub next-after : (cs : Policy) → next_policy ws bs ≡ some cs
      → T (is_policy ws cs) × T (lower bs cs) × ((ds : Policy) → T (is_policy ws ds) → T (lower bs ds) → (ds ≡ cs) ⊎ T (lower cs ds))
  next-after cs e =
      let f = next_follows lower bytes_strict (next_policy ws) (policies ws) (policies_ascend ws ok) (linked ws ok has) bs cs ((policies_are ws ok bs).1 t) e in
      ((policies_are ws ok cs).0 f.in_list, f.after, λ ds u h. f.none_between ds ((policies_are ws ok ds).1 u) h)

  -- and where there is none, no policy has higher bytes
  pub next-none : next_policy ws bs ≡ none → (ds : Policy) → T (is_policy ws ds) → T (lower bs ds) → ⊥
  next-none e ds u h =
      none_follows lower bytes_strict (next_policy ws) (policies ws) (policies_ascend ws ok) (linked ws ok has) bs ((policies_are ws ok bs).1 t) e ds
      ((policies_are ws ok ds).1 u) h

  -- ---- its bytes

  long : length bs ≡ state_count ws
  long = ((policy-bytes ws ok bs).0 t).long

  is : IsPolicy (action ws) (feasible ws) (state_count ws) 0 (0 ∷ []) bs
  is = (policy-feasible ws ok bs).0 t

  -- no state has one: this is the last policy
  pub next_last : ((q : ℕ) → q < state_count ws → higher_at ws bs q ≡ none) → next_policy ws bs ≡ none
  unfolding next_policy
  next_last h =
      next-end (action ws) (feasible ws) (state_count ws) (λ p c l i. omega (arith, feasible_small ws ok p l i)) (state_count ws) 0 (0 ∷ []) bs
      (omega arith) is (none_from (action ws) (feasible ws) 0 bs (λ q l. rw zero-add (h q (omega (arith, long)))))

  -- r is the last state that has one, c: the bytes before r, c, and the lowest feasible actions at the states reached after it
  pub next-bytes : (r c : ℕ) → r < state_count ws → higher_at ws bs r ≡ some c
      → ((q : ℕ) → r < q → q < state_count ws → higher_at ws bs q ≡ none)
      → next_policy ws bs
      ≡ some (take r bs ++ c ∷ lowest_from (action ws) (feasible ws) (state_count ws - suc r) (suc r)
      (onward (action ws) r c (reached_from (action ws) 0 (0 ∷ []) (take r bs))))
  unfolding next_policy
  next-bytes r c l f h =
      ap (next_from (action ws) (feasible ws) (state_count ws) 0 (0 ∷ [])) parts
      ∙ next_split (action ws) (feasible ws) (state_count ws) (λ p d k i. omega (arith, feasible_small ws ok p k i)) (take r bs) (state_count ws) 0 r
      (0 ∷ []) (byte_at bs r) c (drop (suc r) bs) (omega (arith, length-take-le r bs (omega (arith, long)))) (omega arith)
      (subst (IsPolicy (action ws) (feasible ws) (state_count ws) 0 (0 ∷ [])) parts is) f
      (none_from (action ws) (feasible ws) (suc r) (drop (suc r) bs) (λ i k. rw (get_or-drop (suc r) bs i 255)
      (h (suc r + i) (omega arith) (omega (arith, rest, long)))))
      ∙ ap (λ (m : ℕ). some (take r bs ++ c ∷ lowest_from (action ws) (feasible ws) m (suc r)
      (onward (action ws) r c (reached_from (action ws) 0 (0 ∷ []) (take r bs)))))
      (let e : length (drop (suc r) bs) ≡ state_count ws - suc r = omega (arith, rest, long) in e)
    where
      parts : bs ≡ take r bs ++ byte_at bs r ∷ drop (suc r) bs
      parts = split_at bs r 255 (omega (arith, long))

      rest : length (drop (suc r) bs) ≡ length bs - suc r
      rest = length-drop (suc r) bs
