-- The lowest policy and the one after a policy, by what is filled in.
-- Assumes nothing.
use mathlib.Core.Path.{◌≡◌, sym, ap, ap₂, ◌∙◌, subst}
use mathlib.Core.Bool.{Bool, true, false, cond}
use mathlib.Core.Logic.{inl, inr}
use mathlib.Core.List.{List, [], ◌∷◌, ◌++◌}
use mathlib.Core.Option.{none, some}
use Prim.Native.Nat.{ℕ, ◌+◌, ◌-◌}
use native.Mathlib.Nat.{sub-zero}
use native.Mathlib.Numerals.{add-one}
use native.Mathlib.Omega.{arith}
use lib.Dec.{T, ltb}
use lib.ListN.{length, get_or, set, take}
use lib.Seq.{append_snoc, take-set-le}
use Rattle.model.specs.Model.{Words, state_count, action}
use Rattle.model.specs.Questions.{book_number}
use Rattle.model.specs.Policy.{Policy, is_policy, policies, has_policy, onward}
use Rattle.model.specs.Recursion.{feasible}
use Rattle.laws.specs.Members.{In}
use Rattle.laws.specs.Policies.{reached_from}
use Rattle.accepted.specs.Options.{Feasible}
use Rattle.accepted.specs.Demands.{policies_are}
use Rattle.sets.specs.Sets.{SetOf}
use Rattle.next_policy.specs.Linked.{head_or}
use Rattle.next_policy.specs.Next.{first_above, lowest_from}
use Rattle.next_policy.specs.Books.{lowest_policy, next_policy}
use Rattle.next_policy.proofs.Books.{lowest_is, next-after, next-bytes}
use Rattle.enumerate.specs.declared.Raise.{Raise}
use Rattle.enumerate.specs.Steps.{Last, reached_before, ReachTo, filled_from, Filled, Stands, IsFirst}
use Rattle.enumerate.proofs.Filling.{reached_is, front}

-- ---- the lowest

head_in : {A : Type 0} (xs : List A) (x : A) → head_or none xs ≡ some x → In x xs
head_in [] x e = let z : ◌≡◌ {A = ℕ} 0 1 = cc in absurd (omega arith)
head_in (y ∷ ys) x e = inl (cc)

module _ (ws : Words) (ok : book_number ws ≡ 0) (has : has_policy ws ≡ true) where
  pub lowest-policy : T (is_policy ws (lowest_policy ws))
  lowest-policy = (policies_are ws ok (lowest_policy ws)).0 (head_in (policies ws) (lowest_policy ws) (lowest_is ws ok has))

  pub first-is : (bs cs : Policy) (reach reach' : List ℕ) → Filled ws 0 bs cs reach reach' → IsFirst ws cs reach'
  unfolding lowest_policy
  first-is bs cs reach reach' f = record {
    lowest = is;
    stands = record {
      is = subst (λ (ds : Policy). T (is_policy ws ds)) (sym is) lowest-policy;
      long = f.long;
      sets = f.sets (λ p l. absurd (omega arith));
    };
  }
    where
      is : cs ≡ lowest_from (action ws) (feasible ws) (state_count ws) 0 (0 ∷ [])
      is = f.bytes ∙ rw sub-zero

-- ---- the next

above_in : (b : ℕ) (xs : List ℕ) (c : ℕ) → first_above b xs ≡ some c → In c xs
above_in b [] c e = let z : ◌≡◌ {A = ℕ} 0 1 = cc in absurd (omega arith)
above_in b (x ∷ xs) c e = go (ltb b x) e (above_in b xs c)
  where
    go : (t : Bool) → cond t (some x) (first_above b xs) ≡ some c → (first_above b xs ≡ some c → In c xs) → In c (x ∷ xs)
    go true q ih = inl (cc)
    go false q ih = inr (ih q)

module _ (ws : Words) (ok : book_number ws ≡ 0) (bs : Policy) (long : length bs ≡ state_count ws) (t : T (is_policy ws bs)) (r : Raise) (last : Last ws bs r) where
  abbrev p : ℕ
  p = r.state

  abbrev c : ℕ
  c = r.action

  abbrev cs : Policy
  cs = set bs p c

  pub raise_acts : Feasible ws p c
  raise_acts = above_in _ (feasible ws p) c last.higher

  -- the states before p + 1 have the sets that they had
  pub sets_same : (reach : List ℕ) → ReachTo ws bs (state_count ws) reach → ReachTo ws cs (p + 1) reach
  sets_same reach h q l =
      subst (SetOf (get_or reach q 0)) (ap (reached_from (action ws) 0 (0 ∷ [])) (sym (take-set-le q bs p c (omega arith))))
      (h q (omega (arith, last.inside)))

  -- what is filled in after the higher action is the next policy
  next_is : (known : ℕ) → SetOf known (reached_before ws bs p) → (ds : Policy) → ds ≡ filled_from ws cs (p + 1) → next_policy ws bs ≡ some ds
  next_is known reached ds e =
      next-bytes ws ok bs t p c last.inside last.higher last.after
      ∙ ap some (sym (e
      ∙ ap₂ (λ (xs : Policy) (qs : List ℕ). xs ++ lowest_from (action ws) (feasible ws) (state_count ws - (p + 1)) (p + 1) qs)
      (front ws bs long p last.inside known c reached) (reached_is ws bs long p last.inside known c reached)
      ∙ append_snoc (take p bs) c (rest (p + 1))
      ∙ ap (λ (n : ℕ). take p bs ++ (c ∷ lowest_from (action ws) (feasible ws) (state_count ws - n) n after)) (add-one p)))
    where
      after : List ℕ
      after = onward (action ws) p c (reached_before ws bs p)

      rest : ℕ → Policy
      rest n = lowest_from (action ws) (feasible ws) (state_count ws - (p + 1)) n after

  -- with the sets of the states that it reaches
  pub next_stands : (reach reach' : List ℕ) → ReachTo ws bs (state_count ws) reach → (ds : Policy) → Filled ws (p + 1) cs ds reach reach'
      → (next_policy ws bs ≡ some ds) × Stands ws ds reach'
  next_stands reach reach' h ds f =
      let n = next_is (get_or reach p 0) (h p last.inside) ds f.bytes in (
        n,
        record { is = (next-after ws ok bs t ds n).0; long = f.long; sets = f.sets (sets_same reach h) },
      )
