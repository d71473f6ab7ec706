-- The next policy in the order of the bytes, from a policy alone: at the last reached state where the list has a higher action, that action; before it
-- the same bytes, and after it the lowest action of each state reached. The enumeration of the policies is in this order, and `next_from` leads from each
-- policy to the one after it, where a policy goes on from each action of the lists.
-- Assumes nothing.
use Rattle.std.specs.Prelude.{◌≡◌, refl, Bool, true, false, cond, List, [], ◌∷◌, ◌++◌, map, ℕ, zero, suc, ◌<◌, ltb}
use Rattle.std.proofs.Common.{sym, ap, ◌∙◌, subst, inl, inr, ⊎_elim, arith, lt-ltb, le-ltb}
use Rattle.std.proofs.Math.Option.{Option, none, some}
use Rattle.model.specs.Lists.{is_in, for_each}
use Rattle.model.specs.Model.{Transition, Action}
use Rattle.model.specs.Policy.{Policy, nexts, allowed, onward, policies_from}
use Rattle.laws.specs.Members.{true-T, In, Every, in_one, in_++, is_in_in, Rising, below_in, at_nexts}
use Rattle.laws.specs.Ascent.{allowed_rising}
use Rattle.laws.specs.First.{Lists}
use Rattle.next_policy.specs.Linked.{head_or, Linked, linked_++}
use Rattle.next_policy.specs.Next.{first_of, first_above, behind, ahead, bytes_at, lowest_from, next_from}

-- ---- a list of numbers that rises

-- the next of each is the first above it
rising_linked : (above : ℕ → Option ℕ) (os : List ℕ) → Rising os → ((b : ℕ) → In b os → above b ≡ first_above b os) → Linked above none os
rising_linked above [] r h = tt
rising_linked above (x ∷ xs) r h = (h x (inl refl) ∙ past x ∙ first xs r.0, rising_linked above xs r.1 (λ b i. h b (inr i) ∙ skip b i))
  where
    past : (x : ℕ) → cond (ltb x x) (some x) (first_above x xs) ≡ first_above x xs
    past x = rw (le-ltb x x (omega arith))

    first : (ys : List ℕ) → Every (λ (y : ℕ). x < y) ys → first_above x ys ≡ head_or none ys
    first [] b = refl
    first (y ∷ ys) b = rw (lt-ltb x y b.0)

    skip : (b : ℕ) → In b xs → cond (ltb b x) (some x) (first_above b xs) ≡ first_above b xs
    skip b i = let l = below_in xs r.0 i in rw (le-ltb b x (omega arith))

-- ---- policies by their first byte

module _ (b : ℕ) where
  -- b before each of them
  abbrev pub begin_with : List Policy → List Policy
  begin_with xs = map (λ (bs : Policy). b ∷ bs) xs

  head_begin : (xs ys : List Policy) (low : Policy) → head_or none xs ≡ some low → head_or none (begin_with xs ++ ys) ≡ some (b ∷ low)
  head_begin [] ys low e = let z : ◌≡◌ {A = ℕ} 0 1 = cc in absurd (omega arith)
  head_begin (x ∷ xs) ys low e = let q : x ≡ low = cc in rw q

  linked_begin : (nx next : Policy → Option Policy) (end : Option Policy) (xs : List Policy)
      → ((bs : Policy) → next (b ∷ bs) ≡ behind b (nx bs) end) → Linked nx none xs → Linked next end (begin_with xs)
  linked_begin nx next end [] h l = tt
  linked_begin nx next end (x ∷ xs) h l = (h x ∙ rw l.0 (after xs), linked_begin nx next end xs h l.1)
    where
      after : (ys : List Policy) → behind b (head_or none ys) end ≡ head_or end (begin_with ys)
      after [] = refl
      after (y ∷ ys) = refl

module _ (g : ℕ → List Policy) where
  -- for each first byte of a list
  abbrev begin_each : List ℕ → List Policy
  begin_each os = for_each (λ (b : ℕ). begin_with b (g b)) os

  module _ (low : ℕ → Policy) where
    head_each : (os : List ℕ) → ((b : ℕ) → In b os → head_or none (g b) ≡ some (low b)) → head_or none (begin_each os) ≡ ahead low (head_or none os)
    head_each [] h = refl
    head_each (b ∷ os) h = head_begin b (g b) (begin_each os) (low b) (h b (inl refl))

    linked_each : (nx : ℕ → Policy → Option Policy) (next : Policy → Option Policy) (above : ℕ → Option ℕ) (os : List ℕ)
        → ((b : ℕ) (bs : Policy) → next (b ∷ bs) ≡ behind b (nx b bs) (ahead low (above b))) → Linked above none os
        → ((b : ℕ) → In b os → head_or none (g b) ≡ some (low b)) → ((b : ℕ) → In b os → Linked (nx b) none (g b)) → Linked next none (begin_each os)
    linked_each nx next above [] e l h k = tt
    linked_each nx next above (b ∷ os) e l h k =
        linked_++ next none (begin_with b (g b)) (begin_each os)
        (linked_begin b (nx b) next (head_or none (begin_each os)) (g b)
        (λ bs. e b bs ∙ ap (behind b (nx b bs)) (ap (ahead low) l.0 ∙ sym (head_each os (λ c i. h c (inr i))))) (k b (inl refl)))
        (linked_each nx next above os e l.1 (λ c i. h c (inr i)) (λ c i. k c (inr i)))

-- ---- the enumeration

module _ (act : ℕ → ℕ → Action) (Alive : ℕ → Type 0) (lists : ℕ → List ℕ) (li : Lists Alive act lists)
    (bare : (p : ℕ) → (act p 255).transitions ≡ []) where
  -- a policy goes on from each of the states
  abbrev AllAlive : List ℕ → Type 0
  AllAlive reach = (q : ℕ) → In q reach → Alive q

  -- it still does after a byte that is allowed
  stays : (p b : ℕ) (reach : List ℕ) → AllAlive reach → In b (bytes_at act lists p reach) → AllAlive (onward act p b reach)
  stays p b reach a i q j = ⊎_elim (go (is_in p reach) refl i) (a q) (in_++ q (nexts (act p b).transitions) reach j)
    where
      go : (t : Bool) → is_in p reach ≡ t → In b (allowed (lists p) t) → In q (nexts (act p b).transitions) → Alive q
      go true e o k = at_nexts Alive (act p b).transitions (li.stays_alive p b (a p (is_in_in p reach (true-T e))) o) q k
      go false e o k =
          absurd (subst (λ (ts : List Transition). In q (nexts ts)) (ap (λ (x : ℕ). (act p x).transitions) (in_one o) ∙ bare p) k)

  -- there is such a byte, so the lowest of them is first
  first_byte : (p : ℕ) (reach : List ℕ) → AllAlive reach → head_or none (bytes_at act lists p reach) ≡ some (first_of (bytes_at act lists p reach))
  first_byte p reach a = go (is_in p reach) refl
    where
      first : (c : ℕ) (os : List ℕ) → In c os → head_or none os ≡ some (first_of os)
      first c [] i = absurd i
      first c (o ∷ os) i = refl

      go : (t : Bool) → is_in p reach ≡ t → head_or none (allowed (lists p) t) ≡ some (first_of (allowed (lists p) t))
      go true e = let c = li.some_action p (a p (is_in_in p reach (true-T e))) in first c.0 (lists p) c.1
      go false e = refl

  -- the enumeration begins with the lowest policy
  pub lowest-first : (n p : ℕ) (reach : List ℕ) → ((q : ℕ) → In q reach → Alive q)
      → head_or none (policies_from act lists n p reach) ≡ some (lowest_from act lists n p reach)
  lowest-first zero p reach a = refl
  lowest-first (suc n) p reach a =
      head_each (λ b. policies_from act lists n (suc p) (onward act p b reach)) (λ b. lowest_from act lists n (suc p) (onward act p b reach))
      (bytes_at act lists p reach) (λ b i. lowest-first n (suc p) (onward act p b reach) (stays p b reach a i))
      ∙ ap (ahead (λ b. lowest_from act lists n (suc p) (onward act p b reach))) (first_byte p reach a)

  -- and each policy is followed by its next, the last by none
  pub policies_linked : (n p : ℕ) (reach : List ℕ) → ((q : ℕ) → In q reach → Alive q)
      → Linked (next_from act lists n p reach) none (policies_from act lists n p reach)
  policies_linked zero p reach a = (refl, tt)
  policies_linked (suc n) p reach a =
      linked_each (λ b. policies_from act lists n (suc p) (onward act p b reach)) (λ b. lowest_from act lists n (suc p) (onward act p b reach))
      (λ b. next_from act lists n (suc p) (onward act p b reach)) (next_from act lists (suc n) p reach) (λ b. first_above b (bytes_at act lists p reach))
      (bytes_at act lists p reach) (λ b bs. refl)
      (rising_linked (λ b. first_above b (bytes_at act lists p reach)) (bytes_at act lists p reach)
      (allowed_rising act lists li.rising p (is_in p reach)) (λ b i. refl))
      (λ b i. lowest-first n (suc p) (onward act p b reach) (stays p b reach a i))
      (λ b i. policies_linked n (suc p) (onward act p b reach) (stays p b reach a i))
