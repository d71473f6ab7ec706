-- Where the next policy differs first: at the last state whose list has an action above its byte. No action is as high as 255, the byte of a state that
-- is not reached, so the bytes alone say which state that is.
-- Assumes nothing.
use Rattle.std.specs.Prelude.{◌≡◌, refl, Bool, true, false, List, [], ◌∷◌, ◌++◌, ℕ, zero, suc, ◌+◌, ◌≤◌, ◌<◌, length}
use Rattle.std.proofs.Common.{sym, ap, ap₂, ◌∙◌, subst, inl, inr, add-zero, add-suc, suc-add, arith, le-ltb}
use Rattle.std.proofs.Math.Option.{Option, none, some}
use Rattle.model.specs.Lists.{is_in}
use Rattle.model.specs.Model.{Action}
use Rattle.model.specs.Policy.{Policy, allowed, onward}
use Rattle.model.specs.Path.{byte_at}
use Rattle.laws.specs.Members.{In, in_one}
use Rattle.laws.specs.Policies.{IsPolicy, policy-length, reached_from}
use Rattle.next_policy.specs.Next.{first_above, behind, ahead, bytes_at, lowest_from, next_from}

-- nothing is above what is above all
none_above : (b : ℕ) (os : List ℕ) → ((c : ℕ) → In c os → c ≤ b) → first_above b os ≡ none
none_above b [] h = refl
none_above b (x ∷ xs) h = rw (le-ltb b x (h x (inl refl))) (none_above b xs (λ c i. h c (inr i)))

module _ (act : ℕ → ℕ → Action) (lists : ℕ → List ℕ) where
  -- no state from p on has an action above its byte
  abbrev pub NoneAbove : ℕ → Policy → Type 0
  NoneAbove p [] = Unit {0}
  NoneAbove p (b ∷ bs) = (first_above b (lists p) ≡ none) × NoneAbove (suc p) bs

  pub none_from : (p : ℕ) (bs : Policy) → ((i : ℕ) → i < length bs → first_above (byte_at bs i) (lists (p + i)) ≡ none) → NoneAbove p bs
  none_from p [] h = tt
  none_from p (b ∷ bs) h = (
    rw (add-zero p) at (h 0 (omega arith)),
    none_from (suc p) bs (λ i l. rw (suc-add, ← add-suc) (h (suc i) (omega arith))),
  )

  module _ (S : ℕ) (small : (p c : ℕ) → p < S → In c (lists p) → c < 255) where
    -- of the bytes allowed at a state, those above its byte are actions of its list
    by_list : (p b : ℕ) (reach : List ℕ) → p < S → In b (bytes_at act lists p reach) → first_above b (bytes_at act lists p reach) ≡ first_above b (lists p)
    by_list p b reach l = go (is_in p reach)
      where
        go : (t : Bool) → In b (allowed (lists p) t) → first_above b (allowed (lists p) t) ≡ first_above b (lists p)
        go true i = refl
        go false i =
            let e : b ≡ 255 = in_one i in
            rw (le-ltb b 255 (omega arith)) (sym (none_above b (lists p) (λ c j. omega (arith, small p c l j))))

    -- where no state has one, there is no next policy
    pub next-end : (n p : ℕ) (reach : List ℕ) (bs : Policy) → p + n ≤ S → IsPolicy act lists n p reach bs → NoneAbove p bs
        → next_from act lists n p reach bs ≡ none
    next-end zero p reach bs l is h = refl
    next-end (suc n) p reach [] l is h = refl
    next-end (suc n) p reach (b ∷ bs) l is h =
        ap₂ (behind b) (next-end n (suc p) (onward act p b reach) bs (omega arith) is.1 h.1)
        (ap (ahead (λ c. lowest_from act lists n (suc p) (onward act p c reach))) (by_list p b reach (omega arith) is.0 ∙ h.0))

    -- where r, the state of byte b, is the last that has one, the next policy has the bytes xs before it, the first such action c at it, and the lowest
    -- actions after it
    pub next_split : (xs : Policy) (n p r : ℕ) (reach : List ℕ) (b c : ℕ) (ys : Policy) → p + length xs ≡ r → p + n ≤ S
        → IsPolicy act lists n p reach (xs ++ b ∷ ys) → first_above b (lists r) ≡ some c → NoneAbove (suc r) ys
        → next_from act lists n p reach (xs ++ b ∷ ys)
        ≡ some (xs ++ c ∷ lowest_from act lists (length ys) (suc r) (onward act r c (reached_from act p reach xs)))
    next_split xs zero p r reach b c ys e l is f h = absurd (none xs is)
      where
        none : (xs : Policy) → IsPolicy act lists zero p reach (xs ++ b ∷ ys) → ⊥
        none [] is = is
        none (x ∷ xs) is = is
    next_split [] (suc n) p r reach b c ys e l is f h =
        let q : p ≡ r = omega arith in
        subst (λ (s : ℕ). first_above b (lists s) ≡ some c → NoneAbove (suc s) ys
        → next_from act lists (suc n) p reach (b ∷ ys) ≡ some (c ∷ lowest_from act lists (length ys) (suc s) (onward act s c reach))) q here f h
      where
        here : first_above b (lists p) ≡ some c → NoneAbove (suc p) ys
            → next_from act lists (suc n) p reach (b ∷ ys) ≡ some (c ∷ lowest_from act lists (length ys) (suc p) (onward act p c reach))
        here f h =
            ap₂ (behind b) (next-end n (suc p) (onward act p b reach) ys (omega arith) is.1 h)
            (ap (ahead (λ c. lowest_from act lists n (suc p) (onward act p c reach))) (by_list p b reach (omega arith) is.0 ∙ f))
            ∙ ap (λ (m : ℕ). some (c ∷ lowest_from act lists m (suc p) (onward act p c reach)))
            (sym (policy-length act lists n (suc p) (onward act p b reach) ys is.1))
    next_split (x ∷ xs) (suc n) p r reach b c ys e l is f h =
        ap (λ (o : Option Policy). behind x o (ahead (λ c. lowest_from act lists n (suc p) (onward act p c reach)) (first_above x (bytes_at act lists p reach))))
        (next_split xs n (suc p) r (onward act p x reach) b c ys (omega arith) (omega arith) is.1 f h)
