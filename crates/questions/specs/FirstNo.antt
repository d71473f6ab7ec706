-- The number of the first question that is answered no.
-- Assumes nothing.
use Rattle.std.specs.Prelude.{◌≡◌, Bool, true, false, List, [], ◌∷◌, ◌++◌, map, ℕ, zero, suc, ◌<◌, eqb}
use Rattle.std.proofs.Math.Path.{refl}
use Rattle.std.proofs.Common.{sym, ap, ◌∙◌, arith}
use Rattle.std.proofs.lemmas.Bool.{eqb-false}
use Rattle.model.specs.Questions.{Question, first_no, and_then}

-- every question of a list is answered yes
abbrev pub AllYes : {A : Type 0} → List (Question A) → A → Type 0
AllYes [] x = Unit {0}
AllYes (q ∷ qs) x = (q.asks x ≡ true) × AllYes qs x

-- every question of a list has a number above 0
abbrev pub Numbered : {A : Type 0} → List (Question A) → Type 0
Numbered [] = Unit {0}
Numbered (q ∷ qs) = (0 < q.number) × Numbered qs

-- no question of a list has the number m
abbrev pub Without : {A : Type 0} → ℕ → List (Question A) → Type 0
Without m [] = Unit {0}
Without m (q ∷ qs) = (eqb q.number m ≡ false) × Without m qs

module _ {A : Type 0} (x : A) where
  -- a question that is answered no gives its number
  pub fails : (q : Question A) (qs : List (Question A)) → q.asks x ≡ false → first_no (q ∷ qs) x ≡ q.number
  unfolding first_no
  fails q qs e = rw e

  -- one that is answered yes is passed over
  pub passes : (q : Question A) (qs : List (Question A)) → q.asks x ≡ true → first_no (q ∷ qs) x ≡ first_no qs x
  unfolding first_no
  passes q qs e = rw e

  pub none : first_no [] x ≡ 0
  unfolding first_no
  none = refl

  -- a list in which no question has a number does not give it
  pub never : (m : ℕ) → 0 < m → (qs : List (Question A)) → Without m qs → first_no qs x ≡ m → ⊥
  never m some [] h e = omega (arith, none, e)
  never m some (q ∷ qs) h e = go (q.asks x) refl (never m some qs h.1)
    where
      go : (b : Bool) → q.asks x ≡ b → (first_no qs x ≡ m → ⊥) → ⊥
      go true a ih = ih (sym (passes q qs a) ∙ e)
      go false a ih = eqb-false q.number m h.0 (sym (fails q qs a) ∙ e)

  -- no "no": every answer is yes
  pub passed : (qs : List (Question A)) → Numbered qs → first_no qs x ≡ 0 → AllYes qs x
  passed [] h e = tt
  passed (q ∷ qs) h e = go (q.asks x) refl (passed qs h.1)
    where
      go : (b : Bool) → q.asks x ≡ b → (first_no qs x ≡ 0 → AllYes qs x) → (q.asks x ≡ true) × AllYes qs x
      go true a ih = (a, ih (sym (passes q qs a) ∙ e))
      go false a ih = absurd (omega (arith, h.0, fails q qs a))

  -- questions of the same numbers that get the same answers, asked otherwise
  abbrev pub Alike : (Question A → Question A) → List (Question A) → Type 0
  Alike f [] = Unit {0}
  Alike f (q ∷ qs) = ((f q).number ≡ q.number) × ((f q).asks x ≡ q.asks x) × Alike f qs

  pub answers_same : (f : Question A → Question A) (qs : List (Question A)) → Alike f qs → first_no (map f qs) x ≡ first_no qs x
  answers_same f [] h = refl
  answers_same f (q ∷ qs) h = go (q.asks x) refl (answers_same f qs h.2)
    where
      go : (b : Bool) → q.asks x ≡ b → first_no (map f qs) x ≡ first_no qs x → first_no (f q ∷ map f qs) x ≡ first_no (q ∷ qs) x
      go true a ih = passes (f q) (map f qs) (h.1 ∙ a) ∙ ih ∙ sym (passes q qs a)
      go false a ih = fails (f q) (map f qs) (h.1 ∙ a) ∙ h.0 ∙ sym (fails q qs a)

  -- one list of questions after another
  pub after : (qs rs : List (Question A)) → Numbered qs → first_no (qs ++ rs) x ≡ and_then (first_no qs x) (first_no rs x)
  after [] rs h = rw none
  after (q ∷ qs) rs h = go (q.asks x) refl (after qs rs h.1)
    where
      big : (n : ℕ) → 0 < n → n ≡ and_then n (first_no rs x)
      big zero l = absurd (omega arith)
      big (suc n) l = refl

      go : (b : Bool) → q.asks x ≡ b → first_no (qs ++ rs) x ≡ and_then (first_no qs x) (first_no rs x) → first_no (q ∷ (qs ++ rs)) x ≡ and_then (first_no (q ∷ qs) x) (first_no rs x)
      go true a ih = passes q (qs ++ rs) a ∙ ih ∙ ap (λ (n : ℕ). and_then n (first_no rs x)) (sym (passes q qs a))
      go false a ih = fails q (qs ++ rs) a ∙ big q.number h.0 ∙ ap (λ (n : ℕ). and_then n (first_no rs x)) (sym (fails q qs a))

-- ---- runs of questions

pub then_no : (n m : ℕ) → (n ≡ 0 → ⊥) → and_then n m ≡ n
then_no zero m h = absurd (h refl)
then_no (suc n) m h = refl

pub then_yes : (n m : ℕ) → n ≡ 0 → and_then n m ≡ m
then_yes n m e = rw e

pub then_zero : (n m : ℕ) → and_then n m ≡ 0 → (n ≡ 0) × (m ≡ 0)
then_zero zero m e = (refl, e)
then_zero (suc n) m e = absurd (omega arith)

module _ {A : Type 0} (x : A) (qs : List (Question A)) (numbered : Numbered qs) where
  -- no "no" in two runs: none in either
  pub both_zero : (rs : List (Question A)) → first_no (qs ++ rs) x ≡ 0 → (first_no qs x ≡ 0) × (first_no rs x ≡ 0)
  both_zero rs e = then_zero (first_no qs x) (first_no rs x) (sym (after x qs rs numbered) ∙ e)

  -- runs that get one number wherever the run before them is passed
  pub rest-same : (rs others : List (Question A)) → (first_no qs x ≡ 0 → first_no rs x ≡ first_no others x) → first_no (qs ++ rs) x ≡ first_no (qs ++ others) x
  rest-same rs others same = after x qs rs numbered ∙ go (first_no qs x) same ∙ sym (after x qs others numbered)
    where
      go : (n : ℕ) → (n ≡ 0 → first_no rs x ≡ first_no others x) → and_then n (first_no rs x) ≡ and_then n (first_no others x)
      go zero h = h refl
      go (suc n) h = refl
