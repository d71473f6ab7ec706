-- The first place where two lists of bytes differ. It decides the order of the bytes and whether they are the same, and for two policies it is the
-- lowest state where they take different actions.
-- Assumes nothing.
use Rattle.std.specs.Prelude.{◌≡◌, refl, Bool, true, false, ◌&&◌, ◌||◌, cond, ◌↔◌, List, [], ◌∷◌, ℕ, zero, suc, ◌<◌, eqb, ltb, length, get_or, drop}
use Rattle.std.proofs.Common.{sym, ap, ap₂, ◌∙◌, arith, ne_eqb, lt-ltb, le-ltb, ltb-true, eqb-true, drop-cons}
use Rattle.std.proofs.Math.Decide.{ℕ_discrete}
use Rattle.std.proofs.lemmas.Bool.{eqb-false}
use Rattle.std.proofs.Math.Dec.{eqb-suc-suc}
use Rattle.std.proofs.Math.ListN.{get_or-eq_default}
use Rattle.model.specs.Lists.{same}
use Rattle.model.specs.Model.{Action}
use Rattle.model.specs.Policy.{Policy}
use Rattle.model.specs.Path.{byte_at}
use Rattle.model.specs.Order.{lower, first_difference}
use Rattle.laws.specs.Members.{T_true, true-T}
use Rattle.laws.specs.Policies.{FirstDifference}
use Rattle.laws.specs.Order.{Low, lower_is}
use Rattle.laws.specs.Difference.{first_equal, first_differ}

pub first-swap : (bs cs : List ℕ) → first_difference bs cs ≡ first_difference cs bs
first-swap [] [] = refl
first-swap [] (c ∷ cs) = refl
first-swap (b ∷ bs) [] = refl
first-swap (b ∷ bs) (c ∷ cs) = go (ℕ_discrete b c) (first-swap bs cs)
  where
    go : Dec (b ≡ c) → first_difference bs cs ≡ first_difference cs bs → first_difference (b ∷ bs) (c ∷ cs) ≡ first_difference (c ∷ cs) (b ∷ bs)
    go (yes e) ih = first_equal b c bs cs e ∙ ap suc ih ∙ sym (first_equal c b cs bs (sym e))
    go (no d) ih = first_differ b c bs cs d ∙ sym (first_differ c b cs bs (λ e. d (sym e)))

-- the same of the bytes from place i on
module _ (d : ℕ) (bs cs : List ℕ) (i : ℕ) (h : i < length bs) (k : i < length cs) where
  pub drop_equal : get_or bs i d ≡ get_or cs i d → first_difference (drop i bs) (drop i cs) ≡ suc (first_difference (drop (suc i) bs) (drop (suc i) cs))
  drop_equal e = rw (drop-cons bs i d h, drop-cons cs i d k) (first_equal (get_or bs i d) (get_or cs i d) (drop (suc i) bs) (drop (suc i) cs) e)

  pub drop_differ : (get_or bs i d ≡ get_or cs i d → ⊥) → first_difference (drop i bs) (drop i cs) ≡ 0
  drop_differ e = rw (drop-cons bs i d h, drop-cons cs i d k) (first_differ (get_or bs i d) (get_or cs i d) (drop (suc i) bs) (drop (suc i) cs) e)

-- ---- lists of one length

-- the bytes before it agree
pub first_agree : (d : ℕ) (bs cs : List ℕ) (j : ℕ) → j < first_difference bs cs → get_or bs j d ≡ get_or cs j d
first_agree d [] cs j l = absurd (omega arith)
first_agree d (b ∷ bs) [] j l = absurd (omega arith)
first_agree d (b ∷ bs) (c ∷ cs) j l = go (eqb b c) refl j l (first_agree d bs cs)
  where
    go : (t : Bool) → eqb b c ≡ t → (j : ℕ) → j < cond t (suc (first_difference bs cs)) 0
        → ((i : ℕ) → i < first_difference bs cs → get_or bs i d ≡ get_or cs i d) → get_or (b ∷ bs) j d ≡ get_or (c ∷ cs) j d
    go true e zero l ih = eqb-true b c e
    go true e (suc i) l ih = ih i (omega arith)
    go false e j l ih = absurd (omega arith)

-- and where it is before the end of both, those at it do not
pub first_disagree : (d : ℕ) (bs cs : List ℕ) → length bs ≡ length cs → first_difference bs cs < length bs
    → get_or bs (first_difference bs cs) d ≡ get_or cs (first_difference bs cs) d → ⊥
first_disagree d [] cs e l q = omega arith
first_disagree d (b ∷ bs) [] e l q = omega arith
first_disagree d (b ∷ bs) (c ∷ cs) e l q = go (eqb b c) refl l q (first_disagree d bs cs (omega arith))
  where
    F : ℕ
    F = first_difference bs cs

    go : (t : Bool) → eqb b c ≡ t → cond t (suc F) 0 < suc (length bs) → get_or (b ∷ bs) (cond t (suc F) 0) d ≡ get_or (c ∷ cs) (cond t (suc F) 0) d
        → (F < length bs → get_or bs F d ≡ get_or cs F d → ⊥) → ⊥
    go true h l q ih = ih (omega arith) q
    go false h l q ih = eqb-false b c h q

-- no other place has both
pub first_only : (d : ℕ) (bs cs : List ℕ) (i : ℕ) → i < length bs → i < length cs → ((j : ℕ) → j < i → get_or bs j d ≡ get_or cs j d)
    → (get_or bs i d ≡ get_or cs i d → ⊥) → first_difference bs cs ≡ i
first_only d [] cs i h k agree differ = absurd (omega arith)
first_only d (b ∷ bs) [] i h k agree differ = absurd (omega arith)
first_only d (b ∷ bs) (c ∷ cs) zero h k agree differ = first_differ b c bs cs differ
first_only d (b ∷ bs) (c ∷ cs) (suc i) h k agree differ =
    first_equal b c bs cs (agree 0 (omega arith))
    ∙ ap suc (first_only d bs cs i (omega arith) (omega arith) (λ j l. agree (suc j) (omega arith)) differ)

-- the bytes there decide the order; past the end both are d, and neither list is lower
pub lower-first : (d : ℕ) (bs cs : List ℕ) → length bs ≡ length cs
    → lower bs cs ≡ ltb (get_or bs (first_difference bs cs) d) (get_or cs (first_difference bs cs) d)
lower-first d [] [] e = sym (le-ltb d d (omega arith))
lower-first d [] (c ∷ cs) e = absurd (omega arith)
lower-first d (b ∷ bs) [] e = absurd (omega arith)
lower-first d (b ∷ bs) (c ∷ cs) e = go (eqb b c) refl (lower-first d bs cs (omega arith))
  where
    F : ℕ
    F = first_difference bs cs

    left_alone : (t : Bool) → (t || false) ≡ t
    left_alone true = refl
    left_alone false = refl

    go : (t : Bool) → eqb b c ≡ t → lower bs cs ≡ ltb (get_or bs F d) (get_or cs F d)
        → (ltb b c || (t && lower bs cs)) ≡ ltb (get_or (b ∷ bs) (cond t (suc F) 0) d) (get_or (c ∷ cs) (cond t (suc F) 0) d)
    go true h ih = let q = eqb-true b c h in rw (le-ltb b c (omega arith)) ih
    go false h ih = left_alone (ltb b c)

-- so of two lists that differ, the one with the lower byte at the first place where they do has the lower bytes
pub low_at : (bs cs : Policy) (i : ℕ) → length bs ≡ length cs → i < length bs → ((j : ℕ) → j < i → byte_at bs j ≡ byte_at cs j)
    → (byte_at bs i ≡ byte_at cs i → ⊥) → Low bs cs ↔ (byte_at bs i < byte_at cs i)
low_at bs cs i e h agree differ = (
  λ l. ltb-true (byte_at bs i) (byte_at cs i) (sym is ∙ T_true (lower bs cs) ((lower_is bs cs).1 l)),
  λ l. (lower_is bs cs).0 (true-T (is ∙ lt-ltb (byte_at bs i) (byte_at cs i) l)),
)
  where
    is : lower bs cs ≡ ltb (byte_at bs i) (byte_at cs i)
    is = rw (← first_only 255 bs cs i h (omega arith) agree differ) (lower-first 255 bs cs e)

-- where it is the end, neither is lower
pub lower-end : (bs cs : List ℕ) → length bs ≡ length cs → first_difference bs cs ≡ length bs → lower bs cs ≡ false
lower-end bs cs e f =
    lower-first 0 bs cs e
    ∙ ap₂ ltb (get_or-eq_default bs 0 {n = first_difference bs cs} (omega arith)) (get_or-eq_default cs 0 {n = first_difference bs cs} (omega arith))
    ∙ le-ltb 0 0 (omega arith)

-- they are the same exactly if it is the end
pub same_first : (bs cs : List ℕ) → length bs ≡ length cs → same bs cs ≡ eqb (first_difference bs cs) (length bs)
same_first [] [] e = refl
same_first [] (c ∷ cs) e = absurd (omega arith)
same_first (b ∷ bs) [] e = absurd (omega arith)
same_first (b ∷ bs) (c ∷ cs) e = go (eqb b c) (same_first bs cs (omega arith))
  where
    go : (t : Bool) → same bs cs ≡ eqb (first_difference bs cs) (length bs)
        → (t && same bs cs) ≡ eqb (cond t (suc (first_difference bs cs)) 0) (suc (length bs))
    go true ih = ih ∙ sym (eqb-suc-suc (first_difference bs cs) (length bs))
    go false ih = sym (ne_eqb 0 (suc (length bs)) (λ q. omega arith))

-- ---- two policies

-- the first state where two policies differ is that place
pub first_state_lem : (act : ℕ → ℕ → Action) (n p : ℕ) (reach : List ℕ) (bs cs : Policy) → length bs ≡ n → length cs ≡ n
    → (f : FirstDifference act n p reach bs cs) → first_difference bs cs ≡ f.index
first_state_lem act n p reach bs cs m k f = first_only 255 bs cs f.index (omega (arith, f.inside)) (omega (arith, f.inside)) f.agree f.disagree
