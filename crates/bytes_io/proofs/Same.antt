-- When two lists are the same.
-- Assumes nothing.
use mathlib.Core.Path.{◌≡◌, refl, sym}
use mathlib.Core.Bool.{Bool, true, false, ◌&&◌}
use mathlib.Core.List.{List, [], ◌∷◌, ◌++◌}
use Prim.Native.Nat.{ℕ}
use native.Mathlib.Nat.{suc_inj}
use native.Mathlib.Omega.{arith}
use borrow.Author.Tests.{eq-eqb, eqb-true}
use lib.Dec.{eqb}
use lib.ListN.{length}
use Rattle.model.specs.Lists.{same}

pub same_refl : (xs : List ℕ) → same xs xs ≡ true
same_refl [] = refl
same_refl (x ∷ xs) = rw (eq-eqb x x refl, same_refl xs)

pub eq_same : {xs ys : List ℕ} → xs ≡ ys → same xs ys ≡ true
eq_same {xs} e = rw (sym e) (same_refl xs)

pub same_eq : (xs ys : List ℕ) → same xs ys ≡ true → xs ≡ ys
same_eq [] [] e = refl
same_eq [] (y ∷ ys) e = let z : ◌≡◌ {A = ℕ} 0 1 = cc in absurd (omega arith)
same_eq (x ∷ xs) [] e = let z : ◌≡◌ {A = ℕ} 0 1 = cc in absurd (omega arith)
same_eq (x ∷ xs) (y ∷ ys) e = go (eqb x y) refl e (same_eq xs ys)
  where
    go : (a : Bool) → eqb x y ≡ a → (a && same xs ys) ≡ true → (same xs ys ≡ true → xs ≡ ys) → x ∷ xs ≡ y ∷ ys
    go true p f r = rw (eqb-true x y p, r f)
    go false p f r = let z : ◌≡◌ {A = ℕ} 0 1 = cc in absurd (omega arith)

and_assoc : (a b c : Bool) → (a && (b && c)) ≡ ((a && b) && c)
and_assoc true b c = refl
and_assoc false b c = refl

-- lists that are made of parts of equal lengths, part by part
pub same_++ : (a b c d : List ℕ) → length a ≡ length c → same (a ++ b) (c ++ d) ≡ (same a c && same b d)
same_++ [] b [] d e = refl
same_++ [] b (y ∷ c) d e = absurd (omega arith)
same_++ (x ∷ a) b [] d e = absurd (omega arith)
same_++ (x ∷ a) b (y ∷ c) d e = rw (same_++ a b c d (suc_inj e)) (and_assoc (eqb x y) (same a c) (same b d))
