-- The place of the first pair of unlike bytes is where the runs first differ.
-- Assumes nothing.
use Rattle.std.proofs.Common.{◌≡◌, ◌+◌, ◌-◌, ◌≤◌, ℕ, suc, Bool, true, false, not, eqb, ltb, cond, List, [], ◌∷◌, length, take, drop, refl, sym, ap, ◌∙◌, arith, rules, length-drop, Option, Some, None, unwrap_or}
use Rattle.std.proofs.Math.Nat.{add-sub_cancel_left, suc_inj}
use Rattle.std.proofs.Math.Seq.{length-take-le}
use Rattle.std.specs.List.{zip, position_or_len}
use Rattle.std.specs.Slice.Iter.{iter_rest}
use Rattle.std.proofs.lemmas.Bool.{ltb-false}
use Rattle.std.proofs.lemmas.Iterator.{YieldsList-from_slice, YieldsList-from_zip}
use Rattle.std.proofs.lemmas.Iterator.Search.{position_from_yields_List}
use Rattle.std.proofs.lemmas.List.Sums.{prefix_len-le-length}
use Rattle.std.proofs.lemmas.Slice.Zip.{length-zip}
use borrow.Author.Tests.{tests}
use Rattle.model.specs.Order.{first_difference}
use Rattle.compare.proofs.first_difference.Goals as goal

abbrev unlike : ℕ × ℕ → Bool
unlike p = not (eqb p.0 p.1)

place : (xs ys : List ℕ) → length xs ≡ length ys → position_or_len unlike (zip xs ys) ≡ first_difference xs ys
place [] [] e = refl
place [] (y ∷ ys) e = absurd (omega arith)
place (x ∷ xs) [] e = absurd (omega arith)
place (x ∷ xs) (y ∷ ys) e = go (eqb x y) (place xs ys (suc_inj e))
  where
    go : (t : Bool) → position_or_len unlike (zip xs ys) ≡ first_difference xs ys
        → cond (not (not t)) (1 + position_or_len unlike (zip xs ys)) 0 ≡ cond t (suc (first_difference xs ys)) 0
    go true p = rw p (omega arith)
    go false p = refl

counted : (n p : ℕ) {r : Option ℕ} → p ≤ n → r ≡ cond (ltb p n) (Some p) None → unwrap_or r n ≡ p
counted n p h e = rw e (go (ltb p n) refl)
  where
    go : (t : Bool) → ltb p n ≡ t → unwrap_or (cond t (Some p) None) n ≡ p
    go true q = refl
    go false q = omega (arith, ltb-false p n q)

pub returns : goal.returns
returns c =
    let a : List ℕ = take (c.args.at + c.args.n - c.args.at) (drop c.args.at c.args.a.now) in
    let b : List ℕ = take c.args.n c.args.b.now in
    let first : iter_rest c.zip.result.a ≡ a = ap iter_rest c.zip.ensures.first ∙ c.iter.ensures.rest in
    let r = position_from_yields_List unlike c.position.new.self _ c.position.result c.position.ensures.ran
    (YieldsList-from_zip {s = c.zip.result} (YieldsList-from_slice a first) (YieldsList-from_slice b c.zip.ensures.second.0)) (λ x b q k. search (rules, tests)) in
    let here : c.args.at + c.args.n - c.args.at ≡ c.args.n = add-sub_cancel_left c.args.at c.args.n in
    let a_long : length a ≡ c.args.n = rw here (length-take-le c.args.n (drop c.args.at c.args.a.now) (simp length-drop (omega arith))) in
    let b_long : length b ≡ c.args.n = length-take-le c.args.n c.args.b.now (omega arith) in
    let long : length (zip a b) ≡ c.args.n = omega (arith, length-zip a b) in
    let most : position_or_len unlike (zip a b) ≤ c.args.n = omega (arith, prefix_len-le-length (λ p. not (unlike p)) (zip a b)) in
    let e : c.unwrap_or.result ≡ position_or_len unlike (zip a b) = c.unwrap_or.ensures ∙ counted c.args.n _ most (rw long at r) in
    (e ∙ place a b (a_long ∙ sym b_long) ∙ rw here, omega arith)
