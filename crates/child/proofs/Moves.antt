-- A child's cost is within the bound of question 13, and so is every step on the way to it.
-- Assumes nothing.
use mathlib.Core.Path.{◌≡◌, subst}
use mathlib.Core.Logic.{◌⊎◌, inl, inr, ⊎_elim}
use Prim.Native.Nat.{ℕ, ◌+◌, ◌*◌, ◌^◌, ◌≤◌, ◌<◌}
use native.Mathlib.Nat.{mul-le-mul, mul-le-mul_left, mul-le-mul_right, one-le-pow}
use native.Mathlib.Omega.{arith}
use lib.Dec.{lit<}
use lib.IntN.{ℤ, pos, nat_abs, ◌+ℤ◌, ◌-ℤ◌, ◌*ℤ◌}
use mir.Syntax.{w64}
use mir.Val.{SFits}
use Rattle.model.specs.Model.{Words, scale, horizon, state_count, togo, action}
use Rattle.model.specs.Questions.{largest_cost, book_number}
use Rattle.model.specs.Path.{byte_at, taken}
use Rattle.model.specs.Recursion.{through, feasible}
use mathlib.Core.List.{[], ◌∷◌}
use Rattle.laws.specs.Int.{abs_minus, abs_mul}
use Rattle.laws.specs.Best.{best_cases}
use Rattle.laws.specs.Members.{true-T, In}
use Rattle.accepted.specs.Options.{Feasible}
use Rattle.accepted.specs.Facts.{accepted}
use Rattle.accepted.specs.Shape.{shape, togo_start, weights_bound}
use Rattle.accepted.specs.Demands.{to_go_fits, through-most, through-fits}
use Rattle.book.proofs.Words.{fits64}
use Rattle.power.proofs.Range.{power_high}
use Rattle.splits.specs.Parts.{Reaches}
use Rattle.splits.specs.Reach.{reach_weight, reach_bound}
use Rattle.stored.specs.Entry.{Entry}
use Rattle.stored.specs.Lists.{left, left-feasible}
use Rattle.stored.specs.Children.{Right, mask_at, child_entry, plan_model, child-right}
use Rattle.stored.specs.Costs.{next_at, cost_moves}
use Rattle.child.specs.Move.{Movable}
use Rattle.child.proofs.Splits.{byte-feasible}

-- ---- the machine's steps

module _ (cost : ℤ) (w : ℕ) (new old : ℤ) (m : Movable cost w new old) where
  pub difference_fits : SFits w64 (new -ℤ old)
  difference_fits = fits64 8000000000000000000 (new -ℤ old) (omega (arith, abs_minus new old, m.new_size, m.old-size)) (lit< tt)

  pub product_fits : SFits w64 (pos w *ℤ (new -ℤ old))
  product_fits =
      fits64 8000000000000000000 (pos w *ℤ (new -ℤ old))
      (omega (arith, abs_mul (pos w) (new -ℤ old), mul-le-mul_left w (abs_minus new old), m.new_part, m.old-part)) (lit< tt)

  pub result_fits : SFits w64 (cost +ℤ pos w *ℤ (new -ℤ old))
  result_fits = fits64 4000000000000000000 (cost +ℤ pos w *ℤ (new -ℤ old)) m.result (lit< tt)

-- ---- of a candidate

module _ (ws : Words) (ok : book_number ws ≡ 0) (e : Entry) (ri : Right ws e) (p : ℕ) (state : p < state_count ws) (from : e.split ≤ p)
    (reached : Reaches (action ws) p 0 (0 ∷ []) e.plan) (some : (c : ℕ) × In c (left ws p (mask_at e p))) where
  abbrev W : ℕ
  W = reach_weight (action ws) e.plan p

  abbrev D : ℕ
  D = scale ws

  abbrev row : ℕ → ℤ
  row = through (scale ws) (action ws) (feasible ws) (togo ws p) p

  few : togo ws p ≤ horizon ws
  unfolding togo
  few = omega arith

  -- reach weights and what is still to come make at most D^H
  reach : W * D ^ togo ws p ≤ D ^ horizon ws
  reach =
      subst (λ (m : ℕ). W * D ^ togo ws p ≤ D ^ m) (togo_start ws ok)
      (reach_bound (scale ws) (togo ws) (state_count ws) (λ q. action ws q (byte_at e.plan q)) (λ q. (shape ws ok).step q (byte_at e.plan q))
      (λ q. (shape ws ok).later q (byte_at e.plan q)) (λ q. (shape ws ok).inside q (byte_at e.plan q)) (λ q. weights_bound ws ok q (byte_at e.plan q))
      p p (omega arith) state)

  part : (c : ℕ) → (c ≡ 255) ⊎ Feasible ws p c → W * nat_abs (row c) ≤ 4000000000000000000
  part c t =
      let C = largest_cost ws in
      let m = togo ws p in
      let size = through-most ws ok m p c t in
      let a : W * nat_abs (row c) ≤ W * (D ^ m * (m + 1) * C) = mul-le-mul_left W size in
      let b : (W * D ^ m) * ((m + 1) * C) ≤ D ^ horizon ws * ((horizon ws + 1) * C)
      = mul-le-mul {n₁ = W * D ^ m} {m₁ = (m + 1) * C} {n₂ = D ^ horizon ws} {m₂ = (horizon ws + 1) * C} reach (mul-le-mul_right C (omega (arith, few))) in
      omega (arith, a, b, (accepted ws ok).product_bounded)

  -- both actions are feasible
  own-goes : (byte_at e.plan p ≡ 255) ⊎ Feasible ws p (byte_at e.plan p)
  own-goes = byte-feasible ws ok e ri p state

  next-goes : (next_at ws ok e ri p from ≡ 255) ⊎ Feasible ws p (next_at ws ok e ri p from)
  next-goes = ⊎_elim inl (λ i. inr (left-feasible ws p (mask_at e p) (next_at ws ok e ri p from) i)) (best_cases row (left ws p (mask_at e p)))

  pub movable : Movable e.cost W (row (next_at ws ok e ri p from)) (row (byte_at e.plan p))
  unfolding taken
  movable =
      record {
        weight = omega (arith, reach, mul-le-mul_left W (one-le-pow (togo ws p) D (accepted ws ok).sizes.d_low), power_high D (horizon ws) (accepted ws ok).sizes.d_high (accepted ws ok).sizes.h_high);
        new_size = through-fits ws ok (togo ws p) p (next_at ws ok e ri p from) next-goes few;
        old-size = through-fits ws ok (togo ws p) p (byte_at e.plan p) own-goes few;
        new_part = part (next_at ws ok e ri p from) next-goes;
        old-part = part (byte_at e.plan p) own-goes;
        result = subst (λ (z : ℤ). nat_abs z ≤ 4000000000000000000) (cost_moves ws ok e ri p from reached some)
            (to_go_fits ws ok (child_entry ws e p).plan (true-T (plan_model ws ok (child_entry ws e p) (child-right ws ok e ri p from reached some)))
            (togo ws 0) 0 (omega (arith, togo_start ws ok)));
      }
