-- The costs that the pass has added when it comes to state p: with the weight × cost-to-go of the states from p on they make up the cost-to-go of state
-- 0, and they stay within the bound of question 13.
-- Assumes nothing.
use mathlib.Core.Path.{◌≡◌, refl, sym, ap, ◌∙◌}
use mathlib.Core.Logic.{◌⊎◌}
use mathlib.Core.List.{List, [], ◌∷◌}
use Prim.Native.Nat.{ℕ, suc, ◌+◌, ◌*◌, ◌-◌, ◌^◌, ◌≤◌, ◌<◌}
use native.Mathlib.Nat.{mul-le-mul_left, le_refl}
use native.Mathlib.Omega.{arith}
use lib.IntN.{ℤ, pos, nat_abs, ◌+ℤ◌, ◌*ℤ◌, +ℤ_idl, +ℤ_idr}
use lib.Signed.{◌≤ℤ◌, ≤ℤ_refl}
use Rattle.model.specs.Model.{Words, Transition, scale, state_count, togo, action}
use Rattle.model.specs.Questions.{book_number}
use Rattle.model.specs.Policy.{Policy}
use Rattle.model.specs.Path.{byte_at, taken}
use Rattle.model.specs.Recursion.{expected, cost_to_go}
use Rattle.laws.specs.Int.{up, dn, ints, le_in, is, dif_eq, ring, sum_is, abs_add, abs_mul}
use Rattle.laws.specs.Members.{every_imp}
use Rattle.accepted.specs.Options.{Option}
use Rattle.accepted.specs.Facts.{accepted}
use Rattle.accepted.specs.Shape.{shape, weights_bound, togo_start}
use Rattle.splits.specs.Reach.{left_of, left_start, left_step, left-none, left_nonneg, reach_bound}
use Rattle.power.proofs.Range.{power_high}
use Rattle.costs.specs.Terms.{abs_expected, most}
use Rattle.costs.proofs.Actions.{within_most, most_small_lem}
use Rattle.costs.proofs.ToGo.{policy_step}
use Rattle.reach.proofs.Bound.{weights}

-- a sum of weighted costs none of which is below 0
abs_same : (g : ℕ → ℕ) (ts : List Transition) → expected (λ q. pos (g q)) ts ≡ pos (abs_expected (λ q. pos (g q)) ts)
abs_same g [] = refl
abs_same g (t ∷ ts) = ap (λ (z : ℤ). pos (t.weight * g t.next) +ℤ z) (abs_same g ts)

module _ (ws : Words) (ok : book_number ws ≡ 0) (bs : Policy) where
  -- what is left of v when the pass comes to state p
  abbrev left : (ℕ → ℤ) → ℕ → ℤ
  left =
      left_of (scale ws) (togo ws) (state_count ws) (λ q. action ws q (byte_at bs q)) (λ q. (shape ws ok).step q (byte_at bs q))
      (λ q. (shape ws ok).later q (byte_at bs q)) (λ q. (shape ws ok).inside q (byte_at bs q))

  start : (v : ℕ → ℤ) → left v 0 ≡ v 0
  start v =
      left_start (scale ws) (togo ws) (state_count ws) (λ q. action ws q (byte_at bs q)) (λ q. (shape ws ok).step q (byte_at bs q))
      (λ q. (shape ws ok).later q (byte_at bs q)) (λ q. (shape ws ok).inside q (byte_at bs q)) v (shape ws ok).some_state

  step : (v : ℕ → ℤ) (p : ℕ) (own : ℤ) → p < state_count ws → v p ≡ own +ℤ expected v (action ws p (byte_at bs p)).transitions
      → left v (suc p) +ℤ pos (weights ws bs p p) *ℤ own ≡ left v p
  step =
      left_step (scale ws) (togo ws) (state_count ws) (λ q. action ws q (byte_at bs q)) (λ q. (shape ws ok).step q (byte_at bs q))
      (λ q. (shape ws ok).later q (byte_at bs q)) (λ q. (shape ws ok).inside q (byte_at bs q))

  nothing : (v : ℕ → ℤ) (p : ℕ) → state_count ws ≤ p → left v p ≡ pos 0
  nothing =
      left-none (scale ws) (togo ws) (state_count ws) (λ q. action ws q (byte_at bs q)) (λ q. (shape ws ok).step q (byte_at bs q))
      (λ q. (shape ws ok).later q (byte_at bs q)) (λ q. (shape ws ok).inside q (byte_at bs q))

  nonneg : (g : ℕ → ℕ) (p : ℕ) → pos 0 ≤ℤ left (λ q. pos (g q)) p
  nonneg =
      left_nonneg (scale ws) (togo ws) (state_count ws) (λ q. action ws q (byte_at bs q)) (λ q. (shape ws ok).step q (byte_at bs q))
      (λ q. (shape ws ok).later q (byte_at bs q)) (λ q. (shape ws ok).inside q (byte_at bs q))

  abbrev value : ℕ → ℤ
  value q = cost_to_go (scale ws) (taken ws bs) (togo ws q) q

-- the largest that a cost-to-go can be
abbrev limit : Words → ℕ → ℤ
limit ws q = pos (most ws q)

pub record Gathered (ws : Words) (ok : book_number ws ≡ 0) (bs : Policy) (p : ℕ) (acc : ℤ) : Type 0 where
  pub room : (pos (nat_abs acc) +ℤ left ws ok bs (limit ws) p) ≤ℤ limit ws 0
  pub rest : acc +ℤ left ws ok bs (value ws ok bs) p ≡ value ws ok bs 0

shuffle : (w u : ℕ) (a x l : ℤ) → (a +ℤ pos (w * u) *ℤ x) +ℤ l ≡ a +ℤ (l +ℤ pos w *ℤ (pos u *ℤ x))
shuffle w u a x l = rw (is a, is x, is l) (simp ring (dif_eq _ _ _ _ (omega arith)))

module _ (ws : Words) (ok : book_number ws ≡ 0) (bs : Policy) where
  pub none_gathered : Gathered ws ok bs 0 (pos 0)
  none_gathered =
      record {
        room = rw (start ws ok bs (limit ws), +ℤ_idl (limit ws 0)) (≤ℤ_refl (limit ws 0));
        rest = rw (start ws ok bs (value ws ok bs)) (+ℤ_idl (value ws ok bs 0));
      }

  module _ (p : ℕ) (acc : ℤ) (l : p < state_count ws) (h : Gathered ws ok bs p acc) (o : (byte_at bs p ≡ 255) ⊎ Option ws p (byte_at bs p)) where
    abbrev ts : List Transition
    ts = (action ws p (byte_at bs p)).transitions

    abbrev W : ℕ
    W = weights ws bs p p

    abbrev unit : ℕ
    unit = scale ws ^ togo ws p

    abbrev cost : ℤ
    cost = (action ws p (byte_at bs p)).cost

    -- what the limit of p has of its own: at least the action's cost
    abbrev own : ℕ
    own = most ws p - abs_expected (limit ws) ts

    within : unit * nat_abs cost + abs_expected (limit ws) ts ≤ most ws p
    within = within_most ws ok p (byte_at bs p) (limit ws) o (every_imp (λ t e. le_refl (most ws t.next)) ts ((shape ws ok).step p (byte_at bs p)))

    enough : W * (unit * nat_abs cost) ≤ W * own
    enough = mul-le-mul_left W (omega (arith, within))

    limits : left ws ok bs (limit ws) (suc p) +ℤ pos W *ℤ pos own ≡ left ws ok bs (limit ws) p
    limits = step ws ok bs (limit ws) p (pos own) l (rw (abs_same (most ws) ts) (ap pos (omega (arith, within))))

    -- the factor of the cost, and the term
    pub factor_small : W * unit ≤ 10000000000000000
    factor_small =
        let z = (accepted ws ok).sizes in
        omega (
          arith,
          reach_bound (scale ws) (togo ws) (state_count ws) (λ q. action ws q (byte_at bs q)) (λ q. (shape ws ok).step q (byte_at bs q))
              (λ q. (shape ws ok).later q (byte_at bs q)) (λ q. (shape ws ok).inside q (byte_at bs q)) (λ q. weights_bound ws ok q (byte_at bs q)) p p
              (le_refl p) l,
          power_high (scale ws) (togo ws 0) z.d_high (omega (arith, togo_start ws ok, z.h_high)),
        )

    pub term_fits : nat_abs acc + W * unit * nat_abs cost ≤ 4000000000000000000
    term_fits =
        omega (
          ints,
          h.room,
          sum_is (pos (nat_abs acc)) (left ws ok bs (limit ws) p),
          ap up limits,
          ap dn limits,
          sum_is (left ws ok bs (limit ws) (suc p)) (pos W *ℤ pos own),
          nonneg ws ok bs (most ws) (suc p),
          enough,
          most_small_lem ws ok p (byte_at bs p) 0,
        )

    abbrev next : ℤ
    next = acc +ℤ pos (W * unit) *ℤ cost

    pub one_gathered : Gathered ws ok bs (suc p) next
    unfolding taken
    one_gathered =
        record {
          room =
              omega (
                ints,
                le_in,
                h.room,
                sum_is (pos (nat_abs acc)) (left ws ok bs (limit ws) p),
                sum_is (pos (nat_abs next)) (left ws ok bs (limit ws) (suc p)),
                ap up limits,
                ap dn limits,
                sum_is (left ws ok bs (limit ws) (suc p)) (pos W *ℤ pos own),
                enough,
                abs_add acc (pos (W * unit) *ℤ cost),
                abs_mul (pos (W * unit)) cost,
              );
          rest =
              shuffle W unit acc cost (left ws ok bs (value ws ok bs) (suc p))
              ∙ ap (λ (z : ℤ). acc +ℤ z) (step ws ok bs (value ws ok bs) p (pos unit *ℤ cost) l (policy_step ws ok bs p))
              ∙ h.rest;
        }

  pub all_gathered : (p : ℕ) (acc : ℤ) → state_count ws ≤ p → Gathered ws ok bs p acc → acc ≡ cost_to_go (scale ws) (taken ws bs) (togo ws 0) 0
  all_gathered p acc l h = sym (+ℤ_idr acc) ∙ ap (λ (z : ℤ). acc +ℤ z) (sym (nothing ws ok bs (value ws ok bs) p l)) ∙ h.rest
