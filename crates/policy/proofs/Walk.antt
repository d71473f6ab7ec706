-- All that the pass knows when it comes to state p: the bytes before p, the costs there, and where p stands.
-- Assumes nothing.
use mathlib.Core.Path.{◌≡◌, sym, ap, ◌∙◌}
use mathlib.Core.Bool.{true, false, not, true≢false}
use mathlib.Core.Logic.{◌⊎◌}
use mathlib.Core.List.{List}
use Prim.Native.Nat.{ℕ, zero, suc, ◌+◌, ◌*◌, ◌^◌, ◌≤◌, ◌<◌}
use native.Mathlib.Numerals.{add-one}
use native.Mathlib.Omega.{arith}
use lib.Dec.{eqb, eqb-suc-zero}
use lib.IntN.{ℤ, pos, nat_abs, ◌+ℤ◌, ◌*ℤ◌, +ℤ_idr, zero-*ℤ}
use lib.ListN.{length, get_or}
use Rattle.model.specs.Lists.{is_in}
use Rattle.model.specs.Model.{Words, scale, horizon, state_count, togo, state_line, action, options}
use Rattle.model.specs.Questions.{book_number}
use Rattle.model.specs.Policy.{Policy, allowed, is_policy}
use Rattle.model.specs.Path.{byte_at, taken, policy_cost}
use Rattle.model.specs.Recursion.{cost_to_go}
use Rattle.laws.specs.Members.{true-T}
use Rattle.accepted.specs.Facts.{accepted}
use Rattle.accepted.specs.Options.{Option}
use Rattle.accepted.specs.Shape.{togo_start}
use Rattle.accepted.specs.Demands.{cost_recursion}
use Rattle.splits.specs.Reach.{spread}
use Rattle.book.specs.Read.{StageNear, StageFor}
use Rattle.book.specs.declared.Stage.{Stage}
use Rattle.book.specs.declared.Sizes.{Sizes}
use Rattle.book.proofs.Stages.{start_near, next_near}
use Rattle.index.specs.Index.{Checked}
use Rattle.index.proofs.Lines.{line_start}
use Rattle.lines.specs.Lines.{word_of}
use Rattle.reach.specs.Weights.{weight_at, first_weights, Holds}
use Rattle.reach.proofs.Bound.{weights}
use Rattle.policy.proofs.Pass as pass
use Rattle.policy.proofs.Pass.{Pass, weighs, byte, byte_cases, pass_on, pass_unreached, finish}
use Rattle.policy.proofs.Gather.{Gathered, none_gathered, factor_small, term_fits, one_gathered, all_gathered}

pub record Walk (ws : Words) (bs : Policy) (p : ℕ) (t : Stage) (at : ℕ) (w : List ℕ) (cost : ℤ) : Type 0 where
  pub ok : book_number ws ≡ 0
  pub state : p ≤ state_count ws
  pub few : state_count ws ≤ 64
  pub near : StageNear ws p t
  pub begins : at ≡ word_of ws p 0
  pub bytes : Pass ws bs p w
  pub costs : Gathered ws ok bs p cost

pub begin : (ws : Words) (z : Sizes) → Checked ws z → (bs : Policy) (w : List ℕ) → length bs ≡ state_count ws → Holds w first_weights
    → Walk ws bs 0 (record { n = 0; end = 1 }) z.columns w (pos 0)
unfolding state_line
begin ws z k bs w e h =
    let a = (accepted ws k.ok).sizes in
    let first : 4 + horizon ws + state_count ws ≡ word_of ws 0 0 = omega (arith, line_start ws 0) in
    record {
      ok = k.ok;
      state = omega arith;
      few = a.s_high;
      near = start_near ws a;
      begins = k.sizes.columns_is ∙ first;
      bytes = pass.begin ws k.ok bs w e h;
      costs = none_gathered ws k.ok bs;
    }

module _ {ws : Words} {bs : Policy} {p : ℕ} {t : Stage} {at : ℕ} {w : List ℕ} {cost : ℤ} (h : Walk ws bs p t at w cost) where
  pub finished : state_count ws ≤ p → (is_policy ws bs ≡ true) × (cost ≡ policy_cost ws bs)
  finished l = (is, costs_are)
    where
      is : is_policy ws bs ≡ true
      is = finish ws bs p w h.bytes l

      costs_are : cost ≡ policy_cost ws bs
      costs_are =
          all_gathered ws h.ok bs p cost l h.costs
          ∙ ap (λ (m : ℕ). cost_to_go (scale ws) (taken ws bs) m 0) (togo_start ws h.ok) ∙ sym (cost_recursion ws h.ok bs (true-T is))

  module _ (l : p < state_count ws) (fit : is_in (get_or bs p 0) (allowed (options ws p) (weighs w p)) ≡ true) where
    -- the weight of p times its unit, and that times its action's cost
    abbrev y : ℕ
    y = get_or w p 0

    abbrev unit : ℕ
    unit = scale ws ^ togo ws p

    abbrev own : ℤ
    own = (action ws p (get_or bs p 0)).cost

    weight : weights ws bs p p ≡ y
    weight = sym (h.bytes.held.at p)

    own_is : (action ws p (byte_at bs p)).cost ≡ own
    own_is = ap (λ (b : ℕ). (action ws p b).cost) (byte ws bs p w h.bytes l)

    cases : (byte_at bs p ≡ 255) ⊎ Option ws p (byte_at bs p)
    cases = byte_cases ws bs p w h.bytes l fit

    pub small : y * unit ≤ 10000000000000000
    small = rw (← weight) (factor_small ws h.ok bs p cost l h.costs cases)

    pub fits : nat_abs cost + y * unit * nat_abs own ≤ 4000000000000000000
    fits = rw (← weight, ← own_is) (term_fits ws h.ok bs p cost l h.costs cases)

    gathered : Gathered ws h.ok bs (p + 1) (cost +ℤ pos (y * unit) *ℤ own)
    gathered = rw (← weight, ← own_is, add-one p) (one_gathered ws h.ok bs p cost l h.costs cases)

    module _ (u : Stage) (on : StageFor ws p u) (k : ℕ) (next : k ≡ word_of ws (p + 1) 0) where
      go_on : (v : List ℕ) (x : ℤ) → Pass ws bs (p + 1) v → x ≡ cost +ℤ pos (y * unit) *ℤ own → Walk ws bs (p + 1) u k v x
      go_on v x b e =
          record {
            ok = h.ok;
            state = omega arith;
            few = h.few;
            near = next_near ws p u on;
            begins = next;
            bytes = b;
            costs = rw e gathered;
          }

      pub reached_on : (v : List ℕ) → Holds v (spread (weight_at w p) (action ws p (get_or bs p 0)).transitions (weight_at w))
          → (x : ℤ) → x ≡ cost +ℤ pos (y * unit) *ℤ own → Walk ws bs (p + 1) u k v x
      reached_on v s x e = go_on v x (pass_on ws bs p w h.bytes l fit h.ok v s) e

      pub unreached_on : weighs w p ≡ false → Walk ws bs (p + 1) u k w cost
      unreached_on r = go_on w cost (pass_unreached ws bs p w h.bytes l fit h.ok r) (same y r)
        where
          same : (n : ℕ) → not (eqb n 0) ≡ false → cost ≡ cost +ℤ pos (n * unit) *ℤ own
          same zero e =
              let none : 0 * unit ≡ 0 = omega arith in
              sym (ap (λ (m : ℕ). cost +ℤ pos m *ℤ own) none ∙ ap (λ (z : ℤ). cost +ℤ z) (zero-*ℤ own) ∙ +ℤ_idr cost)
          same (suc n) e = absurd (true≢false (sym (ap not (eqb-suc-zero n)) ∙ e))
