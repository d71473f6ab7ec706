-- Stages: a state that lies between a stage's first state and the next stage's first is of that stage.
-- Assumes nothing.
use Rattle.std.specs.Prelude.{◌≡◌, refl, false, ◌⊎◌, ℕ, zero, suc, ◌+◌, ◌≤◌, ◌<◌, leb, eqb}
use Rattle.std.proofs.Common.{sym, ◌∙◌, subst, inl, inr, eq-or-lt_of_le, add-one, arith, le-leb}
use Rattle.std.proofs.Math.Decide.{dec_lt}
use Rattle.std.proofs.lemmas.Bool.{lt-leb, eqb-false}
use Rattle.model.specs.Lists.{sum_to, bit}
use Rattle.model.specs.Model.{Words, horizon, stage_size, first_state, state_count, stage}
use Rattle.questions.specs.Ranges.{sum_mono, sum_step}

pub first_mono : (ws : Words) (m n : ℕ) → m ≤ n → first_state ws m ≤ first_state ws n
unfolding first_state
first_mono ws m n h = sum_mono m n (stage_size ws) h

pub first_step : (ws : Words) (n : ℕ) → first_state ws (n + 1) ≡ first_state ws n + stage_size ws n
unfolding first_state
first_step ws n = sum_step n (stage_size ws)

pub first-zero : (ws : Words) → first_state ws 0 ≡ 0
unfolding first_state
first-zero ws = refl

-- state p is of stage n
pub record OfStage (ws : Words) (p n : ℕ) : Type 0 where
  pub within : n ≤ horizon ws
  pub from : first_state ws n ≤ p
  pub to : p < first_state ws (n + 1)

-- how many of the m stages after stage 0 begin at or before p
abbrev begun : Words → ℕ → ℕ → ℕ
begun ws p m = sum_to m (λ (i : ℕ). bit (leb (first_state ws (i + 1)) p))

module _ (ws : Words) (p n : ℕ) (from : first_state ws n ≤ p) (to : p < first_state ws (n + 1)) where
  begun_under : (m : ℕ) → m ≤ n → begun ws p m ≡ m
  begun_under zero h = refl
  begun_under (suc m) h =
      let low : first_state ws (m + 1) ≤ p = omega (arith, first_mono ws (m + 1) n (omega arith)) in
      rw (begun_under m (omega arith), le-leb (first_state ws (m + 1)) p low) (omega arith)

  begun-over : (m : ℕ) → n ≤ m → begun ws p m ≡ n
  begun-over zero h = omega arith
  begun-over (suc m) h = go (eq-or-lt_of_le h) (begun-over m)
    where
      go : (n ≡ suc m) ⊎ (n < suc m) → (n ≤ m → begun ws p m ≡ n) → begun ws p (suc m) ≡ n
      go (inl e) ih = begun_under (suc m) (omega arith) ∙ sym e
      go (inr l) ih =
          let high : p < first_state ws (m + 1) = omega (arith, first_mono ws (n + 1) (m + 1) (omega arith)) in
          rw (ih (omega arith), lt-leb (first_state ws (m + 1)) p high) (omega arith)

pub stage_is : (ws : Words) (p n : ℕ) → OfStage ws p n → stage ws p ≡ n
unfolding stage
stage_is ws p n o = begun-over ws p n o.from o.to (horizon ws) o.within

-- every state of the model is of a stage
some_stage : (ws : Words) (p : ℕ) → p < state_count ws → (n : ℕ) × OfStage ws p n
unfolding state_count
some_stage ws p h = look (horizon ws) (omega arith) h
  where
    look : (n : ℕ) → n ≤ horizon ws → p < first_state ws (n + 1) → (n : ℕ) × OfStage ws p n
    look zero l t = (0, record { within = omega arith; from = omega (arith, first-zero ws); to = t })
    look (suc n) l t = go (dec_lt p (first_state ws (suc n))) (look n (omega arith))
      where
        go : Dec (p < first_state ws (suc n)) → (p < first_state ws (n + 1) → (n : ℕ) × OfStage ws p n) → (n : ℕ) × OfStage ws p n
        go (yes b) ih = ih (subst (λ (k : ℕ). p < first_state ws k) (sym (add-one n)) b)
        go (no b) ih = (suc n, record { within = l; from = omega arith; to = t })

pub of_stage : (ws : Words) (p : ℕ) → p < state_count ws → OfStage ws p (stage ws p)
of_stage ws p h = let s = some_stage ws p h in subst (OfStage ws p) (sym (stage_is ws p s.0 s.1)) s.1

-- a state that is not of stage H is of one before it
pub stage-before : (ws : Words) (p : ℕ) → p < state_count ws → eqb (stage ws p) (horizon ws) ≡ false → stage ws p < horizon ws
stage-before ws p l e = go (eq-or-lt_of_le (of_stage ws p l).within)
  where
    go : (stage ws p ≡ horizon ws) ⊎ (stage ws p < horizon ws) → stage ws p < horizon ws
    go (inl q) = absurd (eqb-false (stage ws p) (horizon ws) e q)
    go (inr h) = h
