-- What the questions 1 to 7 say of the sizes, once they are passed.
-- Assumes nothing.
use Rattle.std.specs.Prelude.{◌≡◌, true, ◌&&◌, ℕ, zero, suc, ◌+◌, ◌*◌, ◌≤◌, leb, pos, nat_abs, length}
use Rattle.std.proofs.Common.{subst, arith, leb-true, eqb-true}
use Rattle.model.specs.Lists.{all}
use Rattle.model.specs.Model.{Words, word, scale, horizon, line_count, stage_size, state_count}
use Rattle.model.specs.Questions.{first_no, inside, later_size, sizes_allowed, length_allowed, size_questions}
use Rattle.questions.specs.Ranges.{and-true, all-at, inside_range}
use Rattle.questions.specs.FirstNo.{passed}

pub record Sized (ws : Words) : Type 0 where
  pub d_low : 1 ≤ scale ws
  pub d_high : scale ws ≤ 100
  pub h_high : horizon ws ≤ 8
  pub l_low : 1 ≤ line_count ws
  pub l_high : line_count ws ≤ 2048
  pub one : stage_size ws 0 ≡ 1
  pub some : (n : ℕ) → n ≤ horizon ws → (1 ≤ stage_size ws n) × (stage_size ws n ≤ 16)
  pub s_high : state_count ws ≤ 64
  pub exact : length ws ≡ 4 + horizon ws + state_count ws + 2 * line_count ws

-- 6
pub sizes_say : (ws : Words) → sizes_allowed ws ≡ true
    → (stage_size ws 0 ≡ 1) × ((n : ℕ) → n ≤ horizon ws → (1 ≤ stage_size ws n) × (stage_size ws n ≤ 16)) × (state_count ws ≤ 64)
unfolding sizes_allowed stage_size
sizes_say ws e = (one, sizes, leb-true (state_count ws) 64 p.1)
  where
    p : ((inside (pos 1) (pos 1) (word ws 3) && all (horizon ws) (later_size ws)) ≡ true) × (leb (state_count ws) 64 ≡ true)
    p = and-true (inside (pos 1) (pos 1) (word ws 3) && all (horizon ws) (later_size ws)) (leb (state_count ws) 64) e

    q : (inside (pos 1) (pos 1) (word ws 3) ≡ true) × (all (horizon ws) (later_size ws) ≡ true)
    q = and-true (inside (pos 1) (pos 1) (word ws 3)) (all (horizon ws) (later_size ws)) p.0

    one : nat_abs (word ws 3) ≡ 1
    one = let r = inside_range 1 1 (word ws 3) q.0 in omega arith

    sizes : (n : ℕ) → n ≤ horizon ws → (1 ≤ nat_abs (word ws (3 + n))) × (nat_abs (word ws (3 + n)) ≤ 16)
    sizes zero h = omega (arith, one)
    sizes (suc n) h =
        let k : 4 + n ≡ 3 + suc n = omega arith in
        subst (λ (i : ℕ). (1 ≤ nat_abs (word ws i)) × (nat_abs (word ws i) ≤ 16)) k
        (inside_range 1 16 (word ws (4 + n)) (all-at (horizon ws) (later_size ws) q.1 n (omega arith)))

pub sized : (ws : Words) → first_no size_questions ws ≡ 0 → Sized ws
unfolding scale horizon line_count length_allowed
sized ws e =
    record {
      d_low = d.0;
      d_high = d.1;
      h_high = h.1;
      l_low = l.0;
      l_high = l.1;
      one = s.0;
      some = s.1;
      s_high = s.2;
      exact = eqb-true (length ws) (4 + horizon ws + state_count ws + 2 * line_count ws) y.1.1.1.1.1.1.0;
    }
  where
    y : Rattle.questions.specs.FirstNo.AllYes size_questions ws
    y = passed ws size_questions (omega arith) e

    d : (1 ≤ nat_abs (word ws 0)) × (nat_abs (word ws 0) ≤ 100)
    d = inside_range 1 100 (word ws 0) y.1.0

    h : (1 ≤ nat_abs (word ws 1)) × (nat_abs (word ws 1) ≤ 8)
    h = inside_range 1 8 (word ws 1) y.1.1.0

    l : (1 ≤ nat_abs (word ws 2)) × (nat_abs (word ws 2) ≤ 2048)
    l = inside_range 1 2048 (word ws 2) y.1.1.1.0

    s : (stage_size ws 0 ≡ 1) × ((n : ℕ) → n ≤ horizon ws → (1 ≤ stage_size ws n) × (stage_size ws n ≤ 16)) × (state_count ws ≤ 64)
    s = sizes_say ws y.1.1.1.1.1.0
