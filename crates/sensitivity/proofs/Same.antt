-- What the raised book says: its sizes and its transitions are those of the book, and its costs too but for the one that is raised. Where neither
-- the old nor the new cost is the mark of a closed action, its options are those of the book.
-- Assumes nothing.
use Rattle.std.specs.Prelude.{◌≡◌, Bool, true, false, ◌&&◌, cond, eqb, leb, ◌+ℤ◌, length}
use Rattle.std.proofs.Math.Path.{refl, sym, ap, ap₂}
use Rattle.std.proofs.Common.{◌∙◌, subst, arith, eqb-true}
use mathlib.Core.List.{List, map}
use Prim.Native.Nat.{ℕ, zero, suc, ◌+◌, ◌≤◌, ◌<◌}
use Rattle.std.proofs.Math.Decide.{dec_lt}
use Rattle.std.proofs.lemmas.Bool.{eqb-false}
use Rattle.std.proofs.Math.IntN.{ℤ, pos, nat_abs, +ℤ_idr}
use Rattle.std.proofs.Math.ListN.{length-set}
use Rattle.std.proofs.Math.Seq.{get_or-set_same, get_or-set_other}
use Rattle.model.specs.Lists.{sum_to, up_from, bit}
use Rattle.model.specs.Model.{Words, Transition, Action, word, scale, horizon, line_count, stage_size, first_state, state_count, stage, action_count}
use Rattle.model.specs.Model.{left, right, branches, line_after, skip, state_line, action_line, transition_at, read_action, action, closed}
use Rattle.model.specs.Questions.{book_number}
use Rattle.laws.specs.Members.{In, map_same, up_from_in}
use Rattle.laws.specs.Raises.{raise}
use Rattle.questions.specs.Ranges.{sum_same}
use Rattle.questions.specs.Stages.{of_stage}
use Rattle.accepted.specs.Facts.{accepted}
use Rattle.accepted.specs.Lines.{one_action, line_inside}
use Rattle.accepted.specs.Shape.{action_is, action-none}
use Rattle.sensitivity.specs.Raise.{cost_index, raised}

-- by how much action b of state q costs more in the raised book
abbrev pub extra : ℕ → ℕ → ℕ → ℕ → ℕ → ℕ
extra p c d q b = cond (eqb q p && eqb b c) d 0

module _ (ws : Words) (p c d : ℕ) where
  abbrev us : Words
  us = raised ws p c d

  -- ---- words

  -- "one cost of a book is raised": the book is as long, and every other word is as it was
  pub raised-length : length (raised ws p c d) ≡ length ws
  unfolding raised
  raised-length = length-set ws (cost_index ws p c) (word ws (cost_index ws p c) +ℤ pos d)

  pub other_word : (i : ℕ) → (i ≡ cost_index ws p c → ⊥) → word (raised ws p c d) i ≡ word ws i
  unfolding raised word
  other_word i n = get_or-set_other ws (cost_index ws p c) i (word ws (cost_index ws p c) +ℤ pos d) (pos 0) n

  -- all before the right column
  front-word : (i : ℕ) → i < 4 + horizon ws + state_count ws + line_count ws → word us i ≡ word ws i
  unfolding cost_index
  front-word i l = other_word i (λ e. omega arith)

  -- ---- sizes

  pub scale_same : scale (raised ws p c d) ≡ scale ws
  unfolding scale
  scale_same = ap nat_abs (front-word 0 (omega arith))

  pub horizon-same : horizon (raised ws p c d) ≡ horizon ws
  unfolding horizon
  horizon-same = ap nat_abs (front-word 1 (omega arith))

  lines_same : line_count us ≡ line_count ws
  unfolding line_count
  lines_same = ap nat_abs (front-word 2 (omega arith))

  size_same : (n : ℕ) → n ≤ horizon ws → stage_size us n ≡ stage_size ws n
  unfolding stage_size
  size_same n l = ap nat_abs (front-word (3 + n) (omega arith))

  first-same : (n : ℕ) → n ≤ horizon ws + 1 → first_state us n ≡ first_state ws n
  unfolding first_state
  first-same n l = sum_same n (stage_size us) (stage_size ws) (λ i k. size_same i (omega arith))

  pub states-same : state_count (raised ws p c d) ≡ state_count ws
  unfolding state_count
  states-same = ap (λ (h : ℕ). first_state us (h + 1)) horizon-same ∙ first-same (horizon ws + 1) (omega arith)

  stage-same : (q : ℕ) → stage us q ≡ stage ws q
  unfolding stage
  stage-same q =
      ap (λ (h : ℕ). sum_to h (λ (n : ℕ). bit (leb (first_state us (n + 1)) q))) horizon-same
      ∙ sum_same (horizon ws) (λ (n : ℕ). bit (leb (first_state us (n + 1)) q)) (λ (n : ℕ). bit (leb (first_state ws (n + 1)) q))
      (λ n l. ap (λ (m : ℕ). bit (leb m q)) (first-same (n + 1) (omega arith)))

  pub actions_same : (q : ℕ) → q < state_count ws → action_count us q ≡ action_count ws q
  unfolding action_count
  actions_same q l = ap nat_abs (ap (λ (h : ℕ). word us (4 + h + q)) horizon-same ∙ front-word (4 + horizon ws + q) (omega arith))

  -- ---- lines

  left-same : (i : ℕ) → i < line_count ws → left us i ≡ left ws i
  unfolding left
  left-same i l =
      ap₂ (λ (h s : ℕ). word us (4 + h + s + i)) horizon-same states-same ∙ front-word (4 + horizon ws + state_count ws + i) (omega arith)

  right_at : (i : ℕ) → right us i ≡ word us (4 + horizon ws + state_count ws + line_count ws + i)
  unfolding right
  right_at i = rw (horizon-same, states-same, lines_same)

  right_other : (i : ℕ) → (i ≡ action_line ws p c → ⊥) → right us i ≡ right ws i
  unfolding right cost_index
  right_other i n = right_at i ∙ other_word (4 + horizon ws + state_count ws + line_count ws + i) (λ e. n (omega arith))

  after_same : (i : ℕ) → i < line_count ws → line_after us i ≡ line_after ws i
  unfolding line_after branches
  after_same i l = ap (λ (z : ℤ). i + 1 + nat_abs z) (left-same i l)

  skip-same : (i n : ℕ) → ((m : ℕ) → m < n → skip ws i m < line_count ws) → skip us i n ≡ skip ws i n
  unfolding skip
  skip-same i zero h = refl
  skip-same i (suc n) h = ap (line_after us) (skip-same i n (λ m l. h m (omega arith))) ∙ after_same (skip ws i n) (h n (omega arith))

  module _ (ok : book_number ws ≡ 0) where
    state_line_same : (q : ℕ) → q ≤ state_count ws → state_line us q ≡ state_line ws q
    unfolding state_line action_line
    state_line_same zero l = refl
    state_line_same (suc q) l =
        ap₂ (skip us) (state_line_same q (omega arith)) (actions_same q (omega arith))
        ∙ skip-same (state_line ws q) (action_count ws q) (λ m k. line_inside ws ok q m (omega arith) k)

    line_same : (q b : ℕ) → q < state_count ws → b < action_count ws q → action_line us q b ≡ action_line ws q b
    unfolding action_line
    line_same q b l k =
        ap (λ (j : ℕ). skip us j b) (state_line_same q (omega arith)) ∙ skip-same (state_line ws q) b (λ m h. line_inside ws ok q m l (omega arith))

    -- ---- actions

    module _ (state : p < state_count ws) (own : c < action_count ws p) where
      -- "raised by d seconds"
      pub raised-word : word (raised ws p c d) (cost_index ws p c) ≡ word ws (cost_index ws p c) +ℤ pos d
      unfolding raised word cost_index
      raised-word =
          get_or-set_same ws (cost_index ws p c) (word ws (cost_index ws p c) +ℤ pos d) (pos 0)
          (omega (arith, (accepted ws ok).sizes.exact, line_inside ws ok p c state own))

      right-raised : right us (action_line ws p c) ≡ right ws (action_line ws p c) +ℤ pos d
      unfolding right cost_index
      right-raised = right_at (action_line ws p c) ∙ raised-word

      module _ (q b : ℕ) (l : q < state_count ws) (k : b < action_count ws q) where
        abbrev j : ℕ
        j = action_line ws q b

        cost-same : right us (action_line ws q b) ≡ right ws (action_line ws q b) +ℤ pos (extra p c d q b)
        unfolding line_after
        cost-same = go (eqb q p) refl (eqb b c) refl
          where
            other : ((q ≡ p) × (b ≡ c) → ⊥) → right us j ≡ right ws j +ℤ pos 0
            other n = right_other j (λ e. n (one_action ws q b p c j k own (omega arith) (omega arith) e)) ∙ sym (+ℤ_idr (right ws j))

            go : (s : Bool) → eqb q p ≡ s → (t : Bool) → eqb b c ≡ t → right us j ≡ right ws j +ℤ pos (cond (s && t) d 0)
            go true e true h =
                let m : action_line ws p c ≡ j = ap₂ (action_line ws) (sym (eqb-true q p e)) (sym (eqb-true b c h)) in
                subst (λ (x : ℕ). right us x ≡ right ws x +ℤ pos d) m right-raised
            go true e false h = other (λ n. eqb-false b c h n.1)
            go false e t h = other (λ n. eqb-false q p e n.0)

        transition-same : (x : ℕ) → In x (up_from (j + 1) (branches ws j)) → transition_at us (stage ws q) x ≡ transition_at ws (stage ws q) x
        unfolding transition_at line_after
        transition-same x h =
            ap₂ (λ (n : ℕ) (w : ℕ). transition n w)
            (ap₂ (λ (f : ℕ) (z : ℤ). f + nat_abs z) (first-same (stage ws q + 1) (omega (arith, (of_stage ws q l).within))) (left-same x (omega (arith, between, fit))))
            (ap nat_abs (right_other x (λ e. omega (arith, between, ap₂ (action_line ws) (first e).0 (first e).1))))
          where
            transition : ℕ → ℕ → Transition
            transition n w = record { next = n; weight = w }

            between : (j + 1 ≤ x) × (x < j + 1 + branches ws j)
            between = up_from_in (j + 1) (branches ws j) h

            fit : line_after ws j ≤ line_count ws
            fit = (accepted ws ok).lines_fit_lem q b l k

            first : x ≡ action_line ws p c → (q ≡ p) × (b ≡ c)
            first e = one_action ws q b p c x k own (omega (arith, between)) (omega (arith, between)) e

        read_same : read_action us (stage us q) (action_line us q b) ≡ raise (extra p c d q b) (read_action ws (stage ws q) (action_line ws q b))
        unfolding read_action branches
        read_same =
            ap₂ (read_action us) (stage-same q) (line_same q b l k)
            ∙ ap₂ made cost-same
            (ap (λ (z : ℤ). map (transition_at us (stage ws q)) (up_from (j + 1) (nat_abs z))) (left-same j (line_inside ws ok q b l k))
            ∙ map_same (transition_at us (stage ws q)) (transition_at ws (stage ws q)) (up_from (j + 1) (nat_abs (left ws j))) transition-same)
          where
            made : ℤ → List Transition → Action
            made z ts = record { cost = z; transitions = ts }

      -- action c of state p costs d more; every other is as it was
      pub action-raised : (q b : ℕ) → action (raised ws p c d) q b ≡ raise (extra p c d q b) (action ws q b)
      action-raised q b = go (dec_lt q (state_count ws)) (dec_lt b (action_count ws q))
        where
          none : (q < state_count ws → b < action_count ws q → ⊥) → action us q b ≡ raise (extra p c d q b) (action ws q b)
          none n = rw (
            action-none ws q b n,
            action-none us q b (λ l k. n (rw states-same at l) (rw (actions_same q (rw states-same at l)) at k)),
            zero_here (eqb q p) refl (eqb b c) refl,
          )
            where
              zero_here : (s : Bool) → eqb q p ≡ s → (t : Bool) → eqb b c ≡ t → cond (s && t) d 0 ≡ 0
              zero_here true e true h =
                  absurd (n (rw (eqb-true q p e) state) (rw (eqb-true q p e, eqb-true b c h) own))
              zero_here true e false h = refl
              zero_here false e t h = refl

          go : Dec (q < state_count ws) → Dec (b < action_count ws q) → action us q b ≡ raise (extra p c d q b) (action ws q b)
          go (yes l) (yes k) =
              action_is us q b (rw states-same l) (rw (actions_same q l) k)
              ∙ read_same q b l k
              ∙ ap (raise (extra p c d q b)) (sym (action_is ws q b l k))
          go (yes l) (no k) = none (λ h g. k g)
          go (no l) e = none (λ h g. l h)

      -- "raises where neither old nor new cost is the mark": the options are the same
      module _ (old : closed (action ws p c).cost ≡ false) (new : closed (action (raised ws p c d) p c).cost ≡ false) where
        pub open_same : (q b : ℕ) → closed (action us q b).cost ≡ closed (action ws q b).cost
        open_same q b = go (eqb q p) refl (eqb b c) refl
          where
            other : extra p c d q b ≡ 0 → closed (action us q b).cost ≡ closed (action ws q b).cost
            other e = rw (action-raised q b, e, +ℤ_idr (action ws q b).cost)

            go : (s : Bool) → eqb q p ≡ s → (t : Bool) → eqb b c ≡ t → closed (action us q b).cost ≡ closed (action ws q b).cost
            go true e true h = rw (eqb-true q p e, eqb-true b c h) (new ∙ sym old)
            go true e false h = other (rw (e, h))
            go false e t h = other (rw e)
