-- What every call keeps: no rank is with two riders, the ranks are listed, and who has committed holds nothing.
-- Assumes nothing.
use Rattle.std.specs.Prelude.{◌≡◌, refl, Bool, not, ◌||◌, List, ◌⊎◌, ℕ, zero, suc, ◌<◌, ◌≤◌, eqb, length, get_or, replicate}
use Rattle.std.proofs.Common.{sym, ap, subst, ◌∙◌, inl, inr, arith, length-set, get_or-set_same, get_or-set_other}
use Rattle.std.proofs.Math.Bool.{true, false, false≢true}
use Rattle.std.proofs.Math.Decide.{dec_lt, ℕ_discrete}
use Rattle.std.proofs.lemmas.List.{length-replicate}
use Rattle.std.proofs.Math.ListN.{get_or-eq_default}
use borrow.Author.Tests.{eq-eqb, ne_eqb}
use Rattle.model.specs.Calls.{accept_count}
use Rattle.questions.specs.Ranges.{all-at}
use Rattle.reservation.specs.declared.Desk.{Desk}
use Rattle.reservation.specs.Reservations.{riders, held_by, committed_by, free, leaves, open_for, holding, taking, asking, committing, cancelling}
use Rattle.reservation.specs.Numbers.{MayAsk, ask_says, commit_says, cancel_says}
use Rattle.desk_calls.specs.Calls.{Call, asks, commits, cancels, opens, Granted, next}

-- the rank is with the rider
abbrev pub With : Desk → ℕ → ℕ → Type 0
With d i rank = (held_by d i ≡ rank) ⊎ (committed_by d i ≡ rank)

pub record Orderly (d : Desk) : Type 0 where
  pub held_long : length d.held ≡ riders
  pub committed_long : length d.committed ≡ riders
  pub once : (i j rank : ℕ) → 1 ≤ rank → With d i rank → With d j rank → i ≡ j
  pub within : (i rank : ℕ) → 1 ≤ rank → With d i rank → rank ≤ d.k
  pub either : (i : ℕ) → 1 ≤ committed_by d i → held_by d i ≡ 0

-- ---- a list of ranks

-- nobody has a rank
no_rank : (n i : ℕ) → ◌≡◌ {A = ℕ} (get_or (replicate n 0) i 0) 0
no_rank zero i = refl
no_rank (suc n) zero = refl
no_rank (suc n) (suc i) = no_rank n i

-- a number that is no rider's has none
beyond : (xs : List ℕ) → length xs ≡ riders → (i : ℕ) → 1 ≤ get_or xs i 0 → i < riders
beyond xs long i h = go (dec_lt i riders)
  where
    go : Dec (i < riders) → i < riders
    go (yes l) = l
    go (no l) = absurd (omega (arith, get_or-eq_default xs 0 {n = i} (omega (arith, long))))

-- ---- riders and ranks

-- a granted call of rider i leaves what the others have
module _ (d : Desk) (i j : ℕ) (ne : j ≡ i → ⊥) where
  pub others_hold : (rank : ℕ) → held_by (holding d i rank) j ≡ held_by d j
  others_hold rank = get_or-set_other d.held i j rank 0 ne

  pub others_take : committed_by (taking d i) j ≡ committed_by d j
  others_take = get_or-set_other d.committed i j (held_by d i) 0 ne

module _ {d : Desk} (o : Orderly d) where
  -- who has a rank is a rider
  pub is_rider_lem : (i rank : ℕ) → 1 ≤ rank → With d i rank → i < riders
  is_rider_lem i rank h (inl e) = beyond d.held o.held_long i (omega (arith, e))
  is_rider_lem i rank h (inr e) = beyond d.committed o.committed_long i (omega (arith, e))

  -- a desk of the same k with no rank that was not there
  fewer : (e : Desk) → length e.held ≡ riders → length e.committed ≡ riders → e.k ≡ d.k
      → ((j rank : ℕ) → 1 ≤ rank → With e j rank → With d j rank) → ((j : ℕ) → 1 ≤ committed_by e j → held_by e j ≡ 0) → Orderly e
  fewer e h c k there one = record {
    held_long = h;
    committed_long = c;
    once = λ i j rank l p q. o.once i j rank l (there i rank l p) (there j rank l q);
    within = λ i rank l p. omega (arith, k, o.within i rank l (there i rank l p));
    either = one;
  }

  module _ (i : ℕ) (l : i < riders) where
    pub holds : (rank j : ℕ) → j ≡ i → held_by (holding d i rank) j ≡ rank
    holds rank j q = ap (held_by (holding d i rank)) q ∙ get_or-set_same d.held i rank 0 (omega (arith, o.held_long))

    pub takes : (j : ℕ) → j ≡ i → committed_by (taking d i) j ≡ held_by d i
    takes j q = ap (committed_by (taking d i)) q ∙ get_or-set_same d.committed i (held_by d i) 0 (omega (arith, o.committed_long))

    -- ---- each granted call

    after_cancel : Orderly (holding d i 0)
    after_cancel = fewer (holding d i 0) (length-set d.held i 0 ∙ o.held_long) o.committed_long refl (λ j rank. there j rank (ℕ_discrete j i))
        (λ j. one j (ℕ_discrete j i))
      where
        there : (j rank : ℕ) → Dec (j ≡ i) → 1 ≤ rank → With (holding d i 0) j rank → With d j rank
        there j rank (yes q) h (inl e) = absurd (omega (arith, holds 0 j q))
        there j rank (no ne) h (inl e) = inl (sym (others_hold d i j ne 0) ∙ e)
        there j rank q h (inr e) = inr e

        one : (j : ℕ) → Dec (j ≡ i) → 1 ≤ committed_by d j → held_by (holding d i 0) j ≡ 0
        one j (yes q) h = holds 0 j q
        one j (no ne) h = others_hold d i j ne 0 ∙ o.either j h

    after_commit : Orderly (taking d i)
    after_commit =
        fewer (taking d i) (length-set d.held i 0 ∙ o.held_long) (length-set d.committed i (held_by d i) ∙ o.committed_long) refl
        (λ j rank. there j rank (ℕ_discrete j i)) (λ j. one j (ℕ_discrete j i))
      where
        there : (j rank : ℕ) → Dec (j ≡ i) → 1 ≤ rank → With (taking d i) j rank → With d j rank
        there j rank (yes q) h (inl e) = absurd (omega (arith, holds 0 j q))
        there j rank (yes q) h (inr e) = inl (ap (held_by d) q ∙ sym (takes j q) ∙ e)
        there j rank (no ne) h (inl e) = inl (sym (others_hold d i j ne 0) ∙ e)
        there j rank (no ne) h (inr e) = inr (sym (others_take d i j ne) ∙ e)

        one : (j : ℕ) → Dec (j ≡ i) → 1 ≤ committed_by (taking d i) j → held_by (taking d i) j ≡ 0
        one j (yes q) h = holds 0 j q
        one j (no ne) h = others_hold d i j ne 0 ∙ o.either j (omega (arith, others_take d i j ne))

  -- who is not the asker has no rank that the asker may have
  pub with_no_other : (i rank : ℕ) → 1 ≤ rank → free d i rank ≡ true → (j : ℕ) → (j ≡ i → ⊥) → With d j rank → ⊥
  unfolding free
  with_no_other i rank h f j ne w = false≢true (sym (has_it w) ∙ all-at riders (leaves d i rank) f j (is_rider_lem j rank h w))
    where
      has_it : With d j rank → leaves d i rank j ≡ false
      has_it (inl e) = rw (eq-eqb _ _ e, ne_eqb j i ne)
      has_it (inr e) = go (eqb (held_by d j) rank) (eq-eqb _ _ e) (ne_eqb j i ne)
        where
          go : (b : Bool) {c t : Bool} → c ≡ true → t ≡ false → (not (b || c) || t) ≡ false
          go true p q = q
          go false p q = rw (p, q)

  after_ask : (i rank : ℕ) → MayAsk d i rank → Orderly (holding d i rank)
  after_ask i rank m = record {
    held_long = length-set d.held i rank ∙ o.held_long;
    committed_long = o.committed_long;
    once = λ a b x h p q. apart a b x h (here a x h p) (here b x h q);
    within = λ a x h p. inside a x h (here a x h p);
    either = λ j h. one j (ℕ_discrete j i) h;
  }
    where
      -- the rank asked for, or one that was there
      here : (j x : ℕ) → 1 ≤ x → With (holding d i rank) j x → ((j ≡ i) × (x ≡ rank)) ⊎ ((j ≡ i → ⊥) × With d j x)
      here j x h w = go (ℕ_discrete j i) w
        where
          go : Dec (j ≡ i) → With (holding d i rank) j x → ((j ≡ i) × (x ≡ rank)) ⊎ ((j ≡ i → ⊥) × With d j x)
          go (yes q) (inl e) = inl (q, sym e ∙ holds i m.is rank j q)
          go (yes q) (inr e) = absurd (omega (arith, e, m.uncommitted, ap (committed_by d) q))
          go (no ne) (inl e) = inr (ne, inl (sym (others_hold d i j ne rank) ∙ e))
          go (no ne) (inr e) = inr (ne, inr e)

      apart : (a b x : ℕ) → 1 ≤ x → ((a ≡ i) × (x ≡ rank)) ⊎ ((a ≡ i → ⊥) × With d a x) → ((b ≡ i) × (x ≡ rank)) ⊎ ((b ≡ i → ⊥) × With d b x) → a ≡ b
      apart a b x h (inl p) (inl q) = p.0 ∙ sym q.0
      apart a b x h (inl p) (inr q) = absurd (with_no_other i rank m.first m.free_of b q.0 (subst (With d b) p.1 q.1))
      apart a b x h (inr p) (inl q) = absurd (with_no_other i rank m.first m.free_of a p.0 (subst (With d a) q.1 p.1))
      apart a b x h (inr p) (inr q) = o.once a b x h p.1 q.1

      inside : (a x : ℕ) → 1 ≤ x → ((a ≡ i) × (x ≡ rank)) ⊎ ((a ≡ i → ⊥) × With d a x) → x ≤ d.k
      inside a x h (inl p) = omega (arith, p.1, m.last)
      inside a x h (inr p) = o.within a x h p.1

      one : (j : ℕ) → Dec (j ≡ i) → 1 ≤ committed_by d j → held_by (holding d i rank) j ≡ 0
      one j (yes q) h = absurd (omega (arith, m.uncommitted, ap (committed_by d) q))
      one j (no ne) h = others_hold d i j ne rank ∙ o.either j h

pub opened : (k : ℕ) → Orderly (open_for k)
opened k = record {
  held_long = length-replicate {A = ℕ} riders 0;
  committed_long = length-replicate {A = ℕ} riders 0;
  once = λ i j rank h p. absurd (none i rank h p);
  within = λ i rank h p. absurd (none i rank h p);
  either = λ i h. no_rank riders i;
}
  where
    none : (i rank : ℕ) → 1 ≤ rank → With (open_for k) i rank → ⊥
    none i rank h (inl e) = omega (arith, e, no_rank riders i)
    none i rank h (inr e) = omega (arith, e, no_rank riders i)

-- every granted call leaves an orderly desk
pub stays_orderly : (d : Desk) (c : Call) → Orderly d → Granted d c → Orderly (next d c)
unfolding asking committing cancelling
stays_orderly d (asks i rank) o g = after_ask o i rank (ask_says d i rank g)
stays_orderly d (commits i) o g = after_commit o i (commit_says d i g).0
stays_orderly d (cancels i) o g = after_cancel o i (cancel_says i g)
stays_orderly d (opens bytes) o g = opened (accept_count bytes)
