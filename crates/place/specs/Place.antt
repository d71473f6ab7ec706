-- The place of policy j in bytes that are carried with two figures, whatever these are; with the figures of accepting it is the one that is shown.
-- Assumes nothing.
use Rattle.std.specs.Prelude.{◌≡◌, Bool, ◌&&◌, ℕ, zero, suc, ◌+◌, ◌*◌, ◌≤◌, ◌<◌, leb, length, drop}
use Rattle.std.proofs.Math.Path.{refl}
use Rattle.std.proofs.Common.{sym, mul-le-mul_right, suc-mul, arith, ltb-true, leb-true, lt-ltb, le-ltb, le-leb}
use Rattle.std.proofs.Math.Bool.{true, false, cond}
use mathlib.Core.List.{List, []}
use Rattle.std.proofs.Math.Dec.{ltb}
use Rattle.std.proofs.Math.ListN.{take}
use Rattle.model.specs.Model.{state_count}
use Rattle.model.specs.Record.{carried_length, carried_count, carried_book, plan_start, accept_number}
use Rattle.model.specs.Calls.{accept_states, accept_count, shown}
use Rattle.questions.specs.Ranges.{and-true}
use Rattle.questions.specs.Answers.{leaves, gives}
use Rattle.accepted.specs.Facts as book
use Rattle.record.specs.Passed.{start_is, exact_length, accept_says}
use Rattle.place.specs.declared.Place.{Place}

-- a record may have such figures, and the s bytes of policy j lie in r
abbrev pub present : List ℕ → ℕ → ℕ → ℕ → Bool
present r s k j = ltb j k && leb k 64 && leb s 64 && leb 12 (length r) && leb (plan_start r s k j + s) (length r)

unfoldable pub place_of : List ℕ → ℕ → ℕ → ℕ → Place
place_of r s k j = record { from = cond (present r s k j) (plan_start r s k j) 0; size = cond (present r s k j) s 0 }

-- "Browsing carries one record's bytes along with its S and k (both 0 unless it is accepted) from plan to plan."
-- The s bytes of policy j, as a record with these figures would have them; none where it has no place.
unfoldable pub browsed : List ℕ → ℕ → ℕ → ℕ → List ℕ
browsed r s k j = take (place_of r s k j).size (drop (place_of r s k j).from r)

-- the part lies in the bytes
pub place_in : (r : List ℕ) (s k j : ℕ) → (place_of r s k j).from + (place_of r s k j).size ≤ length r
unfolding place_of
place_in r s k j = go (present r s k j) refl
  where
    go : (t : Bool) → present r s k j ≡ t → cond t (plan_start r s k j) 0 + cond t s 0 ≤ length r
    go true e = leb-true (plan_start r s k j + s) (length r) (and-true (ltb j k && leb k 64 && leb s 64 && leb 12 (length r)) _ e).1
    go false e = omega arith

-- ---- with the figures of accepting

-- every listed policy of an accepted record is there
listed : (r : List ℕ) (s k j : ℕ) → accept_number r ≡ 0 → s ≡ state_count (carried_book r) → k ≡ carried_count r → j < k → present r s k j ≡ true
listed r s k j ok es ek h =
    let a = accept_says r ok in
    let few : k ≤ 64 = omega (arith, ek, a.sized.most, a.asked.high) in
    let small : s ≤ 64 = omega (arith, es, (book.accepted (carried_book r) a.asked.ok).sizes.s_high) in
    let q : suc j * s ≤ k * s = mul-le-mul_right {m = suc j} {n = k} s h in
    let fits : 12 + 4 * carried_length r + 8 * k + j * s + s ≤ length r = omega (arith, q, suc-mul j s, exact_length r _ k s refl ek es a.sized) in
    rw (lt-ltb j k h, le-leb k 64 few, le-leb s 64 small, le-leb 12 (length r) a.head.long, start_is r, le-leb _ (length r) fits)

module _ (r : List ℕ) (j : ℕ) where
  -- and no other
  pub shown_there : present r (accept_states r) (accept_count r) j ≡ ltb j (accept_count r)
  unfolding accept_states accept_count
  shown_there = go (accept_number r) refl
    where
      below : accept_number r ≡ 0 → (t : Bool) → ltb j (accept_count r) ≡ t → present r (accept_states r) (accept_count r) j ≡ t
      below ok true e = listed r _ _ j ok (sym (gives ok 0 refl)) (sym (gives ok 0 refl)) (ltb-true j (accept_count r) e)
      below ok false e = rw e

      go : (n : ℕ) → accept_number r ≡ n → present r (accept_states r) (accept_count r) j ≡ ltb j (accept_count r)
      go zero e = below e (ltb j (accept_count r)) refl
      go (suc n) e = rw (← leaves (sym e) (λ z. omega arith) (carried_count r) 0, le-ltb j 0 (omega arith))

  -- so it is the one that is shown
  pub browsed-shown : {s k : ℕ} → s ≡ accept_states r → k ≡ accept_count r → browsed r s k j ≡ shown r j
  unfolding browsed place_of shown
  browsed-shown es ek = rw (es, ek, shown_there) (go (ltb j (accept_count r)) _ _)
    where
      go : (t : Bool) (s p : ℕ) → take (cond t s 0) (drop (cond t p 0) r) ≡ cond t (take s (drop p r)) []
      go true s p = refl
      go false s p = refl
