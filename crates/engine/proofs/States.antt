-- What a candidate adds to the pool, state by state from its split state on.
-- Assumes nothing.
use mathlib.Core.Path.{◌≡◌, refl, sym, ap, ◌∙◌, subst}
use mathlib.Core.Bool.{Bool, true, false, not, ◌&&◌}
use mathlib.Core.List.{List, [], ◌∷◌}
use Prim.Native.Nat.{ℕ, zero, suc, ◌+◌, ◌-◌, ◌≤◌, ◌<◌}
use native.Mathlib.Nat.{zero-add}
use native.Mathlib.Decide.{dec_lt}
use native.Mathlib.Omega.{arith}
use borrow.Author.Tests.{lt-leb}
use lib.Dec.{eqb}
use Rattle.model.specs.Model.{Words}
use Rattle.model.specs.Path.{byte_at}
use Rattle.splits.specs.Search.{admit}
use Rattle.stored.specs.Entry.{Entry, earlier_entry}
use Rattle.stored.specs.Lists.{left}
use Rattle.stored.specs.Children.{mask_at, child_entry, add_if, splits_at, child_entries}
use Rattle.stored.specs.Runs.{itself}
use Rattle.child.specs.Children.{admitted}
use Rattle.engine.specs.Engine.{admitted_from}

-- one state, then the others
admit_two : (b : Bool) (xs : List ℕ) (d : Entry) (rest : List Entry) (k : ℕ) (es : List Entry)
    → admit earlier_entry itself k (add_if b xs d rest) es ≡ admit earlier_entry itself k rest (admit earlier_entry itself k (add_if b xs d []) es)
admit_two false xs d rest k es = refl
admit_two true [] d rest k es = refl
admit_two true (x ∷ xs) d rest k es = refl

module _ (ws : Words) (e : Entry) where
  -- there is nothing to add before the split state
  skip : (m p n : ℕ) → p + m ≡ e.split → child_entries ws e p (m + n) ≡ child_entries ws e e.split n
  skip zero p n h = subst (λ (i : ℕ). child_entries ws e p (0 + n) ≡ child_entries ws e i n) (omega arith) (ap (child_entries ws e p) (zero-add n))
  skip (suc m) p n h =
      let q : suc m + n ≡ suc (m + n) = omega arith in
      ap (child_entries ws e p) q
      ∙ ap (λ (t : Bool). add_if (t && not (eqb (byte_at e.plan p) 255)) (left ws p (mask_at e p)) (child_entry ws e p) (child_entries ws e (suc p) (m + n)))
      (lt-leb e.split p (omega arith))
      ∙ skip m (suc p) n (omega arith)

  none_yet : (n p : ℕ) → p + n ≤ e.split → child_entries ws e p n ≡ []
  none_yet zero p h = refl
  none_yet (suc n) p h =
      ap (λ (t : Bool). add_if (t && not (eqb (byte_at e.plan p) 255)) (left ws p (mask_at e p)) (child_entry ws e p) (child_entries ws e (suc p) n))
      (lt-leb e.split p (omega arith))
      ∙ none_yet n (suc p) (omega arith)

  pub from_split : (k n : ℕ) (es : List Entry) → admitted_from ws k e e.split (n - e.split) es ≡ admitted_from ws k e 0 n es
  from_split k n es = ap (λ (cs : List Entry). admit earlier_entry itself k cs es) (go (dec_lt n e.split))
    where
      go : Dec (n < e.split) → child_entries ws e e.split (n - e.split) ≡ child_entries ws e 0 n
      go (yes l) =
          let none : n - e.split ≡ 0 = omega arith in
          ap (child_entries ws e e.split) none ∙ sym (none_yet n 0 (omega arith))
      go (no l) =
          let all : e.split + (n - e.split) ≡ n = omega arith in
          sym (skip e.split 0 (n - e.split) (zero-add e.split)) ∙ ap (child_entries ws e 0) all

  pub state_more : (k p n : ℕ) (es : List Entry) → p < n → admitted_from ws k e p (n - p) es ≡ admitted_from ws k e (p + 1) (n - (p + 1)) (admitted ws k e p es)
  state_more k p n es h =
      let m-is : n - p ≡ suc (n - (p + 1)) = omega arith in
      let next : suc p ≡ p + 1 = omega arith in
      ap (λ (m : ℕ). admitted_from ws k e p m es) m-is
      ∙ admit_two (splits_at e p) (left ws p (mask_at e p)) (child_entry ws e p) (child_entries ws e (suc p) (n - (p + 1))) k es
      ∙ ap (λ (i : ℕ). admitted_from ws k e i (n - (p + 1)) (admitted ws k e p es)) next

  pub states-end : (k p n : ℕ) (es : List Entry) → n ≤ p → admitted_from ws k e p (n - p) es ≡ es
  states-end k p n es h =
      let none : n - p ≡ 0 = omega arith in
      ap (λ (m : ℕ). admitted_from ws k e p m es) none
